-- The commands of a batch in turn, over any kind of book B: the reference model's, the run's over the flash store, the code's. Each command finds the
-- session and the book that those before it left. Assumes nothing.
use Rattle.std.specs.Prelude.{List, [], ◌∷◌, ◌++◌, ℕ, ◌+◌}
use Rattle.laws.specs.Update.{list_below, only}
use Rattle.layout.specs.Layout.{panels}
use Rattle.command.specs.declared.Command.{Command}
use Rattle.book.specs.Command.{Reply}
use Rattle.book.specs.Session.{Session}
use Rattle.book.specs.SessionAfter.{session_after}

-- One number for each panel, 0 to 15; and nothing charged to any.
unfoldable pub each_panel : (ℕ → ℕ) → List ℕ
each_panel f = list_below panels f

abbrev pub no_charges : List ℕ
no_charges = each_panel (λ q. 0)

-- What a command is answered on such a book, and the book after it: both may ask the session.
module _ {B : Type 0} (reply : Session → Command → B → Reply) (done : Session → Command → B → B) where
  -- After all: the book.
  abbrev pub after_all : List Command → Session → B → B
  after_all [] n b = b
  after_all (c ∷ cs) n b = after_all cs (session_after c (reply n c b) n) (done n c b)

  -- What each is answered.
  abbrev pub replies_to : List Command → Session → B → List Reply
  replies_to [] n b = []
  replies_to (c ∷ cs) n b = reply n c b ∷ replies_to cs (session_after c (reply n c b) n) (done n c b)

  -- The session that they leave; and what others behind them are answered, in it and on the book that they leave.
  abbrev pub session_after_all : List Command → Session → B → Session
  session_after_all [] n b = n
  session_after_all (c ∷ cs) n b = session_after_all cs (session_after c (reply n c b) n) (done n c b)

  abbrev pub replies_behind : List Command → List Command → Session → B → List Reply
  replies_behind before cs n b = replies_to cs (session_after_all before n b) (after_all before n b)

  -- What each gives, all in a row.
  abbrev pub in_row : {A : Type 0} → (Session → Command → B → List A) → List Command → Session → B → List A
  in_row give [] n b = []
  in_row give (c ∷ cs) n b = give n c b ++ in_row give cs (session_after c (reply n c b) n) (done n c b)

  -- What all cost together.
  abbrev pub total : (Session → Command → B → ℕ) → List Command → Session → B → ℕ
  total cost [] n b = 0
  total cost (c ∷ cs) n b = cost n c b + total cost cs (session_after c (reply n c b) n) (done n c b)

  -- Document 02, P2: what panel q is charged, "that of the panel's own commands": what each costs is the charge of the current panel, and of
  -- no other.
  abbrev pub charge_on : (Session → Command → B → ℕ) → ℕ → List Command → Session → B → ℕ
  charge_on cost q [] n b = 0
  charge_on cost q (c ∷ cs) n b = only n.panel (cost n c b) q + charge_on cost q cs (session_after c (reply n c b) n) (done n c b)
