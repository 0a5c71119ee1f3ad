-- A command among others, over any kind of book: it finds what those before it leave. Assumes nothing.
use Rattle.std.specs.Prelude.{◌≡◌, refl, List, [], ◌∷◌, ◌++◌}
use Rattle.std.proofs.Common.{ap}
use Rattle.command.specs.declared.Command.{Command}
use Rattle.book.specs.Command.{Reply}
use Rattle.book.specs.Session.{Session}
use Rattle.book.specs.SessionAfter.{session_after}
use Rattle.book.specs.InTurn.{after_all, replies_to, session_after_all, replies_behind}

module _ {B : Type 0} (reply : Session → Command → B → Reply) (done : Session → Command → B → B) where
  -- One command among others: it is answered on the book that those before it leave.
  pub replies_to_among : (before : List Command) (c : Command) (after : List Command) (n : Session) (b : B) →
      replies_to reply done (before ++ (c ∷ after)) n b ≡
      replies_to reply done before n b ++
      (reply (session_after_all reply done before n b) c (after_all reply done before n b) ∷ replies_behind reply done (before ++ (c ∷ [])) after n b)
  replies_to_among [] c after n b = refl
  replies_to_among (d ∷ before) c after n b =
      ap (reply n d b ∷◌) (replies_to_among before c after (session_after d (reply n d b) n) (done n d b))
