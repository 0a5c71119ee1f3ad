-- The commands of a batch in turn, worked, since the reference model and the run share what is said of it: who is charged, what each command finds, and
-- what it is answered. Assumes nothing.
use Rattle.std.specs.Prelude.{◌≡◌, refl, List, [], ◌∷◌, ◌++◌, map, ℕ, ◌+◌, ◌*◌, length}
use Rattle.layout.specs.Layout.{no_leaf, last_key}
use Rattle.account.specs.declared.Tariff.{Tariff}
use Rattle.account.specs.Serve.{fresh}
use Rattle.pairs.specs.Pairs.{lookup, range, has_above}
use Rattle.command.specs.declared.Command.{Command}
use Rattle.command.specs.declared.Command.TheVariants.{Get, Put, Delete, Scan, Panel, Ceiling}
use Rattle.command.specs.declared.Answer.TheVariants.{Absent, Got, Replaced, Deleted}
use Rattle.command.specs.Command.{room_for}
use Rattle.node.specs.declared.Shape.TheVariants.{Leaf}
use Rattle.node.specs.Node.{node}
use Rattle.tree.specs.Table.{path, leaf_for}
use Rattle.tree.specs.Get.{get_answer}
use Rattle.tree.specs.Put.{full_run, ids_needed, put_refused}
use Rattle.tree.specs.Scan.{stops_in, pairs_from, scan_answer}
use Rattle.book.specs.Book.{Book}
use Rattle.book.specs.Command.{Reply, short, listed, nearest, silent, answer}
use Rattle.book.specs.Session.{Session, at_first}
use Rattle.book.specs.InTurn.{each_panel, after_all, replies_to, in_row, total, charge_on}

-- CHARGES BY PANEL, of a book on which every command costs as much as its answer has room, and nothing is kept: the current panel pays, panel 0 at first,
-- and no other, whatever is answered.
abbrev Replies : Type 0
Replies = Session → Command → Unit {0} → Reply

abbrev charges_to : Tariff → Replies → List Command → List ℕ
charges_to t reply cs = each_panel (λ q. charge_on reply (λ n c b. b) (λ n c b. room_for c) q cs (at_first t) tt)

-- Panel 0 is the first; a panel is current until the next is named; it may be named again; 15 is the last.
pub worked_panels : (t : Tariff) (reply : Replies) →
    charges_to t reply
    (Get 2 ∷ Panel 3 ∷ Delete 10 ∷ Scan 0 9 2 ∷ Panel 15 ∷ Panel 15 ∷ Get 5 ∷ Panel 3 ∷ Ceiling 4 ∷ Panel 0 ∷ Put 100 1 ∷ Panel 7 ∷ []) ≡
    14 ∷ 0 ∷ 0 ∷ 37 ∷ 0 ∷ 0 ∷ 0 ∷ 0 ∷ 0 ∷ 0 ∷ 0 ∷ 0 ∷ 0 ∷ 0 ∷ 0 ∷ 7 ∷ []
unfolding each_panel
worked_panels t reply = refl

-- "Names the panel .. for the commands after it", all of them: a get, a put, a delete, a scan and a ceiling, each with a get behind it, for panels 1 to
-- 5; panel 6 named twice; then panel 0 named again.
pub worked_keeps : (t : Tariff) (reply : Replies) →
    charges_to t reply
    (Panel 1 ∷ Get 2 ∷ Get 2 ∷
    Panel 2 ∷ Put 100 1 ∷ Get 2 ∷
    Panel 3 ∷ Delete 10 ∷ Get 2 ∷
    Panel 4 ∷ Scan 0 9 2 ∷ Get 2 ∷
    Panel 5 ∷ Ceiling 4 ∷ Get 2 ∷
    Panel 6 ∷ Panel 6 ∷ Get 2 ∷
    Panel 0 ∷ Get 2 ∷ []) ≡
    7 ∷ 14 ∷ 14 ∷ 14 ∷ 26 ∷ 18 ∷ 7 ∷ 0 ∷ 0 ∷ 0 ∷ 0 ∷ 0 ∷ 0 ∷ 0 ∷ 0 ∷ 0 ∷ []
unfolding each_panel
worked_keeps t reply = refl

-- WHAT EACH FINDS, of a book that writes down who came: a command leaves its panel in the hundreds and its room. Each finds the session and the book that
-- those before it left, in the order of the batch.
abbrev four : List Command
four = Get 2 ∷ Panel 3 ∷ Put 100 1 ∷ Scan 0 9 2 ∷ []

abbrev noted : Session → Command → List ℕ → List ℕ
noted n c b = b ++ ((100 * n.panel + room_for c) ∷ [])

abbrev found : Session → Command → List ℕ → List ℕ
found n c b = n.panel ∷ length b ∷ []

abbrev told : Session → Command → List ℕ → Reply
told n c b = listed ((n.panel, length b) ∷ [])

pub worked_after : (t : Tariff) → after_all told noted four (at_first t) [] ≡ 7 ∷ 0 ∷ 307 ∷ 319 ∷ []
worked_after t = refl

pub worked_replies : (t : Tariff) → replies_to told noted four (at_first t) [] ≡
    listed ((0, 0) ∷ []) ∷ listed ((0, 1) ∷ []) ∷ listed ((3, 2) ∷ []) ∷ listed ((3, 3) ∷ []) ∷ []
worked_replies t = refl

pub worked_row : (t : Tariff) → in_row told noted found four (at_first t) [] ≡ 0 ∷ 0 ∷ 0 ∷ 1 ∷ 3 ∷ 2 ∷ 3 ∷ 3 ∷ []
worked_row t = refl

pub worked_total : (t : Tariff) → total told noted (λ n c b. 10 * n.panel + length b) four (at_first t) [] ≡ 66
worked_total t = refl

-- WHAT EACH IS ANSWERED, on a book of one leaf that has 7 with 100 and FFFFFFFF with 1: a key that is there and one that is not; pairs; the next route
-- up, to the last key there is; a panel.
abbrev one_leaf : Book
one_leaf = record { count = 1; table = λ i. node Leaf ((7, 100) ∷ (last_key, 1) ∷ []) no_leaf; account = λ i. fresh }

pub worked_answers : (t : Tariff) →
    map (λ c. answer 20 (at_first t) c one_leaf)
    (Get 7 ∷ Get 8 ∷ Put 7 5 ∷ Put 8 5 ∷ Delete 7 ∷ Delete 8 ∷ Scan 0 last_key 2 ∷ Ceiling 7 ∷ Ceiling 8 ∷ Ceiling last_key ∷ Panel 3 ∷ []) ≡
    short (Got 100) ∷
    short Absent ∷
    short (Replaced 100) ∷
    short Absent ∷
    short (Deleted 100) ∷
    short Absent ∷
    listed ((7, 100) ∷ (last_key, 1) ∷ []) ∷
    nearest (7, 100) ∷
    nearest (last_key, 1) ∷
    nearest (last_key, 1) ∷
    silent ∷
    []
unfolding answer get_answer lookup leaf_for path full_run ids_needed put_refused range has_above stops_in pairs_from scan_answer
worked_answers t = refl
