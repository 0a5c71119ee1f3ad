-- The node requests of a command with 32-bit numbers, on a book with 32-bit numbers, have 32-bit numbers. Assumes nothing.
use Rattle.std.specs.Prelude.{Bool, List, ℕ, ◌≤◌}
use Rattle.std.proofs.Common.{arith}
use Rattle.laws.specs.Every.{Every, none}
use Rattle.pairs.specs.Pairs.{Pair}
use Rattle.command.specs.declared.Command.{Command}
use Rattle.command.specs.Command.{Valid}
use Rattle.page.specs.Limits.{bound16}
use Rattle.tree.specs.Spells.{Spells}
use Rattle.node.specs.Narrow.{Narrow}
use Rattle.tree.specs.Narrow.{NarrowRequest}
use Rattle.tree_laws.specs.NarrowLaws.{put_narrow, delete_narrow, reads_narrow}
use Rattle.book.specs.Book.{Book}
use Rattle.book.specs.Command.{Reply, Task, looks, puts, deletes, names, task_of, requests_of, requests}
use Rattle.book.specs.Session.{Session}
use Rattle.book.specs.OrderedMap.{map_answer}
use Rattle.demands.specs.Commands.{Right, right}

module _ (limit : ℕ) (b : Book) (ps : List Pair) (s : Spells b.table b.count ps) (few : b.count ≤ bound16)
    (narrow : (i : ℕ) → Narrow (b.table i)) where
  task_narrow : (t : Task) (says : Bool → Reply) → Right b ps t says → Every NarrowRequest (requests_of limit t b)
  task_narrow (looks l) says r = reads_narrow (l.reads b)
  task_narrow (puts k v) says r = put_narrow b.table b.count ps s few (λ i l. narrow i) k r.0 limit v r.1
  task_narrow (deletes k) says r = delete_narrow b.table b.count ps s few (λ i l. narrow i) k r.0
  task_narrow (names panel) says r = none

  pub command_narrow : (n : Session) (c : Command) → Valid c → Every NarrowRequest (requests limit n c b)
  unfolding requests
  command_narrow n c valid = task_narrow (task_of n c) (λ refused. map_answer n refused c ps) (right b ps s (omega arith) n c valid)
