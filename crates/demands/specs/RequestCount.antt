-- How many node requests a command makes: at most 32 more than there are nodes. A command reads each node at most once, and what it writes
-- goes along its way up: a branch has two children or more, so a tree has at least three times as many nodes as levels below the root, and a
-- put's way down and up again is no longer than that and four. Assumes nothing.
use Rattle.std.specs.Prelude.{Bool, List, ℕ, zero, suc, ◌+◌, ◌*◌, ◌≤◌, ◌<◌, length, Option, None, Some}
use native.Mathlib.Omega.{arith}
use Rattle.std.proofs.Math.ListN.{length-append}
use Rattle.std.proofs.lemmas.List.{length-map}
use Rattle.layout.specs.Layout.{no_leaf, bound32}
use Rattle.pairs.specs.Pairs.{Pair}
use Rattle.command.specs.declared.Command.{Command}
use Rattle.command.specs.Command.{Valid}
use Rattle.tree.specs.Table.{Table, path, leaf_for}
use Rattle.tree.specs.NodeRequest.{read}
use Rattle.tree.specs.Get.{reads_to, get_answer}
use Rattle.tree.specs.Delete.{deletion_for, delete_requests}
use Rattle.tree.specs.Spells.{Spells}
use Rattle.tree_laws.specs.Size.{size-count}
use Rattle.tree_laws.specs.GetLaws.{path-count}
use Rattle.tree_laws.specs.PutLaws.{put-length}
use Rattle.book.specs.Book.{Book}
use Rattle.book.specs.Command.{most_requests, Reply, Task, looks, puts, deletes, names, task_of, requests_of, requests}
use Rattle.book.specs.Session.{Session}
use Rattle.book.specs.OrderedMap.{map_answer}
use Rattle.tree_laws.specs.Levels.{fewest_nodes, stands_fewest}
use Rattle.demands.specs.Commands.{Right, right}

-- The fewest nodes of a tree are three at least for each level below its root.
fewest_nodes-above : (d : ℕ) → suc d ≤ fewest_nodes d
fewest_nodes-above zero = omega arith
fewest_nodes-above (suc d) = omega (arith, fewest_nodes-above d)

fewest_nodes_three : (d : ℕ) → 3 * d ≤ fewest_nodes d
fewest_nodes_three zero = omega arith
fewest_nodes_three (suc zero) = omega arith
fewest_nodes_three (suc (suc d)) = omega (arith, fewest_nodes_three (suc d), fewest_nodes-above (suc d))

module _ (table : Table) (count : ℕ) (pairs : List Pair) (s : Spells table count pairs) where
  pub depth_three : 3 * s.depth ≤ count
  depth_three =
      omega (
        arith,
        fewest_nodes_three s.depth,
        stands_fewest s.depth table s.tree 0 bound32 no_leaf s.stands,
        size-count table count pairs s,
      )

  reads-length : (k : ℕ) → k < bound32 → length (reads_to count table k) ≤ count
  reads-length k small = omega (arith, length-map (path count table k 0) read, path-count table count pairs s k small)

  deletion-length : (o : Option ℕ) (leaf k : ℕ) → length (deletion_for o leaf k) ≤ 1
  deletion-length None leaf k = omega arith
  deletion-length (Some old) leaf k = omega arith

  delete-length : (k : ℕ) → k < bound32 → length (delete_requests count table k) ≤ 1 + count
  unfolding delete_requests
  delete-length k small =
      let rest = deletion_for (get_answer count table k) (leaf_for count table k 0) k in
      omega (
        arith,
        length-append (reads_to count table k) rest,
        reads-length k small,
        deletion-length (get_answer count table k) (leaf_for count table k 0) k,
      )

-- ANY COMMAND
module _ (limit : ℕ) (b : Book) (ps : List Pair) (s : Spells b.table b.count ps) where
  task_length : (t : Task) (says : Bool → Reply) → Right b ps t says → length (requests_of limit t b) ≤ most_requests b.count
  task_length (looks l) says r = omega (arith, length-map (l.reads b) read, r.few)
  task_length (puts k v) says r =
      omega (arith, put-length b.table b.count ps s k v limit r.0, depth_three b.table b.count ps s)
  task_length (deletes k) says r = omega (arith, delete-length b.table b.count ps s k r.0)
  task_length (names panel) says r = omega arith

pub command_length : (limit : ℕ) (n : Session) (c : Command) (b : Book) (ps : List Pair) → Spells b.table b.count ps → b.count ≤ no_leaf → Valid c →
    length (requests limit n c b) ≤ most_requests b.count
unfolding requests
command_length limit n c b ps s l valid =
    task_length limit b ps s (task_of n c) (λ refused. map_answer n refused c ps) (right b ps s l n c valid)
