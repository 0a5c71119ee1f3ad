-- The path from the root to the leaf of a key (document 01, "Nodes and tree": every command reads "the nodes from root to leaf").
use Rattle.std.specs.Prelude.{◌≡◌, List, ℕ, ◌-◌, ◌≤◌, length, get_or, take}
use Rattle.layout.specs.Layout.{node_limit, most_blocks}
use Rattle.node.specs.Value.{Becomes}
use Rattle.tree.specs.Table.{Table, path, leaf_for}
use Rattle.flash_allocate.specs.World.{World}
use Rattle.flash_read.specs.NodeTable.{table_of}
use Rattle.run_path.specs.declared.path.Path.{Path}

-- The nodes as a world has them.
abbrev pub table_in : World → Table
table_in w = table_of w.pages w.table w.state

-- The steps down that a walk may take: one node more is read at most, and no path has more nodes than there are.
abbrev pub steps_in : World → ℕ
steps_in w = w.state.nodes - 1

-- What the code of a way down finds in a table by at most so many steps: the ids from the root on stand in front of those in the lent array, and the
-- leaf is in hand.
pub record PathTo (table : Table) (steps k : ℕ) (lent : List ℕ) (r : Path) : Type 0 where
  pub ids : take r.length lent ≡ path steps table k 0
  pub some : 1 ≤ r.length
  pub few : r.length ≤ node_limit most_blocks
  pub end : get_or lent (r.length - 1) 0 ≡ leaf_for steps table k 0
  pub leaf : Becomes r.leaf (table (leaf_for steps table k 0))
  pub room : length lent ≡ node_limit most_blocks
