use Rattle.std.proofs.Common.{◌≡◌, take}
use Rattle.flash_blocks.specs.Pages.{pages_of}
use Rattle.flash_rows.specs.Worktable.{table_from}
use Rattle.tree.specs.Sound.{leftmost}
use Rattle.flash_read.specs.NodeTable.{table_of}
use Rattle.mount_tree.specs.FirstLeaf.{search_from}
use Rattle.mount_tree.proofs.first_leaf.first_leaf.Given as goal

abbrev pub invariant-loop-depth : goal.invariant-loop-depth
invariant-loop-depth l =
    search_from l.state.nodes (table_of (pages_of l.pool) (table_from (take l.kept l.table)) l.state) l.depth l.leaf
    ≡ leftmost l.state.nodes (table_of (pages_of l.pool) (table_from (take l.kept l.table)) l.state) 0 0
