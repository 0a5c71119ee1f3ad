use mathlib.Core.Path.{◌≡◌}
use Prim.Native.Nat.{◌-◌}
use lib.ListN.{length, take}
use Rattle.flash_blocks.specs.Pages.{pages_of}
use Rattle.flash_rows.specs.Worktable.{table_from}
use Rattle.flash_read.specs.NodeTable.{table_of}
use Rattle.mount_tree.specs.Area.{Standing, comes_to}
use Rattle.mount_tree.proofs.walk.walk.Given as goal

abbrev pub invariant-loop-w : goal.invariant-loop-w
invariant-loop-w l = (length l.table ≡ length l.initial.table) ×
    (take l.kept l.table ≡ take l.kept l.initial.table) ×
    Standing l.kept l.state.nodes l.table l.w ×
    (comes_to (table_of (pages_of l.pool) (table_from (take l.kept l.initial.table)) l.state) l.kept l.state.nodes l.table l.w ≡
    comes_to (table_of (pages_of l.pool) (table_from (take l.kept l.initial.table)) l.state) l.kept l.state.nodes l.initial.table l.initial.w)

abbrev pub decreases-loop-w : goal.decreases-loop-w
decreases-loop-w l = l.state.nodes - l.w.reached
