use Rattle.std.proofs.Common.{◌≡◌, ◌-◌}
use Rattle.flash_blocks.specs.Pages.{pages_of}
use Rattle.flash_rows.specs.Worktable.{table_from}
use Rattle.flash_read.specs.NodeTable.{table_of}
use Rattle.run_path.proofs.Laws.{Come}
use Rattle.run_path.proofs.path.path_to.Given as goal

abbrev pub invariant-loop-i : goal.invariant-loop-i
invariant-loop-i l = record {
  reached : l.length ≡ l.i;
  come : Come (table_of (pages_of l.pool) (table_from l.table) l.state) (l.state.nodes - 1) l.key l.ids l.i l.leaf;
}
