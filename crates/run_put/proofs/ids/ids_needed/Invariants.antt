use Rattle.std.proofs.Common.{◌-◌}
use Rattle.flash_blocks.specs.Pages.{pages_of}
use Rattle.flash_rows.specs.Worktable.{table_from}
use Rattle.flash_read.specs.NodeTable.{table_of}
use Rattle.run_put.specs.FullRun.{Full}
use Rattle.run_put.proofs.ids.ids_needed.Given as goal

abbrev pub invariant-loop-i : goal.invariant-loop-i
invariant-loop-i l = Full (table_of (pages_of l.pool) (table_from l.table) l.state) l.ids (l.i - 1)
