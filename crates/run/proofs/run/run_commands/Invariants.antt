-- The commands run so far, and those left, are the whole.
use Rattle.std.proofs.Common.{◌≡◌, ◌-◌, length}
use Rattle.layout.specs.Layout.{node_limit, most_blocks}
use Rattle.flash_rows.specs.Worktable.{table_from}
use Rattle.flash_blocks.specs.Pages.{pages_of}
use Rattle.flash_allocate.specs.Flash.{world_of, Same}
use Rattle.run.specs.Running.{Running}
use Rattle.run.specs.Session.{ran_in}
use Rattle.run.proofs.run.run_commands.Given as goal

abbrev pub invariant-loop-command : goal.invariant-loop-command
invariant-loop-command l = record {
  ids : length l.ids ≡ node_limit most_blocks;
  buffers : Same l.initial.flash l.flash;
  running :
      Running (length l.flash.pool.now) (length l.flash.table.now) l.initial.here.session.tariff l.batch l.initial.answers l.at
      (world_of l.initial.flash) (pages_of l.flash.pool.now) (table_from l.flash.table.now) l.answers l.initial.charges l.charges
      (ran_in l.flash.state l.here);
}

abbrev pub decreases-loop-command : goal.decreases-loop-command
decreases-loop-command l = length l.batch - l.at
