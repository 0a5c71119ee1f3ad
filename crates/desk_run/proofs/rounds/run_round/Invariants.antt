-- The turns so far, and those of the queues ahead, are the round.
use Rattle.std.proofs.Common.{◌≡◌, length}
use Rattle.layout.specs.Layout.{node_limit, most_blocks}
use Rattle.flash_rows.specs.Worktable.{table_from}
use Rattle.flash_blocks.specs.Pages.{pages_of}
use Rattle.flash_allocate.specs.Flash.{world_of, Same}
use Rattle.run.specs.Session.{ran_in}
use Rattle.desk_run.specs.Round.{Passing}
use Rattle.desk_run.proofs.rounds.run_round.Given as goal

abbrev pub invariant-loop-panel : goal.invariant-loop-panel
invariant-loop-panel l = record {
  ids : length l.ids ≡ node_limit most_blocks;
  buffers : Same l.initial.flash l.flash;
  passing :
      Passing (length l.flash.pool.now) (length l.flash.table.now) l.lengths l.queues l.panel l.start (world_of l.initial.flash)
      (pages_of l.flash.pool.now) (table_from l.flash.table.now) l.initial.answers l.answers l.initial.charges l.charges
      l.initial.places l.places (ran_in l.initial.flash.state l.initial.there) (ran_in l.flash.state l.there);
}
