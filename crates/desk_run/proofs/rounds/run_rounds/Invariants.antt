-- The rounds so far, and those left, are the order of service.
use Rattle.std.proofs.Common.{◌≡◌, length}
use Rattle.layout.specs.Layout.{node_limit, most_blocks}
use Rattle.flash_rows.specs.Worktable.{table_from}
use Rattle.flash_blocks.specs.Pages.{pages_of}
use Rattle.flash_allocate.specs.Flash.{world_of, Same}
use Rattle.run.specs.Session.{ran_in}
use Rattle.desk_run.specs.Rounds.{Circling}
use Rattle.desk_run.proofs.rounds.run_rounds.Given as goal

abbrev pub invariant-loop-round : goal.invariant-loop-round
invariant-loop-round l = record {
  ids : length l.ids ≡ node_limit most_blocks;
  buffers : Same l.initial.flash l.flash;
  circling :
      Circling (length l.flash.pool.now) (length l.flash.table.now) l.initial.here.session.tariff l.lengths l.queues l.rounds l._round
      (world_of l.initial.flash) (pages_of l.flash.pool.now) (table_from l.flash.table.now) l.initial.answers l.answers
      l.initial.charges l.charges l.places (ran_in l.flash.state l.here);
}
