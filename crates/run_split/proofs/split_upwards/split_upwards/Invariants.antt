use Rattle.std.proofs.Common.{length}
use Rattle.flash_rows.specs.Worktable.{table_from}
use Rattle.flash_blocks.specs.Pages.{pages_of}
use Rattle.flash_allocate.specs.Flash.{world_of, Same}
use Rattle.run_split.proofs.Upwards.{Upwards}
use Rattle.run_split.proofs.split_upwards.split_upwards.Given as goal

abbrev pub invariant-loop-id : goal.invariant-loop-id
invariant-loop-id l =
    Same l.fn.flash l.flash ×
    Upwards (length l.flash.pool.now) (length l.flash.table.now) l.tariff l.key l.fn.value l.fn.ids l.id-iterator.iter.rest.now
    (world_of l.fn.flash) (pages_of l.flash.pool.now) (table_from l.flash.table.now) (record { state = l.flash.state; charge = l.charge }) l.pending
