use Rattle.std.proofs.Common.{length}
use Rattle.flash_allocate.specs.Flash.{world_of, Same}
use Rattle.run_path.specs.Reading.{Reading}
use Rattle.run_path.proofs.reads.read_nodes.Given as goal

abbrev pub invariant-loop-id : goal.invariant-loop-id
invariant-loop-id l =
    Same l.initial.flash l.flash ×
    Reading (length l.flash.pool.now) (length l.flash.table.now) l.tariff l.ids l.id-index (world_of l.initial.flash) (world_of l.flash) l.charge
