use Rattle.std.proofs.Common.{length}
use Rattle.flash_blocks.specs.Pages.{pages_of}
use Rattle.flash_rows.specs.Worktable.{table_from}
use Rattle.flash_allocate.specs.Flash.{world_of, Same}
use Rattle.run_path.proofs.Laws.{Visited}
use Rattle.run_path.proofs.descend.descend.Given as goal

abbrev pub invariant-loop-reads : goal.invariant-loop-reads
invariant-loop-reads l =
    Same l.fn.flash l.flash ×
    Visited (length l.flash.pool.now) (length l.flash.table.now) l.tariff l.key (world_of l.fn.flash) l._reads l.id l.leaf
    (pages_of l.flash.pool.now) (table_from l.flash.table.now) (record { state = l.flash.state; charge = l.charge })
