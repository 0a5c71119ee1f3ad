use mathlib.Core.Path.{◌≡◌}
use Prim.Native.Nat.{◌-◌}
use Rattle.laws.specs.Loops.{steps}
use Rattle.flash_allocate.specs.Flash.{world_of}
use Rattle.flash_checkpoint.specs.CheckpointPages.{checkpoint_page}
use Rattle.flash_checkpoint.proofs.Laws.{Between}
use Rattle.flash_checkpoint.proofs.checkpoint_pages.Given as goal

abbrev pub invariant-loop-k : goal.invariant-loop-k
invariant-loop-k l =
    Between l.initial.flash l.flash l.k ×
    (steps (checkpoint_page l.tariff) (l.k-end - l.k) l.k (world_of l.flash) ≡
    steps (checkpoint_page l.tariff) l.k-end 0 (world_of l.initial.flash))
