use mathlib.Core.Path.{◌≡◌}
use Prim.Native.Nat.{◌-◌, ◌<◌}
use Rattle.laws.specs.Loops.{steps}
use Rattle.flash_blocks.specs.Pages.{pages_of}
use Rattle.flash_live.specs.Bits.{marks_in}
use Rattle.flash_live.specs.Choose.{choice, weigh}
use Rattle.flash_live.proofs.victim.Given as goal

abbrev pub invariant-loop-block : goal.invariant-loop-block
invariant-loop-block l = (l.best.block < l.blocks) ×
    (steps (weigh (pages_of l.pool) (marks_in l.live)) (l.blocks - l.block) l.block l.best ≡ steps (weigh (pages_of l.pool) (marks_in l.live)) l.blocks 0
    (choice 0 33))
