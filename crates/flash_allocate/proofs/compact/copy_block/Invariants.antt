use mathlib.Core.Path.{◌≡◌}
use Prim.Native.Nat.{◌-◌, ◌≤◌}
use Rattle.laws.specs.Loops.{steps}
use Rattle.flash_blocks.specs.Pages.{pages_of}
use Rattle.flash_live.specs.Bits.{marks_in}
use Rattle.flash_allocate.specs.Compact.{copying, copy_live}
use Rattle.flash_allocate.proofs.compact.copy_block.Given as goal

abbrev pub invariant-loop-k : goal.invariant-loop-k
invariant-loop-k l =
    (l.fill ≤ l.k) ×
    (steps (copy_live (marks_in l.live) l.base l.first) (32 - l.k) l.k (copying (pages_of l.pool) l.places l.fill) ≡ steps
    (copy_live (marks_in l.live) l.base l.first) 32 0 (copying (pages_of l.initial.pool) l.initial.places 0))
