-- `compact::copy_block` meets its contract. The invariant: copying the pages left gives the whole block copied. Assumes nothing.
use mathlib.Core.Path.{sym, ap, ◌∙◌}
use Prim.Native.Nat.{◌+◌, ◌-◌}
use native.Mathlib.Omega.{arith}
use Rattle.laws.specs.Loops.{steps, steps-begin, steps_more, steps-done}
use Rattle.flash_blocks.specs.Pages.{pages_of}
use Rattle.flash_live.specs.Bits.{marks_in}
use Rattle.flash_allocate.specs.Compact.{Copying, copying, copy_live, copy_block}
use Rattle.flash_allocate.proofs.compact.copy_block.Goals as goal

pub loop-k-init : goal.loop-k-init
loop-k-init c = let a = c.args in
    (omega arith, steps-begin (copy_live (marks_in a.live.now) a.base a.first) 32 (copying (pages_of a.pool.now) a.places.now 0))

pub loop-k-preserved : goal.loop-k-preserved
loop-k-preserved c = let l = c.loop-k in
    let a = c.args in
    let f = copy_live (marks_in a.live.now) a.base a.first in
    let o = c.copy_live-fill in (
      omega (arith, o.ensures.1),
      ap (λ (w : Copying). steps f (32 - (l.k + 1)) (l.k + 1) w) o.ensures.0 ∙
          (steps_more f 32 l.k (copying (pages_of l.pool) l.places l.fill) (omega arith) ∙ l.invariant.1),
    )

pub returns : goal.returns
unfolding copy_block
returns c = let l = c.loop-k in
    let a = c.args in (
      sym (steps-done (copy_live (marks_in a.live.now) a.base a.first) 32 l.k
          (copying (pages_of l.pool) l.places l.fill) (omega arith)) ∙ l.invariant.1,
      omega arith,
    )
