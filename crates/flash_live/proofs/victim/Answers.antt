-- `live::victim` meets its contract. The invariant: weighing the blocks left gives the best of all. Assumes nothing.
use mathlib.Core.Path.{sym, ap, ◌∙◌}
use native.Mathlib.Omega.{arith}
use Rattle.laws.specs.Loops.{steps-begin, steps_more, steps-done}
use Rattle.flash_blocks.specs.Pages.{pages_of}
use Rattle.flash_live.specs.Bits.{marks_in}
use Rattle.flash_live.specs.Choose.{choice, weigh, best, victim}
use Rattle.flash_live.specs.declared.Choice.{Choice}
use Rattle.flash_live.proofs.victim.Goals as goal

pub loop-block-init : goal.loop-block-init
loop-block-init c = let a = c.args in
    (omega arith, steps-begin (weigh (pages_of a.pool.now) (marks_in a.live.now)) a.blocks (choice 0 33))

pub loop-block-preserved : goal.loop-block-preserved
loop-block-preserved c = let l = c.loop-block in
    let a = c.args in (
      omega (arith, c.weigh-best.ensures.inside),
      rw c.weigh-best.ensures.is
          (steps_more (weigh (pages_of a.pool.now) (marks_in a.live.now)) a.blocks l.block l.best (omega arith) ∙
          l.invariant.1),
    )

pub returns : goal.returns
unfolding victim best
returns c = let l = c.loop-block in
    let a = c.args in (
      ap (λ (x : Choice). x.block)
          (sym (steps-done (weigh (pages_of a.pool.now) (marks_in a.live.now)) a.blocks l.block l.best (omega arith))
          ∙ l.invariant.1),
      omega arith,
    )
