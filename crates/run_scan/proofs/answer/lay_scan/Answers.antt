-- `answer::lay_scan` meets its contract: the pairs laid so far stand behind the place of the head, which is laid last. Assumes nothing.
use mathlib.Core.Path.{◌≡◌, refl, ◌∙◌}
use native.Mathlib.Omega.{arith}
use Rattle.run_scan.specs.Laid.{laid_none, laid_more, laid-scan}
use Rattle.run_scan.proofs.answer.lay_scan.Goals as goal

pub loop-i-init : goal.loop-i-init
loop-i-init c = let a = c.args in (refl, laid_none a.buffer.now a.at a.pairs)

pub loop-i-preserved : goal.loop-i-preserved
loop-i-preserved c =
    let l = c.loop-i in
    let x = c.lay_pair in (
      x.auto.buffer ∙ l.invariant.0,
      laid_more c.args.buffer.now c.args.at c.args.pairs c.requires.0 c.requires.1 l.buffer _ l.i l.invariant.1 c.loop-i-test.true x.ensures,
    )

pub returns : goal.returns
returns c =
    let l = c.loop-i in
    let all : l.i ≡ c.args.pairs.count = omega (arith, l.auto.i-end, c.loop-i-test.false) in
    laid-scan c.args.buffer.now c.args.at c.args.pairs c.requires.0 c.requires.1 l.buffer _ c.args.pairs.count
    (rw all at l.invariant.1) refl c.lay_scan_head.ensures
