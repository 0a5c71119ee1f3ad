-- `lengths_fill` meets its contract. Assumes nothing.
use Rattle.std.proofs.Common.{arith}
use Rattle.desk_questions.specs.Lengths.{start-next, fills_many, fills_cut, fills-sum}
use Rattle.desk_questions.proofs.lengths_fill.Goals as goal

pub returns-then-count-gt-PANELS : goal.returns-then-count-gt-PANELS
returns-then-count-gt-PANELS c = fills_many _ _ c.if-count-gt-PANELS.true

pub returns-then-count-lengths : goal.returns-then-count-lengths
returns-then-count-lengths c = fills_cut _ _ (omega (arith, c.if-count-gt-PANELS.false)) c.if-count-lengths.true

pub loop-p-preserved : goal.loop-p-preserved
loop-p-preserved c = record {
  small = omega (arith, c.read32.ensures.small);
  is = omega (arith, start-next c.args.lengths.now c.loop-p.p, c.read32.ensures.is, c.loop-p.invariant.is);
}

pub returns : goal.returns
returns c =
    fills-sum _ _ (omega (arith, c.if-count-gt-PANELS.false)) c.if-count-lengths.false _ c.loop-p.p
    c.loop-p.invariant.is (omega arith)
