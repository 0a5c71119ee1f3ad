-- `wire::sum::sum_bytes` meets its contract. The invariant: the sums so far are those of the bytes so far, with no remainders; these may wait.
-- Assumes nothing.
use native.Mathlib.Omega.{arith}
use Rattle.wire.proofs.Running.{plain_next, plain_end}
use Rattle.wire.proofs.sum.sum_bytes.Goals as goal

pub loop-i-init : goal.loop-i-init
loop-i-init c = (omega arith, c.sum_rows-begun.ensures.0)

pub loop-i-preserved : goal.loop-i-preserved
loop-i-preserved c = let l = c.loop-i in
    let s = c.args.s.now in
    (omega arith, plain_next s l.i l.a l.b c.read8-a.result (omega arith) c.read8-a.ensures.0 l.invariant.1)

pub returns : goal.returns
returns c = let l = c.loop-i in
    plain_end c.args.s.now l.i l.a l.b (omega arith) l.invariant.1
