-- `wire::sum::sum_columns` meets its contract. The invariant: each sum so far, and that of the columns that are left, are that of all.
-- Assumes nothing.
use native.Mathlib.Omega.{arith}
use Rattle.wire.proofs.Running.{total-next, total_end, running-first, running_end, most_16, sums_same}
use Rattle.wire.proofs.sum.sum_columns.Goals as goal

pub loop-j-init : goal.loop-j-init
loop-j-init c = (most_16 c.args.low.now c.requires.1.lows, (omega arith, (omega arith, omega arith)))

pub overflow_add-a : goal.overflow_add-a
overflow_add-a c = let l = c.loop-j in
    let x = c.args in
    omega (arith, total-next x.low.now l.j (omega arith))

pub overflow_mul-b : goal.overflow_mul-b
overflow_mul-b c = let l = c.loop-j in
    omega (arith, running-first c.args.low.now l.j c.requires.1.lows (omega arith))

pub overflow_add-b : goal.overflow_add-b
overflow_add-b c = let l = c.loop-j in
    omega (arith, running-first c.args.low.now l.j c.requires.1.lows (omega arith))

pub overflow_add-c : goal.overflow_add-c
overflow_add-c c = let l = c.loop-j in
    let x = c.args in
    omega (arith, total-next x.high.now l.j (omega arith))

pub loop-j-preserved : goal.loop-j-preserved
loop-j-preserved c = let l = c.loop-j in
    let low = c.args.low.now in (
      l.invariant.0,
      (
        omega (arith, total-next low l.j (omega arith)),
        (omega (arith, running-first low l.j c.requires.1.lows (omega arith)), omega (arith, total-next c.args.high.now l.j (omega arith))),
      ),
    )

pub returns : goal.returns
returns c = let l = c.loop-j in
    let x = c.args in
    let d = total_end x.low.now l.j (omega arith) in
    let e = running_end x.low.now l.j 0 (omega arith) in
    let f = total_end x.high.now l.j (omega arith) in
    sums_same (omega (arith, d)) (omega (arith, e, f))
