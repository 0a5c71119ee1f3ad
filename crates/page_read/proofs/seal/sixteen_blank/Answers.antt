-- The invariant: the sum so far is the highest, and the bytes left are FF, if and only if all sixteen are. Assumes nothing.
use Rattle.std.proofs.Common.{◌<◌, ◌+◌, sym, ◌∙◌, arith}
use Rattle.page_read.specs.Blank.{added-begin, added_next, added_end}
use Rattle.page_read.proofs.seal.sixteen_blank.Goals as goal

pub loop-k-init : goal.loop-k-init
loop-k-init c = (omega arith, added-begin c.args.s.now c.args.at 16)

pub loop-k-preserved : goal.loop-k-preserved
loop-k-preserved c =
    let l = c.loop-k in
    let a = c.args in
    let b : c.from-sum.result < 256 = omega (arith, c.from-sum.ensures, c.type_inv.s (a.at + l.k)) in
    (omega arith, added_next a.s.now a.at 16 l.sum l.k _ (omega arith) (omega arith) l.invariant.0 c.from-sum.ensures b ∙ l.invariant.1)

pub returns : goal.returns
returns c =
    let l = c.loop-k in
    let a = c.args in
    sym (added_end a.s.now a.at 16 l.sum l.k (omega arith) (omega arith)) ∙ l.invariant.1
