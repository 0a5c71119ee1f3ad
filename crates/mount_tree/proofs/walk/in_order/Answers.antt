-- `walk::in_order` meets its contract: each test is one case. Assumes nothing.
use Rattle.std.proofs.Common.{sym, ◌∙◌, arith, ne_eqb}
use Rattle.node.specs.Value.{pairs_in, length-pairs_in}
use Rattle.mount_tree.specs.Passes.{order_behind, order_reached, order_keys}
use Rattle.mount_tree.proofs.walk.in_order.Goals as goal

pub returns-then-marks-at : goal.returns-then-marks-at
returns-then-marks-at c = let a = c.args in sym (order_behind a.id a.low a.high (pairs_in a.v) a.marks.now c.if-marks-at.true)

pub returns-then-marks-at-eq0 : goal.returns-then-marks-at-eq0
returns-then-marks-at-eq0 c =
    let a = c.args in
    c.ascends.ensures ∙
    sym
    (order_keys a.id a.low a.high (pairs_in a.v) a.marks.now c.if-marks-at.false c.if-marks-at-eq0.true
    (omega (arith, length-pairs_in a.v c.requires, c.requires.size)))

pub returns-else-marks-at-eq0 : goal.returns-else-marks-at-eq0
returns-else-marks-at-eq0 c =
    let a = c.args in
    ne_eqb _ _ c.if-marks-at-eq0.false ∙
    sym (order_reached a.id a.low a.high (pairs_in a.v) a.marks.now c.if-marks-at.false c.if-marks-at-eq0.false)
