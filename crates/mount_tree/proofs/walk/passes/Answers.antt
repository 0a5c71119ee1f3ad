-- `walk::passes` meets its contract: the order, over the marks lent, then the kind. Assumes nothing.
use Rattle.std.proofs.Common.{sym, ap, ◌∙◌}
use Rattle.node.specs.Value.{pairs_in, node_of}
use Rattle.tree.specs.Sound.{in_order}
use Rattle.mount_tree.specs.Area.{walk_in}
use Rattle.mount_tree.specs.AreaLaws.{marks-between}
use Rattle.mount_tree.specs.Passes.{pass_disorder, pass_kind}
use Rattle.mount_tree.proofs.walk.passes.Goals as goal

pub returns-else-in_order : goal.returns-else-in_order
returns-else-in_order c =
    let a = c.args in
    let order = ap (in_order a.due.id a.w.low a.due.high (pairs_in a.v)) (marks-between a.kept a.nodes a.table.now) in
    c.if-in_order.false ∙
    pass_disorder a.due.depth a.due.id a.w.low a.due.high (walk_in a.kept a.nodes a.table.now a.w) (node_of a.v)
    (sym (c.in_order.ensures ∙ order) ∙ c.if-in_order.false)

pub returns-then-in_order : goal.returns-then-in_order
returns-then-in_order c =
    let a = c.args in
    let order = ap (in_order a.due.id a.w.low a.due.high (pairs_in a.v)) (marks-between a.kept a.nodes a.table.now) in
    c.of_kind.ensures ∙
    pass_kind a.due.depth a.due.id a.w.low a.due.high (walk_in a.kept a.nodes a.table.now a.w) (node_of a.v)
    (sym (c.in_order.ensures ∙ order) ∙ c.if-in_order.true)
