-- `descend::descend` meets its contract: what is left of the walk from a node gives the whole. Assumes nothing.
use Rattle.std.proofs.Common.{arith, refl}
use Rattle.flash_allocate.specs.Flash.{world_of, same_then}
use Rattle.node.specs.Value.{pairs_in}
use Rattle.flash_read.specs.Shapes.{is_leaf, is-branch}
use Rattle.node.proofs.Shapes.{eq-same_shape}
use Rattle.run_path.proofs.Laws.{visited_root, visited_nodes, visited_most, visited-on, visited_more, visited-leaf, visited_last}
use Rattle.run_path.proofs.descend.descend.Goals as goal

pub loop-reads-init : goal.loop-reads-init
loop-reads-init c =
    let a = c.args in
    let x = c.serve_read-charge in (
      x.ensures.buffers,
      visited_root a.tariff a.key (world_of a.flash.now) c.read_node-leaf.result _ a.flash.now.good c.read_node-leaf.ensures x.ensures.served,
    )

pub read_node-leaf-requires-in-loop-reads : goal.read_node-leaf-requires-in-loop-reads
read_node-leaf-requires-in-loop-reads c = omega (arith, visited_nodes c.loop-reads.invariant.1, c.requires.limited)

pub overflow_add-charge : goal.overflow_add-charge
overflow_add-charge c =
    omega (arith, visited_most c.loop-reads.invariant.1, c.serve_read-charge-in-loop-reads.ensures.served.most, c.loop-reads-test.true, c.requires.limited)

pub loop-reads-preserved : goal.loop-reads-preserved
loop-reads-preserved c =
    let d = c.loop-reads.invariant.1 in
    let v = c.loop-reads.leaf in
    let x = c.serve_read-charge-in-loop-reads in
    let branch = is-branch v _ d.node.is c.eq.result (eq-same_shape _ _ c.eq.result c.eq.ensures) c.if-eq.false in
    let next = visited-on d (pairs_in v) v.link c.child-id.result branch c.child-id.ensures c.loop-reads-test.true in (
      same_then c.loop-reads.invariant.0 x.ensures.buffers,
      visited_more next c.read_node-leaf-in-loop-reads.result c.read_node-leaf-in-loop-reads.ensures x.ensures.served refl,
    )

pub returns-then-eq-clause-served : goal.returns-then-eq-clause-served
returns-then-eq-clause-served c =
    let d = c.loop-reads.invariant.1 in
    let v = c.loop-reads.leaf in
    visited-leaf d c.requires.limited (pairs_in v) v.link (is_leaf v _ d.node.is c.eq.result (eq-same_shape _ _ c.eq.result c.eq.ensures) c.if-eq.true)

pub returns-after-loop-reads-clause-served : goal.returns-after-loop-reads-clause-served
returns-after-loop-reads-clause-served c = visited_last c.loop-reads.invariant.1 c.requires.limited c.loop-reads-test.false
