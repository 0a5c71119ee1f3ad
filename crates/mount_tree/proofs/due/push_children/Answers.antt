-- `due::push_children` meets its contract. The invariant: from the slot of the last child laid on stand the children laid and the rest. Assumes nothing.
use mathlib.Core.Path.{refl}
use Prim.Native.Nat.{◌+◌, ◌-◌}
use native.Mathlib.Omega.{arith}
use lib.ListN.{drop}
use Rattle.node.specs.Value.{pairs_in, length-pairs_in}
use Rattle.mount_tree.specs.Due.{dues_of, children_of}
use Rattle.mount_tree.specs.Stack.{length_dues, length-children, push_begin, push_more, push_done}
use Rattle.mount_tree.proofs.due.push_children.Goals as goal

pub overflow_add-left : goal.overflow_add-left
overflow_add-left c = omega (arith, c.requires.0.size)

pub loop-left-init : goal.loop-left-init
loop-left-init c = let a = c.args in
    let xs = children_of a.depth (pairs_in a.v) a.v.link a.high in
    let size = length-pairs_in a.v c.requires.0 in
    let count = length-children a.depth (pairs_in a.v) a.v.link a.high in (
      (omega arith, refl),
      push_begin xs (drop (a.base + a.v.count + 1) (dues_of a.stack.now)) a.base (a.v.count + 1) (dues_of a.stack.now)
          (a.base + a.v.count + 1) (omega arith) (omega arith) refl,
    )

pub overflow_add-base : goal.overflow_add-base
overflow_add-base c =
    omega (arith, c.requires.1)

pub child_due-requires : goal.child_due-requires
child_due-requires c =
    (c.requires.0, omega arith)

pub write-requires : goal.write-requires
write-requires c =
    omega (arith, c.requires.1, c.loop-left.invariant.0.0, c.loop-left.invariant.0.1)

pub loop-left-preserved : goal.loop-left-preserved
loop-left-preserved c =
    let a = c.args in
    let turn = c.loop-left in
    let xs = children_of a.depth (pairs_in a.v) a.v.link a.high in
    let size = length-pairs_in a.v c.requires.0 in
    let count = length-children a.depth (pairs_in a.v) a.v.link a.high in
    let slots = length_dues turn.stack in (
      (omega arith, omega arith),
      push_more xs (drop (a.base + a.v.count + 1) (dues_of a.stack.now)) a.base (turn.left - 1)
          (dues_of turn.stack) (dues_of c.write.new.table) c.child_due.result turn.left (omega (arith, c.loop-left-test.true))
          (omega arith) (omega (arith, c.requires.1)) c.child_due.ensures c.write.ensures turn.invariant.1,
    )

pub returns : goal.returns
returns c =
    let a = c.args in
    let turn = c.loop-left in
    push_done (children_of a.depth (pairs_in a.v) a.v.link a.high) (drop (a.base + a.v.count + 1) (dues_of a.stack.now))
    a.base turn.left (dues_of turn.stack) (omega arith) turn.invariant.1
