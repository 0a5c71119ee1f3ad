-- `area::push` meets its contract: the stack lent comes back with the children in front of the rest. Assumes nothing.
use Prim.Native.Nat.{◌+◌}
use native.Mathlib.Omega.{arith}
use Rattle.node.specs.Value.{pairs_in}
use Rattle.mount_tree.specs.Due.{children_of}
use Rattle.mount_tree.specs.AreaLaws.{push_leaves}
use Rattle.mount_tree.proofs.area.push.Goals as goal

pub returns : goal.returns
returns c =
    let a = c.args in
    let p = c.push_children in
    push_leaves a.kept a.nodes a.table.now c.requires.0 a.base (a.base + a.v.count + 1)
    (children_of a.depth (pairs_in a.v) a.v.link a.high) p.new.stack (omega (arith, p.auto.stack)) p.ensures
