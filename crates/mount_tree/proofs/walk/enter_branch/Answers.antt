-- `walk::enter_branch` meets its contract: too many nodes are due, or the branch is marked and its children are due. Assumes nothing.
use Prim.Native.Nat.{◌-◌}
use native.Mathlib.Omega.{arith}
use Rattle.mount_tree.specs.Visit.{next-inside, step_crowded, step_branch}
use Rattle.mount_tree.proofs.walk.enter_branch.Goals as goal

pub returns-then-w-v : goal.returns-then-w-v
returns-then-w-v c =
    λ tree is.
    let a = c.args in
    step_crowded tree a.kept a.nodes a.table.now a.w a.v a.due is c.requires.0 (a.due.depth - 1)
    (omega (arith, c.requires.1)) c.if-w-v.true

pub mark-requires : goal.mark-requires
mark-requires c =
    let a = c.args in
    let given = c.requires.0 in
    (given.room, next-inside a.kept a.nodes a.table.now a.v a.due a.w given)

pub push-requires : goal.push-requires
push-requires c =
    let given = c.requires.0 in
    (omega (arith, given.room, c.mark.auto.table), given.sized, omega (arith, given.inside, c.if-w-v.false))

pub returns : goal.returns
returns c =
    λ tree is.
    let a = c.args in
    step_branch tree a.kept a.nodes a.table.now a.w a.v a.due is c.requires.0 (a.due.depth - 1)
    (omega (arith, c.requires.1)) c.if-w-v.false c.mark.new.table c.push.new.table c.mark.ensures c.push.ensures
