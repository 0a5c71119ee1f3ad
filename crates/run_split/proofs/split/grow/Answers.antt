-- `split::grow` meets its contract: a create below the limit, else nothing. Assumes nothing.
use native.Mathlib.Omega.{arith}
use Rattle.node.specs.Value.{node_of}
use Rattle.flash_allocate.specs.Flash.{world_of, after_none, after_one}
use Rattle.run_split.proofs.Laws.{grow-made, grow-none}
use Rattle.run_split.proofs.split.grow.Goals as goal

pub returns-then-flash-node_limit : goal.returns-then-flash-node_limit
returns-then-flash-node_limit c =
    let a = c.args in
    let y = c.create in
    after_one y.ensures
    (grow-made (node_of a.v) (world_of a.flash.now) c.requires.grows (world_of y.new.flash)
    (omega (arith, c.if-flash-node_limit.true, c.node_limit.ensures.0)) y.ensures.left)

pub returns-else-flash-node_limit : goal.returns-else-flash-node_limit
returns-else-flash-node_limit c =
    let a = c.args in
    after_none
    (grow-none (node_of a.v) (world_of a.flash.now) c.requires.grows
    (omega (arith, c.if-flash-node_limit.false, c.node_limit.ensures.0)))
