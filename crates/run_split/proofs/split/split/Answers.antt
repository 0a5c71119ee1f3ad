-- `split::split` meets its contract: the root's split, or another node's. Assumes nothing.
use Rattle.node.specs.Change.{change, put}
use Rattle.node.specs.Value.{node_of}
use Rattle.flash_allocate.specs.Flash.{world_of}
use Rattle.run_split.proofs.Laws.{absorbed_is, split_as_root, split_as_below}
use Rattle.run_split.proofs.split.split.Goals as goal

pub returns-then-root-clause-absorbed : goal.returns-then-root-clause-absorbed
returns-then-root-clause-absorbed c =
    let a = c.args in
    absorbed_is c.split_root.ensures.absorbed
    (split_as_root a.tariff (change (put a.key a.pointer) (node_of a.v)) (world_of a.flash.now) a.root a.id c.if-root.true)

pub returns-else-root-clause-absorbed : goal.returns-else-root-clause-absorbed
returns-else-root-clause-absorbed c =
    let a = c.args in
    absorbed_is c.split_below.ensures.absorbed
    (split_as_below a.tariff (change (put a.key a.pointer) (node_of a.v)) (world_of a.flash.now) a.root a.id c.if-root.false)
