-- `split::split_root` meets its contract: the halves made, the lower first, and the root rewritten above them. Assumes nothing.
use Rattle.node.specs.Change.{change, put}
use Rattle.node.specs.Value.{node_of}
use Rattle.flash_allocate.specs.Flash.{world_of}
use Rattle.run_split.proofs.Laws.{root-split}
use Rattle.run_split.proofs.split.split_root.Goals as goal

pub returns-clause-absorbed : goal.returns-clause-absorbed
returns-clause-absorbed c =
    let a = c.args in
    let x = c.grow in
    let y = c.grow-2 in
    let z = c.serve_rewrite-charge in
    let w = world_of z.new.flash in
    root-split a.tariff (change (put a.key a.pointer) (node_of a.v)) (world_of a.flash.now) (node_of c.lower-low.result)
    (node_of c.upper-high.result) c.middle-middle.result (node_of c.root_above.result) c.lower-low.ensures.is
    c.upper-high.ensures.is c.middle-middle.ensures c.root_above.ensures.is (world_of x.new.flash) x.ensures.left
    (world_of y.new.flash) y.ensures.left w.pages w.table _ z.ensures.served
