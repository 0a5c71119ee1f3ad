-- `split::split_below` meets its contract: the lower half rewritten, the upper one made. Assumes nothing.
use Rattle.node.specs.Change.{change, put}
use Rattle.node.specs.Value.{node_of}
use Rattle.flash_allocate.specs.Flash.{world_of}
use Rattle.run_split.proofs.Laws.{below_split}
use Rattle.run_split.proofs.split.split_below.Goals as goal

pub returns-clause-absorbed : goal.returns-clause-absorbed
returns-clause-absorbed c =
    let a = c.args in
    let x = c.serve_rewrite-charge in
    let y = c.grow in
    let w₁ = world_of x.new.flash in
    let w₂ = world_of y.new.flash in
    below_split a.tariff (change (put a.key a.pointer) (node_of a.v)) (world_of a.flash.now) a.id (node_of c.lower-low.result)
    (node_of c.upper-high.result) c.middle-middle.result c.lower-low.ensures.is c.upper-high.ensures.is c.middle-middle.ensures
    w₁.pages w₁.table _ x.ensures.served w₂.pages w₂.table w₂.state y.ensures.left
