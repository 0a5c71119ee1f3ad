-- `node_page::node_page` meets its contract: an allocation, and the page written where it left room. Assumes nothing.
use native.Mathlib.Omega.{arith}
use Rattle.node.specs.Value.{node_of}
use Rattle.flash_allocate.specs.Flash.{world_of, after_one, after_two}
use Rattle.flash_log.proofs.Laws.{kept-room, kept_stuck}
use Rattle.flash_write.specs.NodePage.{write_node, node_page}
use Rattle.flash_write.proofs.node_page.node_page.Goals as goal

pub returns-then-flash-lt-PAGES_IN_BLOCK : goal.returns-then-flash-lt-PAGES_IN_BLOCK
unfolding node_page
returns-then-flash-lt-PAGES_IN_BLOCK c =
    let a = c.args in
    let x = c.allocate.ensures in
    let y = c.write_node.ensures in
    after_two x y
    (kept-room (write_node a.id (node_of a.v)) (world_of a.flash.now) (world_of c.allocate.new.flash)
    (record { is = x.left.is; good = x.left.good }) (world_of c.write_node.new.flash) c.if-flash-lt-PAGES_IN_BLOCK.true y.left)

pub returns-else-flash-lt-PAGES_IN_BLOCK : goal.returns-else-flash-lt-PAGES_IN_BLOCK
unfolding node_page
returns-else-flash-lt-PAGES_IN_BLOCK c =
    let a = c.args in
    let x = c.allocate.ensures in
    after_one x
    (kept_stuck (write_node a.id (node_of a.v)) (world_of a.flash.now) (world_of c.allocate.new.flash)
    (record { is = x.left.is; good = x.left.good }) c.if-flash-lt-PAGES_IN_BLOCK.false)
