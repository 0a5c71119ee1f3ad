-- `checkpoint_page` meets its contract: an allocation, and the checkpoint page written where it left room. Assumes nothing.
use Rattle.flash_allocate.specs.Flash.{world_of, after_one, after_two}
use Rattle.flash_checkpoint.proofs.Laws.{closing_beside, checkpoint_page_room, checkpoint_page_stuck}
use Rattle.flash_checkpoint.proofs.checkpoint_page.Goals as goal

pub write_checkpoint_page-requires : goal.write_checkpoint_page-requires
write_checkpoint_page-requires c =
    let l = c.allocate.ensures.left in
    record {
      closing = closing_beside c.args.k c.args.flash.now.state c.allocate.new.flash.state
          (record { blocks = l.blocks; nodes = l.nodes; checkpoint = l.checkpoint }) c.requires;
      room = c.if-flash-lt-PAGES_IN_BLOCK.true;
    }

pub returns-then-flash-lt-PAGES_IN_BLOCK : goal.returns-then-flash-lt-PAGES_IN_BLOCK
returns-then-flash-lt-PAGES_IN_BLOCK c =
    let a = c.args in
    let x = c.allocate.ensures in
    let y = c.write_checkpoint_page.ensures in
    after_two x y
    (checkpoint_page_room a.tariff a.k (world_of a.flash.now) (world_of c.allocate.new.flash)
    (record { is = x.left.is; good = x.left.good }) (world_of c.write_checkpoint_page.new.flash) c.if-flash-lt-PAGES_IN_BLOCK.true y.left)

pub returns-else-flash-lt-PAGES_IN_BLOCK : goal.returns-else-flash-lt-PAGES_IN_BLOCK
returns-else-flash-lt-PAGES_IN_BLOCK c =
    let a = c.args in
    let x = c.allocate.ensures in
    after_one x
    (checkpoint_page_stuck a.tariff a.k (world_of a.flash.now) (world_of c.allocate.new.flash)
    (record { is = x.left.is; good = x.left.good }) c.if-flash-lt-PAGES_IN_BLOCK.false)
