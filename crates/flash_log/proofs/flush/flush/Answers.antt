-- `flush::flush` meets its contract: an allocation, and the buffer written where it left room. Assumes nothing.
use Rattle.flash_allocate.specs.Flash.{world_of, after_one, after_two}
use Rattle.flash_log.specs.Flush.{write_buffer, flush}
use Rattle.flash_log.proofs.Laws.{kept-room, kept_stuck}
use Rattle.flash_log.proofs.flush.flush.Goals as goal

pub returns-then-flash-lt-PAGES_IN_BLOCK : goal.returns-then-flash-lt-PAGES_IN_BLOCK
unfolding flush
returns-then-flash-lt-PAGES_IN_BLOCK c =
    let x = c.allocate.ensures in
    let y = c.write_buffer.ensures in
    after_two x y
    (kept-room write_buffer (world_of c.args.flash.now) (world_of c.allocate.new.flash) (record { is = x.left.is; good = x.left.good }) (world_of c.write_buffer.new.flash)
    c.if-flash-lt-PAGES_IN_BLOCK.true y.left)

pub returns-else-flash-lt-PAGES_IN_BLOCK : goal.returns-else-flash-lt-PAGES_IN_BLOCK
unfolding flush
returns-else-flash-lt-PAGES_IN_BLOCK c =
    let x = c.allocate.ensures in
    after_one x
    (kept_stuck write_buffer (world_of c.args.flash.now) (world_of c.allocate.new.flash) (record { is = x.left.is; good = x.left.good }) c.if-flash-lt-PAGES_IN_BLOCK.false)
