-- `flush::make_room` meets its contract: the buffer written out where the entries do not fit. Assumes nothing.
use Rattle.flash_allocate.specs.Flash.{world_of, after_none, after_one}
use Rattle.flash_log.proofs.Laws.{room_out, room_in}
use Rattle.flash_log.proofs.flush.make_room.Goals as goal

pub returns-then-k-flash-gt-MOST_ENTRIES : goal.returns-then-k-flash-gt-MOST_ENTRIES
returns-then-k-flash-gt-MOST_ENTRIES c =
    after_one c.flush.ensures
    (room_out c.args.k (world_of c.args.flash.now) (world_of c.flush.new.flash) c.if-k-flash-gt-MOST_ENTRIES.true c.flush.ensures.left)

pub returns-else-k-flash-gt-MOST_ENTRIES : goal.returns-else-k-flash-gt-MOST_ENTRIES
returns-else-k-flash-gt-MOST_ENTRIES c =
    let f = c.args.flash.now in
    after_none (room_in c.args.k (world_of f) c.if-k-flash-gt-MOST_ENTRIES.false f.good)
