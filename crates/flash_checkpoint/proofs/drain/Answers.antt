-- `drain` meets its contract: nothing to write, or the buffer's page. Assumes nothing.
use Rattle.flash_allocate.specs.Flash.{world_of, after_none, after_one}
use Rattle.flash_checkpoint.proofs.Laws.{drain-none, drain_some}
use Rattle.flash_checkpoint.proofs.drain.Goals as goal

pub returns-then-flash-ne0 : goal.returns-then-flash-ne0
returns-then-flash-ne0 c =
    after_one c.flush.ensures
    (drain_some (world_of c.args.flash.now) (world_of c.flush.new.flash) c.if-flash-ne0.true c.flush.ensures.left)

pub returns-else-flash-ne0 : goal.returns-else-flash-ne0
returns-else-flash-ne0 c =
    let f = c.args.flash.now in
    after_none (drain-none (world_of f) c.if-flash-ne0.false f.good)
