-- `checkpoint` meets its contract: the buffer drained, then the checkpoint pages. Assumes nothing.
use Rattle.flash_allocate.specs.Flash.{world_of, after_two}
use Rattle.flash_checkpoint.proofs.Laws.{checkpoint-made}
use Rattle.flash_checkpoint.proofs.checkpoint.Goals as goal

pub returns : goal.returns
returns c =
    let a = c.args in
    let d = c.drain in
    let s = c.checkpoint_pages in
    after_two d.ensures s.ensures
    (checkpoint-made a.tariff (world_of a.flash.now) (world_of d.new.flash) (world_of s.new.flash) d.ensures.left s.ensures.left)
