-- `bits::is_live` meets its contract: the mark of a page is its bit of its byte. Assumes nothing.
use Rattle.flash_live.specs.Bits.{mark_at}
use Rattle.flash_live.proofs.bits.is_live.Goals as goal

pub returns : goal.returns
returns c = let a = c.args in rw (mark_at a.live.now a.page) c.has_bit.ensures
