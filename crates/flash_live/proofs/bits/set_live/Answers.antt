-- `bits::set_live` meets its contract: a byte with its bit set is the mark set. Assumes nothing.
use Rattle.flash_live.specs.Bits.{mark_set}
use Rattle.flash_live.proofs.bits.set_live.Goals as goal

pub returns : goal.returns
returns c = let a = c.args in mark_set a.live.now a.page c.with_bit.result c.with_bit.ensures
