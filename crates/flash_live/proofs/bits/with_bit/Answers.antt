-- Assumes nothing.
use Rattle.flash_live.specs.Bits.{byte_bit-set}
use Rattle.flash_live.proofs.bits.with_bit.Goals as goal

pub returns : goal.returns
returns c = byte_bit-set c.args.byte c.args.k c.requires
