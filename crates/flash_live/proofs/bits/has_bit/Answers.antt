-- `bits::has_bit` meets its contract: a bit is the remainder by two behind a division by its power. Assumes nothing.
use mathlib.Core.Path.{refl}
use Rattle.flash_live.specs.Bits.{byte_bit-at, shifted_down}
use Rattle.flash_live.proofs.bits.has_bit.Goals as goal

pub returns : goal.returns
returns c = let a = c.args in rw (byte_bit-at a.byte a.k c.requires, ← shifted_down a.byte a.k) refl
