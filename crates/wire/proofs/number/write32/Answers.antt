-- The lent part comes back with the number's bytes. Assumes nothing.
use Rattle.std.proofs.Common.{◌∙◌}
use Rattle.laws.specs.BigEndian.{big_endian}
use Rattle.wire.proofs.Copying.{copy_lent, be_bytes_4}
use Rattle.wire.proofs.number.write32.Goals as goal

pub returns : goal.returns
returns c = let a = c.args in
    copy_lent a.s.now (big_endian 4 a.v) _ a.at (c.copy_from_slice.ensures.after ∙ c.to_be_bytes.ensures ∙ be_bytes_4 a.v)
