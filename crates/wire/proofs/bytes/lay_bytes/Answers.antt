-- The lent part comes back with the copy in it. Assumes nothing.
use Rattle.wire.proofs.Copying.{copy_lent}
use Rattle.wire.proofs.bytes.lay_bytes.Goals as goal

pub returns : goal.returns
returns c = let a = c.args in copy_lent a.dst.now a.src.now _ a.at c.copy_from_slice.ensures.after
