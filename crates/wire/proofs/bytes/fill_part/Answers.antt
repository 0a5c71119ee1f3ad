-- The lent part comes back filled. Assumes nothing.
use Rattle.std.proofs.Common.{rules}
use Rattle.wire.proofs.Copying.{fill_lent}
use Rattle.wire.proofs.bytes.fill_part.Goals as goal

pub returns : goal.returns
returns c = let a = c.args in
    fill_lent a.dst.now _ a.from a.to a.byte c.requires.0 c.requires.1 (c.fill.ensures.after (search rules))
