-- `replay::entry_at` meets its contract: a field's payload, or the part of the buffer. Assumes nothing.
use Rattle.flash_read.specs.Replay.{entry_in}
use Rattle.flash_read.proofs.Laws.{entry_plain}
use Rattle.flash_read.proofs.replay.entry_at.Goals as goal

pub returns-then-framed : goal.returns-then-framed
unfolding entry_in
returns-then-framed c = rw c.if-framed.true c.framed_at.ensures

pub returns-else-framed : goal.returns-else-framed
returns-else-framed c =
    rw c.if-framed.false (entry_plain _ _ (rw c.if-framed.false at c.requires))
