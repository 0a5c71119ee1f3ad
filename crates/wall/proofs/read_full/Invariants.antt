-- `read_full` meets its contract. The invariant: what came so far is no more than the buffer holds.
use Rattle.std.proofs.Common.{length, ◌-◌, ◌≤◌}
use Rattle.wall.proofs.read_full.Given as goal

abbrev pub invariant-loop-size : goal.invariant-loop-size
invariant-loop-size g l = l.size ≤ length l.buffer

abbrev pub decreases-loop-size : goal.decreases-loop-size
decreases-loop-size g l = length l.initial.buffer - l.size
