-- FF is laid over as many blocks as are done.
use Rattle.std.proofs.Common.{◌≡◌, ◌*◌, replicate}
use Rattle.laws.specs.Lay.{lay}
use Rattle.prepare.proofs.erase_all.Given as goal

abbrev pub invariant-loop-block : goal.invariant-loop-block
invariant-loop-block l = l.pool ≡ lay l.initial.pool 0 (replicate (16384 * l.block) 255)
