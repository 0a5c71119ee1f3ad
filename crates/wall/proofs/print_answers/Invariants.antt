-- `print_answers` ends: each answer leaves less. Assumes nothing.
use Rattle.std.proofs.Common.{length}
use Rattle.wall.proofs.print_answers.Given as goal

abbrev pub decreases-loop-rest : goal.decreases-loop-rest
decreases-loop-rest g l = length l.rest
