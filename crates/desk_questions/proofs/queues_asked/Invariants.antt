use Rattle.desk_questions.specs.Passed.{Passed}
use Rattle.desk_questions.proofs.queues_asked.Given as goal

abbrev pub invariant-loop-p : goal.invariant-loop-p
invariant-loop-p l = Passed l.lengths l.queues l.p l.start l.sums
