-- The sum so far is where the next queue starts, and it is small.
use Rattle.std.proofs.Common.{◌≡◌, ◌*◌, ◌≤◌}
use Rattle.desk_queues.specs.Queues.{start_at}
use Rattle.desk_questions.proofs.lengths_fill.Given as goal

abbrev pub invariant-loop-p : goal.invariant-loop-p
invariant-loop-p l = record {
  small : l.sum ≤ 4294967295 * l.p;
  is : l.sum ≡ start_at l.lengths l.p;
}
