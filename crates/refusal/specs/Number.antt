-- The numbers of the questions (document 01, "Questions before the work", command 02 and prepare; document 02, P5). Assumes nothing.
use Rattle.std.specs.Prelude.{ℕ, ◌≤◌, Result, Ok, Err}
use Rattle.std.proofs.Common.{arith}
use Rattle.refusal.specs.declared.Refusal.{Refusal}
use Rattle.refusal.specs.declared.Refusal.TheVariants.{PoolLength, TableLength, Batch, AnswerRoom, Pages, Checkpoint, Tree, SequenceNumbers, NodeIds, Tariff, QueueLengths}

-- "A 'no' ends it with the number."
abbrev pub number : Refusal → ℕ
number PoolLength = 1
number TableLength = 2
number Batch = 3
number AnswerRoom = 4
number Pages = 5
number Checkpoint = 6
number Tree = 7
number SequenceNumbers = 8
number NodeIds = 9
number Tariff = 10
number QueueLengths = 11

-- What a call answers: the number, or 0 where its work is done.
abbrev pub number_of : {A : Type 0} → Result A Refusal → ℕ
number_of (Ok x) = 0
number_of (Err refusal) = number refusal

-- 0 is no refusal's number.
pub number_some : (r : Refusal) → 1 ≤ number r
number_some PoolLength = omega arith
number_some TableLength = omega arith
number_some Batch = omega arith
number_some AnswerRoom = omega arith
number_some Pages = omega arith
number_some Checkpoint = omega arith
number_some Tree = omega arith
number_some SequenceNumbers = omega arith
number_some NodeIds = omega arith
number_some Tariff = omega arith
number_some QueueLengths = omega arith
