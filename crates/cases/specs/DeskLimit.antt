-- "With its length limit" (document 02, P5): each command takes four bytes more in the joined bytes, so 2,978 gets in one queue pass and 2,979
-- give 3, though the queue alone, of 20,853 bytes, is wholly valid commands. By the laws of joined bytes, since there are too many to compute.
-- Assumes nothing.
use Rattle.std.specs.Prelude.{◌≡◌, [], ◌∷◌, ℕ, ◌*◌, ◌≤◌, None, Some}
use Rattle.std.proofs.Common.{arith}
use Rattle.laws.specs.Every.{both}
use Rattle.laws.specs.Every as Every
use Rattle.layout.specs.Layout.{most_batch_bytes}
use Rattle.command.specs.Batch.{commands_of}
use Rattle.command.specs.Spelled.{batch_bytes, commands_of-batch_bytes}
use Rattle.desk_queues.specs.Joined.{queue_commands, joined, joined_bytes}
use Rattle.desk_laws.specs.Gets.{gets, valid_gets, queue_gets, joined-gets}
use Rattle.desk_laws.specs.JoinedLaws.{joined_valid, joined_long}

joined-read : (n : ℕ) → 11 * n ≤ most_batch_bytes → commands_of (joined_bytes (gets n ∷ [])) ≡ Some (joined (gets n ∷ []))
unfolding joined_bytes
joined-read n l =
    commands_of-batch_bytes (joined (gets n ∷ [])) (joined_valid (gets n ∷ []) (omega arith) (both (valid_gets n) Every.none))
    (omega (arith, joined-gets n))

pub passes : commands_of (joined_bytes (gets 2978 ∷ [])) ≡ Some (joined (gets 2978 ∷ []))
passes = joined-read 2978 (omega arith)

pub one_more_lem : commands_of (joined_bytes (gets 2979 ∷ [])) ≡ None
one_more_lem = joined_long (gets 2979 ∷ []) (omega (arith, joined-gets 2979))

pub alone : queue_commands (batch_bytes (gets 2979)) ≡ Some (gets 2979)
alone = queue_gets 2979 (omega arith)
