-- So many gets: 7 bytes each, and 11 with the command 05 before it. They are read by the law of what is spelled, not command by command. Assumes nothing.
use Rattle.std.specs.Prelude.{◌≡◌, refl, List, [], ◌∷◌, ℕ, zero, suc, ◌*◌, ◌≤◌, length, replicate, Some}
use Rattle.std.proofs.Common.{ap, ◌∙◌, arith, eq-eqb}
use Rattle.std.proofs.lemmas.List.{length-replicate}
use Rattle.laws.specs.Every.{Every, every-replicate}
use Rattle.layout.specs.Layout.{most_batch_bytes}
use Rattle.wire.specs.Field.{field}
use Rattle.command.specs.declared.Command.{Command}
use Rattle.command.specs.declared.Command.TheVariants.{Get}
use Rattle.command.specs.Command.{command_bytes, Valid}
use Rattle.command.specs.Batch.{room_for_all, named_in}
use Rattle.command.specs.Spelled.{batch_bytes, commands_of-batch_bytes}
use Rattle.desk_queues.specs.Joined.{own_commands, queue_commands, joined_bytes}
use Rattle.desk_laws.specs.Read.{length_batch}
use Rattle.desk_laws.specs.JoinedLaws.{bytes-joined}

abbrev pub gets : ℕ → List Command
gets n = replicate n (Get 7)

pub length-gets : (n : ℕ) → length (batch_bytes (gets n)) ≡ 7 * n
unfolding command_bytes field
length-gets zero = refl
length-gets (suc n) = omega (arith, length-gets n)

pub valid_gets : (n : ℕ) → Every Valid (gets n)
valid_gets n = every-replicate n (Get 7) (omega arith)

pub named-gets : (n : ℕ) → named_in (gets n) ≡ 0
named-gets zero = refl
named-gets (suc n) = omega (arith, named-gets n)

pub room-gets : (n : ℕ) → room_for_all (gets n) ≡ 7 * n
room-gets zero = refl
room-gets (suc n) = omega (arith, room-gets n)

-- One queue of them, alone and joined.
pub queue_gets : (n : ℕ) → 7 * n ≤ most_batch_bytes → queue_commands (batch_bytes (gets n)) ≡ Some (gets n)
unfolding queue_commands
queue_gets n l =
    ap own_commands (commands_of-batch_bytes (gets n) (valid_gets n) (omega (arith, length-gets n))) ∙
    rw (eq-eqb (named_in (gets n)) 0 (named-gets n)) refl

pub joined-gets : (n : ℕ) → length (joined_bytes (gets n ∷ [])) ≡ 11 * n
joined-gets n = omega (arith, bytes-joined (gets n ∷ []), length_batch (gets n), length-gets n, length-replicate n (Get 7))
