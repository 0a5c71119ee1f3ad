-- What an answer to question 3 says of the joined bytes, where the lengths fill the queues: these bytes are read as the joined commands, or there are
-- none to be read. Assumes nothing.
use Rattle.std.proofs.Math.Path.{◌≡◌, refl, sym, ap}
use Rattle.std.specs.Prelude.{List, ◌⊎◌, ℕ, ◌≤◌, ◌<◌, Option, None, Some}
use Rattle.std.proofs.Common.{inl, inr, le-leb}
use Rattle.std.proofs.lemmas.Bool.{lt-leb}
use Rattle.std.proofs.Math.ListN.{length}
use Rattle.laws.specs.BigEndian.{Bytes}
use Rattle.laws.specs.Options.{none_some, some_same}
use Rattle.laws.specs.Order.{le_or}
use Rattle.layout.specs.Layout.{most_batch_bytes}
use Rattle.command.specs.declared.Command.{Command}
use Rattle.command.specs.Batch.{commands_of, room_for_all}
use Rattle.desk_order.specs.Turns.{longest}
use Rattle.desk_queues.specs.Queues.{queue_count, queues_in}
use Rattle.desk_queues.specs.Joined.{all_commands, joined, joined_bytes, bytes_by, joined_of, joined_read}
use Rattle.desk_laws.specs.QueueLaws.{Filled, queues-bytes}
use Rattle.desk_laws.specs.Read.{all_read}
use Rattle.desk_laws.specs.JoinedLaws.{joined_short, joined_long}
use Rattle.desk_questions.specs.declared.Served.{Served}
use Rattle.desk_questions.specs.Served.{rounds_for, within_limit, served_as, served_of}
use Rattle.desk_questions.specs.Total.{lent_few}

-- A YES: the commands of each queue, and the joined bytes read.
pub record Ready (lengths queues : List ℕ) (room rounds : ℕ) : Type 0 where
  pub commands : List (List Command)
  pub are : all_commands (queues_in lengths queues) ≡ Some commands
  pub read : commands_of (joined_bytes commands) ≡ Some (joined commands)
  pub room-is : room ≡ room_for_all (joined commands)
  pub rounds-is : rounds ≡ longest commands

module _ (lengths queues : List ℕ) (f : Filled lengths queues) (bytes : Bytes queues) where
  short : (css : List (List Command)) → all_commands (queues_in lengths queues) ≡ Some css → length (joined_bytes css) ≤ most_batch_bytes →
      commands_of (joined_bytes css) ≡ Some (joined css)
  short css e l =
      joined_short (queues-bytes lengths queues (queue_count lengths) bytes) (lent_few lengths queues f bytes)
      (all_read (queues_in lengths queues) css e) l

  pub served-rounds : (room rounds : ℕ) → served_of lengths queues ≡ Some (rounds_for room rounds) → Ready lengths queues room rounds
  unfolding served_of
  served-rounds room rounds e = go (all_commands (queues_in lengths queues)) refl e
    where
      go : (o : Option (List (List Command))) → all_commands (queues_in lengths queues) ≡ o → served_as (within_limit o) ≡ Some (rounds_for room rounds) →
          Ready lengths queues room rounds
      go None g h = absurd (none_some h)
      go (Some css) g h = on (le_or (length (joined_bytes css)) most_batch_bytes)
        where
          on : (length (joined_bytes css) ≤ most_batch_bytes) ⊎ (most_batch_bytes < length (joined_bytes css)) → Ready lengths queues room rounds
          on (inl l) =
              let k : Some (rounds_for (room_for_all (joined css)) (longest css)) ≡ Some (rounds_for room rounds) =
              rw (le-leb (length (joined_bytes css)) most_batch_bytes l) at h in
              record { commands = css; are = g; read = short css g l; room-is = sym (ap (λ (x : Served). x.room) (some_same k)); rounds-is = sym (ap (λ (x : Served). x.rounds) (some_same k)) }
          on (inr l) =
              let k : None ≡ Some (rounds_for room rounds) = rw (lt-leb (length (joined_bytes css)) most_batch_bytes l) at h in
              absurd (none_some k)

  -- A NO: a queue that is not valid, or joined bytes that are too long.
  pub served_invalid : served_of lengths queues ≡ None → joined_read (joined_of (queues_in lengths queues)) ≡ None
  unfolding served_of joined_of
  served_invalid e = go (all_commands (queues_in lengths queues)) refl e
    where
      go : (o : Option (List (List Command))) → all_commands (queues_in lengths queues) ≡ o → served_as (within_limit o) ≡ None →
          joined_read (bytes_by o) ≡ None
      go None g h = refl
      go (Some css) g h = on (le_or (length (joined_bytes css)) most_batch_bytes)
        where
          on : (length (joined_bytes css) ≤ most_batch_bytes) ⊎ (most_batch_bytes < length (joined_bytes css)) → commands_of (joined_bytes css) ≡ None
          on (inl l) =
              let k : Some (rounds_for (room_for_all (joined css)) (longest css)) ≡ None = rw (le-leb (length (joined_bytes css)) most_batch_bytes l) at h in
              absurd (none_some (sym k))
          on (inr l) = joined_long css l
