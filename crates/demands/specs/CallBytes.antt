-- A call made of bytes, and so what it runs. Assumes nothing.
use Rattle.std.specs.Prelude.{◌≡◌, refl, List, [], ◌∷◌, ℕ, ◌<◌, Option, None, Some}
use Rattle.std.proofs.Common.{arith}
use Rattle.laws.specs.BigEndian.{Bytes}
use Rattle.laws.specs.Every.{both}
use Rattle.laws.specs.Every as Every
use Rattle.command.specs.declared.Command.{Command}
use Rattle.desk_queues.specs.Queues.{queues_of}
use Rattle.desk_queues.specs.Joined.{all_commands, bytes_by, joined_of, joined_by}
use Rattle.desk_laws.specs.QueueLaws.{cut_few, cut_bytes}
use Rattle.desk_laws.specs.Read.{all_read}
use Rattle.desk_laws.specs.JoinedLaws.{joined_bytes_lem}
use Rattle.model.specs.Call.{Call, batch, desk, joined_or, bytes_run}

-- Its batch is made of bytes, or the queues of the desk are.
abbrev pub CallBytes : Call → Type 0
CallBytes (batch l) = Bytes l.batch
CallBytes (desk d) = Bytes d.queues

joined-run : (lengths queues : List ℕ) → Bytes queues → Bytes (joined_or (joined_by (queues_of lengths queues)))
unfolding joined_of
joined-run lengths queues bytes = go (queues_of lengths queues) refl
  where
    zero_byte : Bytes (0 ∷ [])
    zero_byte = let l : 0 < 256 = omega arith in both l Every.none

    on : (qs : List (List ℕ)) → queues_of lengths queues ≡ Some qs → (o : Option (List (List Command))) → all_commands qs ≡ o →
        Bytes (joined_or (bytes_by o))
    on qs e None f = zero_byte
    on qs e (Some css) f = joined_bytes_lem (cut_bytes lengths queues qs e bytes) (cut_few lengths queues qs e) (all_read qs css f)

    go : (o : Option (List (List ℕ))) → queues_of lengths queues ≡ o → Bytes (joined_or (joined_by o))
    go None e = zero_byte
    go (Some qs) e = on qs e (all_commands qs) refl

pub run-bytes : (c : Call) → CallBytes c → Bytes (bytes_run c)
run-bytes (batch l) bytes = bytes
run-bytes (desk d) bytes = joined-run d.lengths d.queues bytes
