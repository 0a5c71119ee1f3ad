-- What is known of a desk where nothing that is lent was answered with no: what a batch of the joined bytes would have, and queues that can be
-- served. Assumes nothing.
use Rattle.std.specs.Prelude.{◌≡◌, refl, true, List, ℕ, ◌*◌, ◌≤◌, length, Some}
use Rattle.std.proofs.Common.{sym, ap, ◌∙◌, arith}
use Rattle.laws.specs.BigEndian.{Bytes}
use Rattle.layout.specs.Layout.{fewest_blocks, most_blocks, block_bytes, table_bytes}
use Rattle.command.specs.declared.Command.{Command}
use Rattle.command.specs.Batch.{commands_of, room_for_all}
use Rattle.command.specs.BatchLaws.{commands_from_few}
use Rattle.desk_order.specs.Turns.{longest}
use Rattle.desk_queues.specs.Queues.{queue_count, queues_in, fills, queues_of}
use Rattle.desk_queues.specs.Joined.{all_commands, joined, joined_bytes, joined_of, joined_by}
use Rattle.desk_laws.specs.QueueLaws.{filled, queues-bytes}
use Rattle.desk_laws.specs.Read.{all_read}
use Rattle.desk_laws.specs.JoinedLaws.{joined_bytes_lem}
use Rattle.desk_questions.specs.Answers.{Ready}
use Rattle.desk_questions.specs.Total.{lent_few}
use Rattle.model.specs.Call.{joined_or}
use Rattle.run.specs.Valid.{commands_in, Fits, commands_in-is, valid_fits}
use Rattle.desk_run.specs.Served.{lists_or, lists_in, Serves}
use Rattle.batch.specs.Left.{Accepts}

pub record DeskAccepts (pool_length table_length blocks : ℕ) (lengths queues : List ℕ) (rounds room : ℕ) : Type 0 where
  pub accepts : Accepts pool_length table_length blocks (joined_bytes (lists_in lengths queues)) room
  pub serves : Serves lengths queues rounds room
  pub commands_are : accepts.commands ≡ joined (lists_in lengths queues)

-- The lists of commands are those that were read.
pub lists_are : (lengths queues : List ℕ) (css : List (List Command)) → all_commands (queues_in lengths queues) ≡ Some css →
    lists_in lengths queues ≡ css
unfolding lists_in
lists_are lengths queues css e = ap lists_or e

-- .. and the joined bytes are read as these, joined.
pub lists_read : (lengths queues : List ℕ) (css : List (List Command)) → all_commands (queues_in lengths queues) ≡ Some css →
    commands_of (joined_bytes css) ≡ Some (joined css) → commands_of (joined_bytes (lists_in lengths queues)) ≡ Some (joined css)
lists_read lengths queues css e read = ap (λ (l : List (List Command)). commands_of (joined_bytes l)) (lists_are lengths queues css e) ∙ read

-- So are the bytes that the call runs.
pub runs_read : (lengths queues : List ℕ) {room rounds : ℕ} → fills lengths queues ≡ true → (r : Ready lengths queues room rounds) →
    commands_of (joined_or (joined_by (queues_of lengths queues))) ≡ Some (joined r.commands)
unfolding queues_of joined_of
runs_read lengths queues fill r = rw (fill, r.are) r.read

module _ (lengths queues : List ℕ) (fill : fills lengths queues ≡ true) where
  -- By the answer to question 3, and by question 4.
  pub desk_accepts : {pool_length table_length blocks : ℕ} {wanted rounds : ℕ} (room : ℕ) → pool_length ≡ block_bytes * blocks → fewest_blocks ≤ blocks →
      blocks ≤ most_blocks → table_length ≡ table_bytes blocks → Ready lengths queues wanted rounds → wanted ≤ room →
      DeskAccepts pool_length table_length blocks lengths queues rounds room
  desk_accepts {pool_length} {table_length} {blocks} {wanted} {rounds} room pool least most table q enough =
      let css = q.commands in
      let lists : css ≡ lists_in lengths queues = sym (lists_are lengths queues css q.are) in
      let fits : Fits (joined_bytes css) room = valid_fits (joined_bytes css) (joined css) q.read room (omega (arith, q.room-is, enough)) in
      let few = commands_from_few (joined_bytes css) 0 (commands_in (joined_bytes css)) fits.valid in
      let count : length (commands_in (joined_bytes css)) ≡ length (joined css) = ap length (commands_in-is (joined_bytes css) (joined css) q.read) in
      record {
        accepts =
            record {
              pool = pool;
              least = least;
              most = most;
              table = table;
              commands = joined (lists_in lengths queues);
              are = lists_read lengths queues css q.are q.read ∙ ap (λ (l : List (List Command)). Some (joined l)) lists;
              enough = omega (arith, q.room-is, enough, ap (λ (l : List (List Command)). room_for_all (joined l)) lists);
            };
        serves =
            record {
              fill = fill;
              valid = q.are ∙ ap Some lists;
              rounds_are = q.rounds-is ∙ ap longest lists;
              room = omega (arith, q.room-is, enough, ap (λ (l : List (List Command)). room_for_all (joined l)) lists);
              few = omega (arith, few, count, fits.short, ap (λ (l : List (List Command)). length (joined l)) lists);
            };
        commands_are = refl;
      }

  -- The joined bytes are bytes.
  pub bytes_are : Bytes queues → all_commands (queues_in lengths queues) ≡ Some (lists_in lengths queues) → Bytes (joined_bytes (lists_in lengths queues))
  bytes_are bytes valid =
      joined_bytes_lem (queues-bytes lengths queues (queue_count lengths) bytes) (lent_few lengths queues (filled lengths queues fill) bytes)
      (all_read (queues_in lengths queues) (lists_in lengths queues) valid)
