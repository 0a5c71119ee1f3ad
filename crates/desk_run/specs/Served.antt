-- Queues that questions 11, 3 and 4 let through, and where their service begins: each at its first command. Assumes nothing.
use Rattle.std.specs.Prelude.{◌≡◌, true, List, [], ℕ, zero, suc, ◌≤◌, ◌<◌, length, get_or, replicate, Option, None, Some}
use Rattle.std.proofs.Common.{sym, ap, ◌∙◌, arith}
use Rattle.std.proofs.lemmas.List.{length-replicate}
use Rattle.laws.specs.Update.{length-below, below_at, below-is}
use Rattle.laws.specs.Lists.{get_or-replicate_same}
use Rattle.layout.specs.Layout.{most_batch_bytes, panels}
use Rattle.command.specs.declared.Command.{Command}
use Rattle.command.specs.Batch.{commands_from, commands_of, room_for_all}
use Rattle.command.specs.BatchLaws.{commands_of-read}
use Rattle.desk_order.specs.Turns.{longest}
use Rattle.desk_queues.specs.Queues.{queue_count, queue_at, queues_in, fills}
use Rattle.desk_queues.specs.Joined.{all_commands, joined}
use Rattle.desk_laws.specs.Read.{Own, Read, nothing, next, all_read, read_length}
use Rattle.desk_run.specs.Places.{rest_at, rests, Placed, rest-is}

-- The commands of all queues; none are said of queues that are not valid.
abbrev pub lists_or : Option (List (List Command)) → List (List Command)
lists_or None = []
lists_or (Some css) = css

unfoldable pub lists_in : List ℕ → List ℕ → List (List Command)
lists_in lengths queues = lists_or (all_commands (queues_in lengths queues))

-- What the questions leave: lengths that fill the queues, queues that are valid, so many rounds, room for the answers, and few commands in all.
pub record Serves (lengths queues : List ℕ) (rounds bytes : ℕ) : Type 0 where
  pub fill : fills lengths queues ≡ true
  pub valid : all_commands (queues_in lengths queues) ≡ Some (lists_in lengths queues)
  pub rounds_are : rounds ≡ longest (lists_in lengths queues)
  pub room : room_for_all (joined (lists_in lengths queues)) ≤ bytes
  pub few : length (joined (lists_in lengths queues)) ≤ most_batch_bytes

-- Each queue, with its commands.
read_at : {qs : List (List ℕ)} {css : List (List Command)} → Read qs css → (p : ℕ) → p < length qs → Own (get_or qs p []) (get_or css p [])
read_at nothing p l = absurd (omega arith)
read_at (next o r) zero l = o
read_at (next o r) (suc p) l = read_at r p (omega arith)

-- All places are 0 at first.
module _ (lengths queues : List ℕ) (valid : all_commands (queues_in lengths queues) ≡ Some (lists_in lengths queues)) where
  abbrev zeros : List ℕ
  zeros = replicate panels 0

  all : Read (queues_in lengths queues) (lists_in lengths queues)
  all = all_read (queues_in lengths queues) (lists_in lengths queues) valid

  count : length (queues_in lengths queues) ≡ queue_count lengths
  count = length-below (queue_count lengths) (queue_at lengths queues)

  whole : (p : ℕ) → p < queue_count lengths → commands_from (queue_at lengths queues p) (get_or zeros p 0) ≡ Some (get_or (lists_in lengths queues) p [])
  whole p l =
      ap (commands_from (queue_at lengths queues p)) (get_or-replicate_same panels p 0) ∙
      (commands_of-read (queue_at lengths queues p) (get_or (lists_in lengths queues) p [])
      (ap commands_of (sym (below_at (queue_count lengths) (queue_at lengths queues) p [] l)) ∙ (read_at all p (omega (arith, count))).commands)).1

  pub rests-start : rests lengths queues zeros ≡ lists_in lengths queues
  rests-start =
      sym (below-is (lists_in lengths queues) (queue_count lengths) (rest_at lengths queues zeros) [] (read_length all ∙ count)
      (λ p l. sym (rest-is lengths queues zeros p (get_or (lists_in lengths queues) p []) (whole p l))))

  pub placed_start : Placed lengths queues zeros
  placed_start =
      record {
        sixteen = length-replicate {A = ℕ} panels 0;
        left = λ p l. whole p l ∙ ap Some (sym (rest-is lengths queues zeros p (get_or (lists_in lengths queues) p []) (whole p l)));
      }
