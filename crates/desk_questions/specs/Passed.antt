-- The loop over the queues, where p of them are passed: where the next starts, that the sums are small, and that what is left, with these sums, asks
-- for what all asks for. Assumes nothing.
use Rattle.std.specs.Prelude.{◌≡◌, refl, List, ℕ, ◌+◌, ◌*◌, ◌≤◌, ◌<◌, length, None}
use Rattle.std.proofs.Common.{sym, ap, ap₂, ◌∙◌, subst, arith}
use Rattle.laws.specs.BigEndian.{Bytes}
use Rattle.layout.specs.Layout.{most_batch_bytes, bound32}
use Rattle.desk_queues.specs.Queues.{queue_count, length_at, start_at, queue_at}
use Rattle.desk_queues.specs.Joined.{queue_commands}
use Rattle.desk_laws.specs.QueueLaws.{Filled}
use Rattle.desk_questions.specs.declared.Sums.{Sums}
use Rattle.desk_questions.specs.Served.{served_of}
use Rattle.desk_questions.specs.Lengths.{start-next, queue_in, queue_size}
use Rattle.desk_questions.specs.Sums.{no_sums, with_queue, served_by, served_with, left, turn_invalid, turn_valid, turns-over}
use Rattle.desk_questions.specs.Queue.{most_room, Admitted}
use Rattle.desk_questions.specs.Total.{begin}

pub record Passed (lengths queues : List ℕ) (p start : ℕ) (s : Sums) : Type 0 where
  pub within : p ≤ queue_count lengths
  pub starts : start ≡ start_at lengths p
  pub short : start ≤ most_batch_bytes * p
  pub small : s.room ≤ most_room * p
  pub few : s.commands ≤ most_batch_bytes * p
  pub asks : served_with (length queues) s (left (queue_at lengths queues) (queue_count lengths) p) ≡ served_of lengths queues

module _ (lengths queues : List ℕ) (f : Filled lengths queues) where
  -- THE BEGINNING
  pub passed_none : Bytes queues → (s : Sums) → s ≡ no_sums → Passed lengths queues 0 0 s
  passed_none bytes s e =
      subst (Passed lengths queues 0 0) (sym e)
      (record {
        within = omega arith;
        starts = refl;
        short = omega arith;
        small = omega arith;
        few = omega arith;
        asks = begin lengths queues f bytes;
      })

  module _ (p start : ℕ) (s : Sums) (w : Passed lengths queues p start s) where
    -- A TURN: the next queue, of its length, lies within the buffer;
    module _ (l : p < queue_count lengths) where
      pub next_in : (size : ℕ) → size ≡ length_at lengths p → start + size ≤ length queues
      next_in size e = omega (arith, queue_in lengths queues f p l, w.starts)

      -- one that is not valid spoils all;
      pub next_invalid : queue_commands (queue_at lengths queues p) ≡ None → None ≡ served_of lengths queues
      next_invalid e = turn_invalid (queue_at lengths queues) (length queues) (queue_count lengths) p s (served_of lengths queues) w.asks l e

      -- one that may stand at the desk is added, and no sum wraps.
      module _ (room n : ℕ) (a : Admitted (queue_at lengths queues p) room n) where
        pub next-room : s.room + room ≤ bound32
        next-room = omega (arith, w.small, a.small, f.few)

        pub next-commands : s.commands + n ≤ bound32
        next-commands = omega (arith, w.few, a.few, f.few)

        pub next_passed : (size : ℕ) → size ≡ length_at lengths p → (t : Sums) → t ≡ with_queue s room n →
            Passed lengths queues (p + 1) (start + size) t
        next_passed size e t g =
            record {
              within = omega arith;
              starts = omega (arith, start-next lengths p, w.starts);
              short = omega (arith, w.short, queue_size lengths queues f p l, a.short);
              small = omega (arith, ap (λ (x : Sums). x.room) g, w.small, a.small);
              few = omega (arith, ap (λ (x : Sums). x.commands) g, w.few, a.few);
              asks =
                  ap (λ (x : Sums). served_with (length queues) x (left (queue_at lengths queues) (queue_count lengths) (p + 1)))
                  (g ∙ ap₂ (with_queue s) a.room-is a.count-is) ∙
                  turn_valid (queue_at lengths queues) (length queues) (queue_count lengths) p s (served_of lengths queues) w.asks l a.commands
                  a.are;
            }

    -- THE END: all queues are short together.
    module _ (l : queue_count lengths ≤ p) where
      pub all_short : length queues ≤ bound32
      all_short =
          let over : p ≡ queue_count lengths = omega (arith, w.within) in
          omega (arith, ap (start_at lengths) over, w.starts, w.short, f.full, f.few)

      pub all_few : s.commands ≤ bound32
      all_few = omega (arith, w.few, w.within, f.few)

      pub all_passed : served_by (length queues) s ≡ served_of lengths queues
      all_passed = turns-over (queue_at lengths queues) (length queues) (queue_count lengths) p s (served_of lengths queues) w.asks l
