-- What the questions of a desk tell: the number of the first no; where there is none, queues that can be served, and in how many rounds. Assumes
-- nothing.
use Rattle.std.specs.Prelude.{◌≡◌, true, false, List, ◌∷◌, ℕ, ◌≤◌, ◌<◌, length, Option, None, Some}
use Rattle.std.proofs.Math.Path.{refl, ap}
use Rattle.std.proofs.Common.{sym, ◌∙◌, arith}
use Rattle.command.specs.declared.Command.{Command}
use Rattle.desk_queues.specs.Queues.{queues_in, fills, queues_of}
use Rattle.desk_queues.specs.Joined.{joined, bytes_by, joined_of, joined_by, joined_read}
use Rattle.desk_questions.specs.Answers.{Ready}
use Rattle.model.specs.Questions.{Question, first_no, of_sizes, of_commands, of_desk}
use Rattle.questions.specs.Answers.{sizes_no, sizes-right, three, four, none_left}

pub record DeskReady (lengths queues buffer : List ℕ) (rounds : ℕ) : Type 0 where
  pub fill : fills lengths queues ≡ true
  pub room : ℕ
  pub ready : Ready lengths queues room rounds
  pub enough : room ≤ length buffer

module _ (pool table lengths queues buffer : List ℕ) where
  abbrev read : Option (List Command)
  read = joined_read (joined_by (queues_of lengths queues))

  abbrev rest : List Question
  rest = (11, fills lengths queues) ∷ of_commands read buffer

  -- By 1 or 2; else what is behind them decides.
  module _ (n : ℕ) (is : n ≡ first_no (of_sizes pool table)) where
    pub by-sizes : (n ≡ 0 → ⊥) → n ≡ first_no (of_desk pool table lengths queues buffer)
    unfolding of_desk
    by-sizes d = sizes_no pool table n is rest d

    module _ (z : n ≡ 0) where
      behind : (k : ℕ) → k ≡ first_no rest → k ≡ first_no (of_desk pool table lengths queues buffer)
      unfolding of_desk
      behind = sizes-right pool table n is rest z

      pub by_eleven : fills lengths queues ≡ false → 11 ≡ first_no (of_desk pool table lengths queues buffer)
      by_eleven e = behind 11 (rw e refl)

      module _ (fill : fills lengths queues ≡ true) where
        -- What the commands are read from.
        is_read : read ≡ joined_read (joined_of (queues_in lengths queues))
        unfolding queues_of
        is_read = rw fill refl

        last : (k : ℕ) → k ≡ first_no (of_commands (joined_read (joined_of (queues_in lengths queues))) buffer) →
            k ≡ first_no (of_desk pool table lengths queues buffer)
        last k e = behind k (e ∙ sym (rw fill (ap (λ (o : Option (List Command)). first_no (of_commands o buffer)) is_read)))

        pub by_three : joined_read (joined_of (queues_in lengths queues)) ≡ None → 3 ≡ first_no (of_desk pool table lengths queues buffer)
        by_three e = last 3 (three buffer (joined_read (joined_of (queues_in lengths queues))) e)

        module _ {room rounds : ℕ} (r : Ready lengths queues room rounds) where
          commands_are : joined_read (joined_of (queues_in lengths queues)) ≡ Some (joined r.commands)
          unfolding joined_of
          commands_are = ap (λ (o : Option (List (List Command))). joined_read (bytes_by o)) r.are ∙ r.read

          pub by-four : length buffer < room → 4 ≡ first_no (of_desk pool table lengths queues buffer)
          by-four l =
              last 4 (four buffer (joined_read (joined_of (queues_in lengths queues))) (joined r.commands) commands_are (omega (arith, r.room-is)))

          pub by-none : room ≤ length buffer → 0 ≡ first_no (of_desk pool table lengths queues buffer)
          by-none l =
              last 0 (none_left buffer (joined_read (joined_of (queues_in lengths queues))) (joined r.commands) commands_are (omega (arith, r.room-is)))
