-- The longest queues there are: gets in one queue. Assumes nothing.
use Rattle.std.specs.Prelude.{◌≡◌, refl, Bool, true, false, ℕ, ◌*◌, ◌≤◌, leb, length, Some, None}
use Rattle.std.proofs.Math.Path.{ap}
use Rattle.std.proofs.Common.{ap₂, ◌∙◌, arith}
use mathlib.Core.List.{List, [], ◌∷◌}
use borrow.Author.Tests.{eq-eqb}
use Rattle.std.proofs.lemmas.List.{length-replicate}
use Rattle.laws.specs.BigEndian.{big_endian, number_at-big_endian}
use Rattle.laws.specs.Lay.{part, part-whole}
use Rattle.laws.specs.Tests.{choose}
use Rattle.layout.specs.Layout.{most_batch_bytes}
use Rattle.command.specs.declared.Command.TheVariants.{Get}
use Rattle.command.specs.Batch.{room_for_all}
use Rattle.command.specs.Spelled.{batch_bytes}
use Rattle.desk_order.specs.Turns.{longest}
use Rattle.desk_queues.specs.Queues.{length_at, start_at, queue_at, fills}
use Rattle.desk_queues.specs.Joined.{queue_commands, beside, joined, joined_bytes}
use Rattle.desk_laws.specs.JoinedLaws.{room_joined}
use Rattle.desk_laws.specs.Gets.{gets, length-gets, room-gets, queue_gets, joined-gets}
use Rattle.desk_questions.specs.Served.{rounds_for, within_limit, served_as, served_of}

module _ (n : ℕ) (h : 7 * n ≤ most_batch_bytes) where
  abbrev lengths : List ℕ
  lengths = big_endian 4 (7 * n)

  abbrev queues : List ℕ
  queues = batch_bytes (gets n)

  -- The length is right: the one queue is the whole buffer, and its commands are these.
  said : length_at lengths 0 ≡ 7 * n
  said = number_at-big_endian 4 (7 * n) (omega arith)

  pub fills-gets : fills lengths queues ≡ true
  unfolding fills
  fills-gets = eq-eqb (start_at lengths 1) (length queues) (omega (arith, said, length-gets n))

  whole : queue_at lengths queues 0 ≡ queues
  whole = ap (part queues 0) said ∙ part-whole queues (7 * n) (length-gets n)

  -- What they ask for: 11 bytes joined for each, 7 bytes of room, and a round.
  pub served-gets : served_of lengths queues ≡ choose (leb (11 * n) most_batch_bytes) (Some (rounds_for (7 * n) n)) None
  unfolding served_of
  served-gets =
      ap served_as (ap within_limit (ap (λ (q : List ℕ). beside (queue_commands q) (Some [])) whole ∙ ap (λ o. beside o (Some [])) (queue_gets n h))) ∙
      within (leb (length (joined_bytes (gets n ∷ []))) most_batch_bytes) ∙
      ap (λ (k : ℕ). choose (leb k most_batch_bytes) (Some (rounds_for (7 * n) n)) None) (joined-gets n)
    where
      room : room_for_all (joined (gets n ∷ [])) ≡ 7 * n
      room = omega (arith, room_joined (gets n ∷ []), room-gets n)

      rounds : longest (gets n ∷ []) ≡ n
      rounds = omega (arith, length-replicate n (Get 7))

      within : (b : Bool) → served_as (choose b (Some (gets n ∷ [])) None) ≡ choose b (Some (rounds_for (7 * n) n)) None
      within true = ap₂ (λ (a b : ℕ). Some (rounds_for a b)) room rounds
      within false = refl

-- "With its length limit": 2,978 take 32,758 bytes joined, 2,979 take 32,769.
pub worked_longest : served_of (big_endian 4 20846) (batch_bytes (gets 2978)) ≡ Some (rounds_for 20846 2978)
worked_longest = served-gets 2978 (omega arith)

pub worked_too_long : served_of (big_endian 4 20853) (batch_bytes (gets 2979)) ≡ None
worked_too_long = served-gets 2979 (omega arith)
