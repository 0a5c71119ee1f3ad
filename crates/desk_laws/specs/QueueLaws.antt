-- The queues that the lengths cut from the queue buffer: at most 16, of bytes, and together as long as the buffer. Assumes nothing.
use Rattle.std.specs.Prelude.{◌≡◌, Bool, ◌&&◌, List, map, ◌⊎◌, ℕ, zero, suc, ◌*◌, ◌≤◌, ◌<◌, eqb, leb, length, None, Some}
use Rattle.std.proofs.Math.Path.{refl, sym}
use Rattle.std.proofs.Common.{ap, ◌∙◌, inl, inr, arith, eqb-true, leb-true}
use Rattle.std.proofs.Math.Bool.{true, false}
use Rattle.laws.specs.BigEndian.{Bytes, bytes-part}
use Rattle.laws.specs.Every.{Every}
use Rattle.laws.specs.Lay.{length_part}
use Rattle.laws.specs.Options.{none_some, some_same}
use Rattle.laws.specs.Order.{le_suc_or}
use Rattle.laws.specs.Tests.{choose, and_left, and_right}
use Rattle.laws.specs.Update.{sum_below-ext, list_below, length-below, sum, sum_below_lem, every-below, map_below}
use Rattle.layout.specs.Layout.{panels, length_bytes}
use Rattle.desk_queues.specs.Queues.{queue_count, length_at, start_at, queue_at, queues_in, fills, queues_of}

-- QUESTION 11 answered yes: "more than 16 lengths, part of one, or lengths that don't fill the queue buffer exactly" is a no.
pub record Filled (lengths queues : List ℕ) : Type 0 where
  pub few : queue_count lengths ≤ panels
  pub whole : length_bytes * queue_count lengths ≡ length lengths
  pub full : start_at lengths (queue_count lengths) ≡ length queues

pub filled : (lengths queues : List ℕ) → fills lengths queues ≡ true → Filled lengths queues
unfolding fills
filled lengths queues e =
    let n = queue_count lengths in
    let a = leb n panels in
    let b = eqb (length_bytes * n) (length lengths) in
    let c = eqb (start_at lengths n) (length queues) in
    let rest = and_right a (b && c) e in
    record {
      few = leb-true n panels (and_left a (b && c) e);
      whole = eqb-true (length_bytes * n) (length lengths) (and_left b c rest);
      full = eqb-true (start_at lengths n) (length queues) (and_right b c rest);
    }

-- WHERE QUEUES LIE: no queue starts before an earlier one, and each ends within the buffer.
pub start_le : (lengths : List ℕ) (p n : ℕ) → p ≤ n → start_at lengths p ≤ start_at lengths n
start_le lengths p zero l = omega (arith, ap (start_at lengths) {x = p} {y = 0} (omega arith))
start_le lengths p (suc n) l = go (le_suc_or p n l) (start_le lengths p n)
  where
    go : (p ≤ n) ⊎ (p ≡ suc n) → (p ≤ n → start_at lengths p ≤ start_at lengths n) → start_at lengths p ≤ start_at lengths (suc n)
    go (inl m) rest = omega (arith, rest m)
    go (inr e) rest = omega (arith, ap (start_at lengths) e)

module _ (lengths queues : List ℕ) where
  pub queue_length : (n p : ℕ) → start_at lengths n ≤ length queues → p < n → length (queue_at lengths queues p) ≡ length_at lengths p
  queue_length n p h l = length_part queues (start_at lengths p) (length_at lengths p) (omega (arith, h, start_le lengths (suc p) n l))

  -- The first n queues: their bytes, and their lengths together.
  pub queues-bytes : (n : ℕ) → Bytes queues → Every Bytes (list_below n (queue_at lengths queues))
  queues-bytes n bytes = every-below n (queue_at lengths queues) (λ p. bytes-part (start_at lengths p) (length_at lengths p) bytes)

  pub queues-length : (n : ℕ) → start_at lengths n ≤ length queues → sum (map length (list_below n (queue_at lengths queues))) ≡ start_at lengths n
  queues-length n h =
      ap sum (map_below length n (queue_at lengths queues)) ∙
      sum_below_lem n (λ p. length (queue_at lengths queues p)) ∙
      sum_below-ext n (λ p. length (queue_at lengths queues p)) (length_at lengths) (λ p l. queue_length n p h l)

-- ALL QUEUES, where the lengths are right.
pub record Cut (lengths queues : List ℕ) (qs : List (List ℕ)) : Type 0 where
  pub fill : fills lengths queues ≡ true
  pub are : qs ≡ queues_in lengths queues

module _ (lengths queues : List ℕ) (qs : List (List ℕ)) (e : queues_of lengths queues ≡ Some qs) where
  pub queues_cut : Cut lengths queues qs
  unfolding queues_of
  queues_cut = go (fills lengths queues) refl e
    where
      go : (b : Bool) → fills lengths queues ≡ b → choose b (Some (queues_in lengths queues)) None ≡ Some qs →
          Cut lengths queues qs
      go true f g = record { fill = f; are = sym (some_same g) }
      go false f g = absurd (none_some g)

  pub cut_few : length qs ≤ panels
  cut_few =
      let c = queues_cut in
      let f = filled lengths queues c.fill in
      omega (arith, ap length c.are, length-below (queue_count lengths) (queue_at lengths queues), f.few)

  pub cut_bytes : Bytes queues → Every Bytes qs
  cut_bytes bytes = rw queues_cut.are (queues-bytes lengths queues (queue_count lengths) bytes)

  pub cut_length : sum (map length qs) ≡ length queues
  cut_length =
      let c = queues_cut in
      let f = filled lengths queues c.fill in
      ap (λ (xs : List (List ℕ)). sum (map length xs)) c.are ∙
      queues-length lengths queues (queue_count lengths) (omega (arith, f.full)) ∙
      f.full
