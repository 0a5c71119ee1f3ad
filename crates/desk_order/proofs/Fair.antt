-- "A waiting panel sees at most 15 commands of others before its next one." In a round panels rise: between two turns of a panel lies at most one of
-- each other panel, those above it in the one round and those below it in the next. Assumes nothing.
use Rattle.std.specs.Prelude.{◌≡◌, refl, Bool, true, false, ◌⊎◌, List, [], ◌∷◌, ◌++◌, ℕ, zero, suc, ◌+◌, ◌-◌, ◌≤◌, ◌<◌, length, drop}
use Rattle.std.proofs.Common.{ap, ◌∙◌, inl, inr, arith, eqb-true, length-drop}
use Rattle.std.proofs.Math.Seq.{drop-nil, drop-append-add}
use Rattle.std.proofs.lemmas.List.{drop-append-le}
use Rattle.laws.specs.Counts.{bit, count-append}
use Rattle.laws.specs.Order.{le_or}
use Rattle.desk_order.specs.Turns.{heads, tails, rounds, longest, turns, is_of, turns_of, waits}
use Rattle.desk_order.proofs.Rounds.{length-tails}

module _ {C : Type 0} where
  -- The panels of turns rise, from a lowest one on and below a highest.
  abbrev Rising : ℕ → ℕ → List (ℕ × C) → Type 0
  Rising low high [] = Unit {0}
  Rising low high (x ∷ xs) = (low ≤ x.0) × (x.0 < high) × Rising (suc x.0) high xs

  rising_lower : (low least high : ℕ) (xs : List (ℕ × C)) → least ≤ low → Rising low high xs → Rising least high xs
  rising_lower low least high [] l r = tt
  rising_lower low least high (x ∷ xs) l r = (omega (arith, r.0), r.1, r.2)

  rising_length : (low high : ℕ) (xs : List (ℕ × C)) → Rising low high xs → length xs ≤ high - low
  rising_length low high [] r = omega arith
  rising_length low high (x ∷ xs) r = omega (arith, r.0, r.1, rising_length (suc x.0) high xs r.2)

  -- Those of a round do.
  heads_rising : (low high : ℕ) (qs : List (List C)) → low + length qs ≤ high → Rising low high (heads low qs)
  heads_rising low high [] l = tt
  heads_rising low high ([] ∷ qs) l =
      rising_lower (suc low) low high (heads (suc low) qs) (omega arith) (heads_rising (suc low) high qs (omega arith))
  heads_rising low high ((c ∷ cs) ∷ qs) l = (omega arith, omega arith, heads_rising (suc low) high qs (omega arith))

  -- A panel without a turn in a round has none in the next one, nor in any later one.
  fewer : (p low : ℕ) (qs : List (List C)) → turns_of p (heads low (tails qs)) ≤ turns_of p (heads low qs)
  fewer p low [] = omega arith
  fewer p low ([] ∷ qs) = fewer p (suc low) qs
  fewer p low ((c ∷ []) ∷ qs) = omega (arith, fewer p (suc low) qs)
  fewer p low ((c ∷ d ∷ cs) ∷ qs) = omega (arith, fewer p (suc low) qs)

  none_left : (p n : ℕ) (qs : List (List C)) → turns_of p (heads 0 qs) ≡ 0 → turns_of p (rounds n qs) ≡ 0
  none_left p zero qs e = refl
  none_left p (suc n) qs e =
      omega (arith, count-append (is_of p) (heads 0 qs) (rounds n (tails qs)), e, none_left p n (tails qs) (omega (arith, fewer p 0 qs)))

  -- Waiting through turns laid one behind the other: past the first where the panel has none there, else in the first.
  waits-behind : (p : ℕ) (xs ys : List (ℕ × C)) → turns_of p xs ≡ 0 → waits p (xs ++ ys) ≡ length xs + waits p ys
  waits-behind p [] ys e = omega arith
  waits-behind p (x ∷ xs) ys e = go (is_of p x) refl (waits-behind p xs ys)
    where
      go : (b : Bool) → is_of p x ≡ b → (turns_of p xs ≡ 0 → waits p (xs ++ ys) ≡ length xs + waits p ys) →
          waits p ((x ∷ xs) ++ ys) ≡ suc (length xs) + waits p ys
      go true t r = absurd (omega (arith, e, ap bit t))
      go false t r = rw t (omega (arith, r (omega (arith, e, ap bit t))))

  waits-inside : (p : ℕ) (xs ys : List (ℕ × C)) → 1 ≤ turns_of p xs → waits p (xs ++ ys) < length xs
  waits-inside p [] ys l = absurd (omega arith)
  waits-inside p (x ∷ xs) ys l = go (is_of p x) refl (waits-inside p xs ys)
    where
      go : (b : Bool) → is_of p x ≡ b → (1 ≤ turns_of p xs → waits p (xs ++ ys) < length xs) → waits p ((x ∷ xs) ++ ys) < suc (length xs)
      go true t r = rw t (omega arith)
      go false t r = rw t (omega (arith, r (omega (arith, l, ap bit t))))

  -- In a round only panels below it come before a panel ..
  waits_rising : (p low high : ℕ) (xs ys : List (ℕ × C)) → Rising low high xs → 1 ≤ turns_of p xs → waits p (xs ++ ys) + low ≤ p
  waits_rising p low high [] ys r l = absurd (omega arith)
  waits_rising p low high (x ∷ xs) ys r l = go (is_of p x) refl (waits_rising p (suc x.0) high xs ys r.2)
    where
      go : (b : Bool) → is_of p x ≡ b → (1 ≤ turns_of p xs → waits p (xs ++ ys) + suc x.0 ≤ p) → waits p ((x ∷ xs) ++ ys) + low ≤ p
      go true t h = rw t (omega (arith, eqb-true p x.0 t, r.0))
      go false t h = rw t (omega (arith, h (omega (arith, l, ap bit t)), r.0))

  -- .. and once it has had its turn, only panels above it are left.
  after_turn : (p k low high : ℕ) (xs : List (ℕ × C)) → Rising low high xs → 1 ≤ turns_of p xs → turns_of p (drop k xs) ≡ 0 →
      length (drop k xs) + p < high
  after_turn p zero low high xs r l e = absurd (omega arith)
  after_turn p (suc k) low high [] r l e = absurd (omega arith)
  after_turn p (suc k) low high (x ∷ xs) r l e = go (is_of p x) refl (after_turn p k (suc x.0) high xs r.2)
    where
      go : (b : Bool) → is_of p x ≡ b → (1 ≤ turns_of p xs → turns_of p (drop k xs) ≡ 0 → length (drop k xs) + p < high) →
          length (drop k xs) + p < high
      go true t h = omega (arith, eqb-true p x.0 t, length-drop k xs, rising_length (suc x.0) high xs r.2, r.1)
      go false t h = h (omega (arith, l, ap bit t)) e

  -- A panel that has a turn in some round has one in the first, and only panels below it come before.
  first-turn : (p n : ℕ) (qs : List (List C)) → 1 ≤ turns_of p (rounds n qs) → (1 ≤ turns_of p (heads 0 qs)) × (waits p (rounds n qs) ≤ p)
  first-turn p zero qs l = absurd (omega arith)
  first-turn p (suc n) qs l = go (le_or 1 (turns_of p (heads 0 qs)))
    where
      go : (1 ≤ turns_of p (heads 0 qs)) ⊎ (turns_of p (heads 0 qs) < 1) →
          (1 ≤ turns_of p (heads 0 qs)) × (waits p (heads 0 qs ++ rounds n (tails qs)) ≤ p)
      go (inl a) =
          let rising = heads_rising 0 (length qs) qs (omega arith) in
          (a, omega (arith, waits_rising p 0 (length qs) (heads 0 qs) (rounds n (tails qs)) rising a))
      go (inr a) = absurd (omega (arith, l, none_left p (suc n) qs (omega arith)))

  -- From a place within a round: the panel's turn in it is still to come, or it has been, and the next is in the next round.
  fair_within : (n : ℕ) (qs : List (List C)) (p k : ℕ) → 1 ≤ turns_of p (drop k (heads 0 qs) ++ rounds n (tails qs)) →
      waits p (drop k (heads 0 qs) ++ rounds n (tails qs)) < length qs
  fair_within n qs p k o = go (le_or 1 (turns_of p left))
    where
      left : List (ℕ × C)
      left = drop k (heads 0 qs)

      later : List (ℕ × C)
      later = rounds n (tails qs)

      rising : Rising 0 (length qs) (heads 0 qs)
      rising = heads_rising 0 (length qs) qs (omega arith)

      go : (1 ≤ turns_of p left) ⊎ (turns_of p left < 1) → waits p (left ++ later) < length qs
      go (inl a) = omega (arith, waits-inside p left later a, length-drop k (heads 0 qs), rising_length 0 (length qs) (heads 0 qs) rising)
      go (inr a) =
          let gone : turns_of p left ≡ 0 = omega arith in
          let next = first-turn p n (tails qs) (omega (arith, count-append (is_of p) left later, o)) in
          let had : 1 ≤ turns_of p (heads 0 qs) = omega (arith, next.0, fewer p 0 qs) in
          omega (arith, waits-behind p left later gone, after_turn p k 0 (length qs) (heads 0 qs) rising had gone, next.1)

  fair_rounds : (n : ℕ) (qs : List (List C)) (p k : ℕ) → 1 ≤ turns_of p (drop k (rounds n qs)) → waits p (drop k (rounds n qs)) < length qs
  fair_rounds zero qs p k l = absurd (omega (arith, l, ap (turns_of p) (drop-nil {A = ℕ × C} k)))
  fair_rounds (suc n) qs p k l = go (le_or (length round) k) (λ m. fair_rounds n (tails qs) p m)
    where
      round : List (ℕ × C)
      round = heads 0 qs

      later : List (ℕ × C)
      later = rounds n (tails qs)

      go : (length round ≤ k) ⊎ (k < length round) → ((m : ℕ) → 1 ≤ turns_of p (drop m later) → waits p (drop m later) < length (tails qs)) →
          waits p (drop k (round ++ later)) < length qs
      go (inl m) rest =
          let place : k ≡ length round + (k - length round) = omega arith in
          let e = ap (λ (i : ℕ). drop i (round ++ later)) place ∙ drop-append-add round later (k - length round) in
          let o : 1 ≤ turns_of p (drop (k - length round) later) = omega (arith, l, ap (turns_of p) e) in
          omega (arith, ap (waits p) e, rest (k - length round) o, length-tails qs)
      go (inr m) rest =
          let e = drop-append-le k round later (omega arith) in
          omega (arith, ap (waits p) e, fair_within n qs p k (omega (arith, l, ap (turns_of p) e)))

  -- FAIR: from every place k of the order on, if panel p still has a turn there, fewer turns come before it than there are queues, all of others.
  pub fair_sharp : (qs : List (List C)) (p k : ℕ) → 1 ≤ turns_of p (drop k (turns qs)) → waits p (drop k (turns qs)) < length qs
  unfolding turns
  fair_sharp qs p k l = fair_rounds (longest qs) qs p k l

  -- "At most 15."
  pub fair : (qs : List (List C)) → length qs ≤ 16 → (p k : ℕ) → 1 ≤ turns_of p (drop k (turns qs)) → waits p (drop k (turns qs)) ≤ 15
  fair qs few p k l = omega (arith, fair_sharp qs p k l)
