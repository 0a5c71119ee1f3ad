-- The code takes the pages that a row names in the order of their sequence numbers: where each of as many numbers as there are slots is a
-- slot's, the slots it takes one after another are those of the numbers in ascending order. Assumes nothing.
use Rattle.std.specs.Prelude.{◌≡◌, refl, Bool, ◌⊎◌, List, ℕ, ◌≤◌, ◌<◌, max, min, ltb}
use Rattle.std.proofs.Math.Path.{ap}
use Rattle.std.proofs.Common.{◌∙◌, arith, ltb-true, ltb-false}
use Rattle.std.proofs.Math.Bool.{true, false}
use Rattle.std.proofs.Math.Logic.{inl, inr}
use Rattle.laws.specs.Tests.{choose}
use Rattle.node.specs.Replay.{Piece, Draft, replay_from}
use Rattle.flash_read.specs.declared.slot.Slot.{Slot}
use Rattle.flash_read.specs.Slots.{earlier, later, redo_at, redo_two, redo_three}

-- Two slots compared.
earlier-sequence : (a b : Slot) → (earlier a b).sequence ≡ min a.sequence b.sequence
unfolding earlier
earlier-sequence a b = go (ltb b.sequence a.sequence) refl
  where
    go : (t : Bool) → ltb b.sequence a.sequence ≡ t → (choose t b a).sequence ≡ min a.sequence b.sequence
    go true e = omega (arith, ltb-true b.sequence a.sequence e)
    go false e = omega (arith, ltb-false b.sequence a.sequence e)

later-sequence : (a b : Slot) → (later a b).sequence ≡ max a.sequence b.sequence
unfolding later
later-sequence a b = go (ltb b.sequence a.sequence) refl
  where
    go : (t : Bool) → ltb b.sequence a.sequence ≡ t → (choose t a b).sequence ≡ max a.sequence b.sequence
    go true e = omega (arith, ltb-true b.sequence a.sequence e)
    go false e = omega (arith, ltb-false b.sequence a.sequence e)

-- What holds of one of two or three slots.
abbrev pub OfTwo : (Slot → Type 0) → Slot → Slot → Type 0
OfTwo P a b = P a ⊎ P b

abbrev pub OfThree : (Slot → Type 0) → Slot → Slot → Slot → Type 0
OfThree P a b c = P a ⊎ (P b ⊎ P c)

-- Three slots in the order in which the code takes them.
abbrev lowest : Slot → Slot → Slot → Slot
lowest a b c = earlier (earlier a b) (earlier (later a b) c)

abbrev between : Slot → Slot → Slot → Slot
between a b c = later (earlier a b) (earlier (later a b) c)

abbrev highest : Slot → Slot → Slot → Slot
highest a b c = later (later a b) c

in_order_lem : (a b c : Slot) → ((lowest a b c).sequence ≤ (between a b c).sequence) × ((between a b c).sequence ≤ (highest a b c).sequence)
in_order_lem a b c =
    let p = earlier a b in
    let q = later a b in
    let r = earlier (later a b) c in
    let low : p.sequence ≤ q.sequence = omega (arith, earlier-sequence a b, later-sequence a b) in
    let high : q.sequence ≤ (highest a b c).sequence = omega (arith, later-sequence q c) in
    let mid : r.sequence ≤ (highest a b c).sequence = omega (arith, earlier-sequence q c, later-sequence q c) in
    (omega (arith, earlier-sequence p r, later-sequence p r), omega (arith, later-sequence p r))

-- Comparing slots loses none of them.
module _ (P : Slot → Type 0) where
  compared : (a b : Slot) → OfTwo P a b → OfTwo P (earlier a b) (later a b)
  unfolding earlier later
  compared a b h = go (ltb b.sequence a.sequence) h
    where
      go : (t : Bool) → OfTwo P a b → OfTwo P (choose t b a) (choose t a b)
      go true (inl x) = inr x
      go true (inr x) = inl x
      go false x = x

  ordered : (a b c : Slot) → OfThree P a b c → OfThree P (lowest a b c) (between a b c) (highest a b c)
  ordered a b c h = go h
    where
      p : Slot
      p = earlier a b

      q : Slot
      q = later a b

      r : Slot
      r = earlier (later a b) c

      Goal : Type 0
      Goal = OfThree P (lowest a b c) (between a b c) (highest a b c)

      low : OfTwo P (lowest a b c) (between a b c) → Goal
      low (inl x) = inl x
      low (inr y) = inr (inl y)

      high : OfTwo P r (highest a b c) → Goal
      high (inl x) = low (compared p r (inr x))
      high (inr z) = inr (inr z)

      first : OfTwo P p q → Goal
      first (inl x) = low (compared p r (inl x))
      first (inr x) = high (compared q c (inl x))

      go : OfThree P a b c → Goal
      go (inl x) = first (compared a b (inl x))
      go (inr (inl x)) = first (compared a b (inr x))
      go (inr (inr x)) = high (compared q c (inr x))

module _ (pages : List (List ℕ)) (n v : ℕ) (f : ℕ → List Piece) where
  -- A slot has a sequence number, and what the code takes from its page is what is told of that number.
  pub record Tells (s : ℕ) (x : Slot) : Type 0 where
    pub number : x.sequence ≡ s
    pub redo : (d : Draft) → redo_at pages x.page n v d ≡ replay_from d (f s)

  -- Two numbers of two slots that do not descend.
  two_sorted : (s t : ℕ) → s < t → (x y : Slot) → x.sequence ≤ y.sequence → OfTwo (Tells s) x y → OfTwo (Tells t) x y → Tells s x × Tells t y
  two_sorted s t l x y o (inl p) (inl q) = absurd (omega (arith, p.number, q.number))
  two_sorted s t l x y o (inl p) (inr q) = (p, q)
  two_sorted s t l x y o (inr p) (inl q) = absurd (omega (arith, p.number, q.number))
  two_sorted s t l x y o (inr p) (inr q) = absurd (omega (arith, p.number, q.number))

  -- Three numbers of three slots that do not descend.
  module _ (x y z : Slot) (o : x.sequence ≤ y.sequence) (o' : y.sequence ≤ z.sequence) where
    bottom : (s : ℕ) → OfThree (Tells s) x y z → (y.sequence ≤ s → ⊥) → Tells s x
    bottom s (inl p) h = p
    bottom s (inr (inl p)) h = absurd (h (omega (arith, p.number)))
    bottom s (inr (inr p)) h = absurd (h (omega (arith, p.number)))

    top : (s : ℕ) → OfThree (Tells s) x y z → (s ≤ y.sequence → ⊥) → Tells s z
    top s (inl p) h = absurd (h (omega (arith, p.number)))
    top s (inr (inl p)) h = absurd (h (omega (arith, p.number)))
    top s (inr (inr p)) h = p

    middle : (s : ℕ) → OfThree (Tells s) x y z → x.sequence < s → s < z.sequence → Tells s y
    middle s (inl p) h k = absurd (omega (arith, p.number))
    middle s (inr (inl p)) h k = p
    middle s (inr (inr p)) h k = absurd (omega (arith, p.number))

    three_sorted : (s t u : ℕ) → s < t → t < u → OfThree (Tells s) x y z → OfThree (Tells t) x y z → OfThree (Tells u) x y z →
        Tells s x × Tells t y × Tells u z
    three_sorted s t u l l' hs ht hu =
        let first = bottom s hs (λ h. omega (arith, (top t ht (λ k. omega arith)).number, (top u hu (λ k. omega arith)).number)) in
        let last = top u hu (λ h. omega (arith, (bottom s hs (λ k. omega arith)).number, (bottom t ht (λ k. omega arith)).number)) in
        (first, middle t ht (omega (arith, first.number)) (omega (arith, last.number)), last)

  -- THE PAGES OF TWO SLOTS, and of three
  pub two_redone : (s t : ℕ) → s < t → (a b : Slot) → OfTwo (Tells s) a b → OfTwo (Tells t) a b → (d : Draft) →
      redo_two pages a b n v d ≡ replay_from (replay_from d (f s)) (f t)
  unfolding redo_two
  two_redone s t l a b hs ht d =
      let both =
      two_sorted s t l (earlier a b) (later a b) (omega (arith, earlier-sequence a b, later-sequence a b)) (compared (Tells s) a b hs)
      (compared (Tells t) a b ht) in
      ap (redo_at pages (later a b).page n v) (both.0.redo d) ∙ both.1.redo (replay_from d (f s))

  pub three_redone : (s t u : ℕ) → s < t → t < u → (a b c : Slot) → OfThree (Tells s) a b c → OfThree (Tells t) a b c → OfThree (Tells u) a b c →
      (d : Draft) → redo_three pages a b c n v d ≡ replay_from (replay_from (replay_from d (f s)) (f t)) (f u)
  unfolding redo_three redo_two
  three_redone s t u l l' a b c hs ht hu d =
      let x = lowest a b c in
      let y = between a b c in
      let z = highest a b c in
      let o : (x.sequence ≤ y.sequence) × (y.sequence ≤ z.sequence) = in_order_lem a b c in
      let all = three_sorted x y z o.0 o.1 s t u l l' (ordered (Tells s) a b c hs) (ordered (Tells t) a b c ht) (ordered (Tells u) a b c hu) in
      ap (λ (e : Draft). redo_at pages z.page n v (redo_at pages y.page n v e)) (all.0.redo d) ∙
      ap (redo_at pages z.page n v) (all.1.redo (replay_from d (f s))) ∙
      all.2.redo (replay_from (replay_from d (f s)) (f t))
