-- Numbers that all differ: in a list that ascends, each is above its neighbour. Assumes nothing.
use Rattle.std.specs.Prelude.{◌≡◌, refl, Bool, true, false, ◌&&◌, ◌⊎◌, List, [], ◌∷◌, ℕ, ◌+◌, ◌≤◌, ◌<◌, eqb, leb, ltb}
use Rattle.std.proofs.Common.{ap, inl, inr, arith, eqb-true, eq-eqb, ne_eqb, ltb-true, lt-ltb, leb-true, le-leb}
use Rattle.std.proofs.lemmas.Bool.{lt-leb}
use Rattle.laws.specs.Tests.{and_left, and_right, test_clash}
use Rattle.laws.specs.Order.{eq_or, le_or}
use Rattle.laws.specs.Counts.{bit, bit_le_one, count, count_mono}
use Rattle.mount_sequences.specs.Ascend.{lower, Ascends}
use Rattle.mount_sequences.specs.Digits.{self}

-- A number is this one.
abbrev pub is : ℕ → ℕ → Bool
is v x = eqb x v

-- Each number is above the one before it.
unfoldable pub rises : ℕ → List ℕ → Bool
rises a [] = true
rises a (x ∷ xs) = ltb a x && rises x xs

unfoldable pub strict : List ℕ → Bool
strict [] = true
strict (x ∷ xs) = rises x xs

abbrev up_to : ℕ → ℕ → Bool
up_to a y = leb y a

rises-none : (a : ℕ) (xs : List ℕ) → rises a xs ≡ true → count (up_to a) xs ≡ 0
unfolding rises
rises-none a [] e = refl
rises-none a (x ∷ xs) e =
    let l = ltb-true a x (and_left (ltb a x) (rises x xs) e) in
    omega (
      arith,
      ap bit (lt-leb x a l),
      rises-none x xs (and_right (ltb a x) (rises x xs) e),
      count_mono (up_to a) (up_to x) xs (λ y q. le-leb y x (omega (arith, leb-true y a q))),
    )

rises_once : (a : ℕ) (xs : List ℕ) → rises a xs ≡ true → (v : ℕ) → bit (is v a) + count (is v) xs ≤ 1
unfolding rises
rises_once a [] e v = omega (arith, bit_le_one (is v a))
rises_once a (x ∷ xs) e v = go (eq_or a v) (rises_once x xs (and_right (ltb a x) (rises x xs) e) v)
  where
    go : (a ≡ v) ⊎ (a ≡ v → ⊥) → bit (is v x) + count (is v) xs ≤ 1 → bit (is v a) + (bit (is v x) + count (is v) xs) ≤ 1
    go (inl q) r =
        omega (
          arith,
          bit_le_one (is v a),
          rises-none a (x ∷ xs) e,
          count_mono (is v) (up_to a) (x ∷ xs) (λ y u. le-leb y a (omega (arith, eqb-true y v u))),
        )
    go (inr q) r = omega (arith, ap bit (ne_eqb a v q))

-- ascending numbers that do not rise have one twice
record Twice (a : ℕ) (xs : List ℕ) : Type 0 where
  number : ℕ
  twice : 2 ≤ bit (is number a) + count (is number) xs

falls_twice : (a : ℕ) (xs : List ℕ) → rises a xs ≡ false → Ascends self xs → count (lower self a) xs ≡ 0 → Twice a xs
unfolding rises
falls_twice a [] e c l = absurd (test_clash true refl e)
falls_twice a (x ∷ xs) e c l = go (le_or x a) (λ q. falls_twice x xs q c.1 c.0)
  where
    go : (x ≤ a) ⊎ (a < x) → (rises x xs ≡ false → Twice x xs) → Twice a (x ∷ xs)
    go (inl q) r = record { number = a; twice = omega (arith, ap bit (eq-eqb a a refl), ap bit (eq-eqb x a (same (le_or a x)))) }
      where
        same : (a ≤ x) ⊎ (x < a) → x ≡ a
        same (inl u) = omega arith
        same (inr u) = absurd (omega (arith, l, ap bit (lt-ltb x a u)))
    go (inr q) r =
        let w = r (rw (lt-ltb a x q) at e) in
        record { number = w.number; twice = omega (arith, w.twice) }

-- IN A LIST THAT ASCENDS all differ exactly where neighbours do.
pub strict_once : (xs : List ℕ) → strict xs ≡ true → (v : ℕ) → count (is v) xs ≤ 1
unfolding strict
strict_once [] e v = omega arith
strict_once (x ∷ xs) e v = rises_once x xs e v

pub once_strict : (xs : List ℕ) → Ascends self xs → ((v : ℕ) → count (is v) xs ≤ 1) → strict xs ≡ true
unfolding strict
once_strict [] a h = refl
once_strict (x ∷ xs) a h = go (rises x xs) refl
  where
    go : (t : Bool) → rises x xs ≡ t → t ≡ true
    go true e = refl
    go false e =
        let w = falls_twice x xs e a.1 a.0 in
        absurd (omega (arith, w.twice, h w.number))
