-- A number looked for in a list that ascends, by halves. Assumes nothing.
use Rattle.std.specs.Prelude.{◌≡◌, refl, Bool, true, false, ◌⊎◌, List, [], ◌∷◌, ◌++◌, ℕ, ◌*◌, ◌≤◌, ◌<◌, ltb, length}
use Rattle.std.proofs.Common.{ap, inl, inr, arith, eqb-true, eq-eqb, ne_eqb, lt-ltb, le-ltb}
use Rattle.laws.specs.Order.{le_or}
use Rattle.laws.specs.Counts.{bit, count, count-append, count_mono}
use Rattle.mount_sequences.specs.Row.{row}
use Rattle.mount_sequences.specs.Ascend.{lower, Ascends}
use Rattle.mount_sequences.specs.Digits.{self}
use Rattle.mount_sequences.specs.Strict.{is}

-- A list has a number.
unfoldable pub has : List ℕ → ℕ → Bool
has xs v = ltb 0 (count (is v) xs)

-- A row of n numbers that ascend.
pub record Ascending (t : List ℕ) (n : ℕ) : Type 0 where
  pub room : 4 * n ≤ length t
  pub ascends : Ascends self (row n 0 t)

pub has-none : (v : ℕ) (xs : List ℕ) → count (is v) xs ≡ 0 → has xs v ≡ false
unfolding has
has-none v xs e = le-ltb 0 (count (is v) xs) (omega arith)

pub has_some : (v : ℕ) (xs : List ℕ) → 0 < count (is v) xs → has xs v ≡ true
unfolding has
has_some v xs l = lt-ltb 0 (count (is v) xs) l

-- A number of the list, those before it and those behind it.
module _ (v : ℕ) (xs : List ℕ) (x : ℕ) (ys : List ℕ) where
  pub found-middle : x ≡ v → 0 < count (is v) (xs ++ (x ∷ ys))
  found-middle e = omega (arith, count-append (is v) xs (x ∷ ys), ap bit (eq-eqb x v e))

  -- none up to a lower number
  pub none_up_to : Ascends self (xs ++ (x ∷ ys)) → x < v → count (is v) (xs ++ (x ∷ [])) ≡ 0
  none_up_to a l = omega (arith, count-append (is v) xs (x ∷ []), ap bit (ne_eqb x v (λ e. omega arith)), go xs a)
    where
      go : (zs : List ℕ) → Ascends self (zs ++ (x ∷ ys)) → count (is v) zs ≡ 0
      go [] a = refl
      go (z ∷ zs) a = omega (arith, go zs a.1, ap bit (ne_eqb z v (λ e. first (le_or z x) e)))
        where
          first : (z ≤ x) ⊎ (x < z) → z ≡ v → ⊥
          first (inl q) e = omega arith
          first (inr q) e = omega (arith, a.0, count-append (lower self z) zs (x ∷ ys), ap bit (lt-ltb x z q))

  -- none from a greater number on
  pub none_from : Ascends self (xs ++ (x ∷ ys)) → v < x → count (is v) (x ∷ ys) ≡ 0
  none_from a l = go xs a
    where
      go : (zs : List ℕ) → Ascends self (zs ++ (x ∷ ys)) → count (is v) (x ∷ ys) ≡ 0
      go [] a =
          omega (
            arith,
            ap bit (ne_eqb x v (λ e. omega arith)),
            a.0,
            count_mono (is v) (lower self x) ys (λ y e. lt-ltb y x (omega (arith, eqb-true y v e))),
          )
      go (z ∷ zs) a = go zs a.1
