-- What a counting loop does, as one definition for each kind: steps taken from a number on, a sum, a search, a test of each. A loop's invariant says that what
-- is left, done from here, gives the whole; `-more` is a turn of the loop and `-done` its end. Assumes nothing.
use Rattle.std.specs.Prelude.{◌≡◌, Bool, false, ◌&&◌, ◌⊎◌}
use Rattle.std.proofs.Math.Path.{refl}
use Rattle.std.proofs.Common.{sym, ap, ◌∙◌, subst, inl, inr, add-zero, arith}
use Rattle.std.proofs.Math.Bool.{true}
use Prim.Native.Nat.{ℕ, zero, suc, ◌+◌, ◌-◌, ◌*◌, ◌≤◌, ◌<◌}
use Rattle.std.proofs.Math.Nat.{sub-zero}
use Rattle.std.proofs.Math.Numerals.{lt_of_le_of_ne}
use Rattle.laws.specs.Tests.{choose, and_left, and_right, and_both}
use Rattle.laws.specs.Order.{eq_or}

-- A step for each of k numbers from i on.
unfoldable pub steps : {A : Type 0} → (ℕ → A → A) → ℕ → ℕ → A → A
steps f zero i a = a
steps f (suc k) i a = steps f k (i + 1) (f i a)

-- The sum over k numbers from i on.
unfoldable pub sum_from : (ℕ → ℕ) → ℕ → ℕ → ℕ
sum_from f zero i = 0
sum_from f (suc k) i = f i + sum_from f k (i + 1)

-- The first of k numbers from i on that passes a test, or the number behind them.
unfoldable pub first_from : (ℕ → Bool) → ℕ → ℕ → ℕ
first_from f zero i = i
first_from f (suc k) i = choose (f i) i (first_from f k (i + 1))

-- Whether each of k numbers from i on passes a test.
unfoldable pub all_from : (ℕ → Bool) → ℕ → ℕ → Bool
all_from f zero i = true
all_from f (suc k) i = f i && all_from f k (i + 1)

-- The turns left before a turn are one more than those after it.
turn : (n i : ℕ) → i < n → n - i ≡ suc (n - (i + 1))
turn n i h = omega arith

over : (n i : ℕ) → n ≤ i → n - i ≡ 0
over n i h = omega arith

module _ {A : Type 0} (f : ℕ → A → A) (n : ℕ) where
  pub steps-begin : (a : A) → steps f (n - 0) 0 a ≡ steps f n 0 a
  steps-begin a = rw sub-zero refl

  pub steps_more : (i : ℕ) (a : A) → i < n → steps f (n - (i + 1)) (i + 1) (f i a) ≡ steps f (n - i) i a
  unfolding steps
  steps_more i a h = rw (turn n i h) refl

  pub steps-done : (i : ℕ) (a : A) → n ≤ i → steps f (n - i) i a ≡ a
  unfolding steps
  steps-done i a h = rw (over n i h) refl

module _ (f : ℕ → ℕ) (n : ℕ) where
  pub sum-begin : 0 + sum_from f (n - 0) 0 ≡ sum_from f n 0
  sum-begin = ap (λ (k : ℕ). 0 + sum_from f k 0) (sub-zero n) ∙ omega arith

  pub sum_more : (i s : ℕ) → i < n → s + f i + sum_from f (n - (i + 1)) (i + 1) ≡ s + sum_from f (n - i) i
  unfolding sum_from
  sum_more i s h = rw (turn n i h) (omega arith)

  pub sum_done : (i s : ℕ) → n ≤ i → s + sum_from f (n - i) i ≡ s
  unfolding sum_from
  sum_done i s h = rw (over n i h) (add-zero s)

module _ (f : ℕ → Bool) (n : ℕ) where
  pub first_more : (i : ℕ) → i < n → f i ≡ false → first_from f (n - (i + 1)) (i + 1) ≡ first_from f (n - i) i
  unfolding first_from
  first_more i h e = rw (turn n i h, e) refl

  pub first_found : (i : ℕ) → i < n → f i ≡ true → i ≡ first_from f (n - i) i
  unfolding first_from
  first_found i h e = rw (turn n i h, e) refl

  pub first_done : (i : ℕ) → n ≤ i → i ≡ first_from f (n - i) i
  unfolding first_from
  first_done i h = rw (over n i h) refl

module _ (f : ℕ → Bool) (n : ℕ) where
  pub all-begin : all_from f (n - 0) 0 ≡ all_from f n 0
  all-begin = rw sub-zero refl

  pub all_more : (i : ℕ) → i < n → f i ≡ true → all_from f (n - (i + 1)) (i + 1) ≡ all_from f (n - i) i
  unfolding all_from
  all_more i h e = rw (turn n i h, e) refl

  pub all_stop : (i : ℕ) → i < n → f i ≡ false → false ≡ all_from f (n - i) i
  unfolding all_from
  all_stop i h e = rw (turn n i h, e) refl

  pub all_done : (i : ℕ) → n ≤ i → true ≡ all_from f (n - i) i
  unfolding all_from
  all_done i h = rw (over n i h) refl

-- What it says of each number, and the other way round.
module _ (f : ℕ → Bool) where
  pub all-at : (k i : ℕ) → all_from f k i ≡ true → (j : ℕ) → i ≤ j → j < i + k → f j ≡ true
  unfolding all_from
  all-at zero i e j a b = absurd (omega arith)
  all-at (suc k) i e j a b = go (eq_or j i) (λ m. all-at k (i + 1) (and_right (f i) (all_from f k (i + 1)) e) j m (omega arith))
    where
      go : (j ≡ i) ⊎ (j ≡ i → ⊥) → (i + 1 ≤ j → f j ≡ true) → f j ≡ true
      go (inl q) r = rw q (and_left (f i) (all_from f k (i + 1)) e)
      go (inr q) r = r (omega (arith, lt_of_le_of_ne a (λ z. q (sym z))))

  pub all_true : (k i : ℕ) → ((j : ℕ) → i ≤ j → j < i + k → f j ≡ true) → all_from f k i ≡ true
  unfolding all_from
  all_true zero i h = refl
  all_true (suc k) i h =
      and_both (f i) (all_from f k (i + 1)) (h i (omega arith) (omega arith)) (all_true k (i + 1) (λ j a b. h j (omega arith) (omega arith)))

-- What holds at the start, and is kept by every step, holds at the end.
pub steps-keep : {A : Type 0} (P : ℕ → A → Type 0) (f : ℕ → A → A) (n : ℕ) → ((i : ℕ) (a : A) → i < n → P i a → P (i + 1) (f i a)) →
    (a : A) → P 0 a → P n (steps f n 0 a)
unfolding steps
steps-keep {A} P f n keep a p = go n 0 a (omega arith) p
  where
    go : (k i : ℕ) (x : A) → i + k ≡ n → P i x → P n (steps f k i x)
    go zero i x e q = subst (λ (j : ℕ). P j x) (omega arith) q
    go (suc k) i x e q = go k (i + 1) (f i x) (omega arith) (keep i x (omega arith) q)

-- A fold that only adds is a sum, and a sum of numbers with a bound has one.
pub steps-sum : {A : Type 0} (part : A → ℕ) (g : ℕ → A → A) (f : ℕ → ℕ) → ((i : ℕ) (a : A) → part (g i a) ≡ part a + f i) →
    (k i : ℕ) (a : A) → part (steps g k i a) ≡ part a + sum_from f k i
unfolding steps sum_from
steps-sum part g f h zero i a = omega arith
steps-sum part g f h (suc k) i a = omega (arith, steps-sum part g f h k (i + 1) (g i a), h i a)

pub sum_from_le : (f : ℕ → ℕ) (m k i : ℕ) → ((q : ℕ) → f q ≤ m) → sum_from f k i ≤ m * k
unfolding sum_from
sum_from_le f m zero i h = omega arith
sum_from_le f m (suc k) i h = omega (arith, h i, sum_from_le f m k (i + 1) h)
