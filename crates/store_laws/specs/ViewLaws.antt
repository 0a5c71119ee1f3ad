-- Lists in a row, sums and greatest values over the sequence numbers 1 to k. Assumes nothing.
use Rattle.std.specs.Prelude.{◌≡◌, refl, ◌⊎◌, List, [], ◌++◌, ℕ, zero, suc, ◌+◌, ◌≤◌, ◌<◌, max}
use Rattle.std.proofs.Common.{ap₂, inl, inr, arith}
use Rattle.laws.specs.Order.{le_or, le_suc_or}
use Rattle.node.specs.Replay.{Piece}
use Rattle.store.specs.View.{gather, sum_to, greatest_to}

pub gather_ext : (f g : ℕ → List Piece) (k : ℕ) → ((s : ℕ) → s ≤ k → f s ≡ g s) → gather f k ≡ gather g k
gather_ext f g zero e = refl
gather_ext f g (suc k) e = ap₂ {B = List Piece} ◌++◌ (gather_ext f g k (λ s l. e s (omega arith))) (e (suc k) (omega arith))

pub gather-nil : (f : ℕ → List Piece) (k : ℕ) → ((s : ℕ) → 0 < s → s ≤ k → f s ≡ []) → gather f k ≡ []
gather-nil f zero e = refl
gather-nil f (suc k) e =
    ap₂ {B = List Piece} ◌++◌ (gather-nil f k (λ s p l. e s p (omega arith))) (e (suc k) (omega arith) (omega arith))

pub sum_to-ext : (f g : ℕ → ℕ) (k : ℕ) → ((s : ℕ) → s ≤ k → f s ≡ g s) → sum_to f k ≡ sum_to g k
sum_to-ext f g zero e = refl
sum_to-ext f g (suc k) e = ap₂ ◌+◌ (sum_to-ext f g k (λ s l. e s (omega arith))) (e (suc k) (omega arith))

pub sum_to-zero : (f : ℕ → ℕ) (k : ℕ) → ((s : ℕ) → 0 < s → s ≤ k → f s ≡ 0) → sum_to f k ≡ 0
sum_to-zero f zero e = refl
sum_to-zero f (suc k) e = omega (arith, sum_to-zero f k (λ s p l. e s p (omega arith)), e (suc k) (omega arith) (omega arith))

pub greatest_to-ext : (f g : ℕ → ℕ) (k : ℕ) → ((s : ℕ) → s ≤ k → f s ≡ g s) → greatest_to f k ≡ greatest_to g k
greatest_to-ext f g zero e = refl
greatest_to-ext f g (suc k) e = ap₂ max (greatest_to-ext f g k (λ s l. e s (omega arith))) (e (suc k) (omega arith))

pub le_greatest_to : (f : ℕ → ℕ) (k s : ℕ) → 0 < s → s ≤ k → f s ≤ greatest_to f k
le_greatest_to f zero s p l = absurd (omega arith)
le_greatest_to f (suc k) s p l = go (le_suc_or s k l) (λ h. le_greatest_to f k s p h)
  where
    go : (s ≤ k) ⊎ (s ≡ suc k) → (s ≤ k → f s ≤ greatest_to f k) → f s ≤ max (greatest_to f k) (f (suc k))
    go (inl h) r = omega (arith, r h)
    go (inr e) r = rw e (omega arith)

pub greatest_to_le : (f : ℕ → ℕ) (k m : ℕ) → ((s : ℕ) → 0 < s → s ≤ k → f s ≤ m) → greatest_to f k ≤ m
greatest_to_le f zero m h = omega arith
greatest_to_le f (suc k) m h =
    omega (arith, greatest_to_le f k m (λ s p l. h s p (omega arith)), h (suc k) (omega arith) (omega arith))

-- The greatest is reached, or is 0.
pub record Reached (f : ℕ → ℕ) (k : ℕ) : Type 0 where
  pub number : ℕ
  pub positive : 0 < number
  pub within : number ≤ k
  pub is : f number ≡ greatest_to f k

pub greatest_to-reached : (f : ℕ → ℕ) (k : ℕ) → (greatest_to f k ≡ 0) ⊎ Reached f k
greatest_to-reached f zero = inl refl
greatest_to-reached f (suc k) = go (le_or (f (suc k)) (greatest_to f k)) (greatest_to-reached f k)
  where
    go : (f (suc k) ≤ greatest_to f k) ⊎ (greatest_to f k < f (suc k)) → (greatest_to f k ≡ 0) ⊎ Reached f k →
        (greatest_to f (suc k) ≡ 0) ⊎ Reached f (suc k)
    go (inl l) (inl e) = inl (omega arith)
    go (inl l) (inr r) =
        inr (record { number = r.number; positive = r.positive; within = omega (arith, r.within); is = omega (arith, r.is) })
    go (inr l) r = inr (record { number = suc k; positive = omega arith; within = omega arith; is = omega arith })
