-- Which way two numbers stand, as cases to go by. Assumes nothing.
use Rattle.std.specs.Prelude.{◌≡◌, refl, Bool, true, false, ◌⊎◌, ℕ, suc, ◌≤◌, ◌<◌, eqb, leb}
use Rattle.std.proofs.Common.{inl, inr, arith, eqb-true, leb-true, leb-false}
use Rattle.std.proofs.lemmas.Bool.{eqb-false}

pub eq_or : (m n : ℕ) → (m ≡ n) ⊎ (m ≡ n → ⊥)
eq_or m n = go (eqb m n) refl
  where
    go : (b : Bool) → eqb m n ≡ b → (m ≡ n) ⊎ (m ≡ n → ⊥)
    go true e = inl (eqb-true m n e)
    go false e = inr (eqb-false m n e)

pub le_or : (m n : ℕ) → (m ≤ n) ⊎ (n < m)
le_or m n = go (leb m n) refl
  where
    go : (b : Bool) → leb m n ≡ b → (m ≤ n) ⊎ (n < m)
    go true e = inl (leb-true m n e)
    go false e = inr (leb-false m n e)

pub data Tri (m n : ℕ) : Type 0 where
  less : m < n → Tri m n
  same : m ≡ n → Tri m n
  more : n < m → Tri m n

pub tri : (m n : ℕ) → Tri m n
tri m n = go (le_or n m) (eq_or m n)
  where
    go : (n ≤ m) ⊎ (m < n) → (m ≡ n) ⊎ (m ≡ n → ⊥) → Tri m n
    go (inr l) e = less l
    go (inl l) (inl e) = same e
    go (inl l) (inr e) = more (omega arith)

-- A number at most one more than another is that one more, or at most the other.
pub le_suc_or : (m n : ℕ) → m ≤ suc n → (m ≤ n) ⊎ (m ≡ suc n)
le_suc_or m n h = go (le_or m n)
  where
    go : (m ≤ n) ⊎ (n < m) → (m ≤ n) ⊎ (m ≡ suc n)
    go (inl l) = inl l
    go (inr l) = inr (omega arith)
