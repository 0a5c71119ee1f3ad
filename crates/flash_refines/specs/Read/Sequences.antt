-- The sequence numbers at which a node has pieces, the latest first: there are as many as pages that it lies on, and its pieces are theirs in
-- a row. Assumes nothing.
use Rattle.std.specs.Prelude.{◌≡◌, refl, Bool, true, false, not, ◌⊎◌, List, [], ◌∷◌, ◌++◌, ℕ, zero, suc, ◌+◌, ◌≤◌, ◌<◌, length}
use Rattle.std.proofs.Common.{ap, ◌∙◌, inl, inr, append-nil, le_trans, arith}
use Rattle.laws.specs.Order.{eq_or}
use Rattle.laws.specs.Counts.{bit, cons_if, empty, empty-nil}
use Rattle.node.specs.Replay.{Piece}
use Rattle.store.specs.View.{gather, sum_to, some?}

module _ (f : ℕ → List Piece) where
  -- the numbers from 1 to k that have a piece, descending
  abbrev pub sequences_to : ℕ → List ℕ
  sequences_to zero = []
  sequences_to (suc k) = cons_if (not (empty (f (suc k)))) (suc k) (sequences_to k)

  -- their pieces, in ascending order of the numbers
  abbrev pub joined : List ℕ → List Piece
  joined [] = []
  joined (s ∷ ss) = joined ss ++ f s

  pub length_sequences : (k : ℕ) → length (sequences_to k) ≡ sum_to (λ s. some? (f s)) k
  length_sequences zero = refl
  length_sequences (suc k) = go (not (empty (f (suc k)))) (length_sequences k)
    where
      go : (t : Bool) → length (sequences_to k) ≡ sum_to (λ s. some? (f s)) k → length (cons_if t (suc k) (sequences_to k)) ≡ sum_to (λ s. some? (f s)) k + bit t
      go true e = omega arith
      go false e = omega arith

  pub gather_sequences : (k : ℕ) → gather f k ≡ joined (sequences_to k)
  gather_sequences zero = refl
  gather_sequences (suc k) = ap (λ (xs : List Piece). xs ++ f (suc k)) (gather_sequences k) ∙ go (empty (f (suc k))) refl
    where
      go : (t : Bool) → empty (f (suc k)) ≡ t → joined (sequences_to k) ++ f (suc k) ≡ joined (cons_if (not t) (suc k) (sequences_to k))
      go true e = rw (empty-nil (f (suc k)) e) (append-nil (joined (sequences_to k)))
      go false e = refl

  -- Numbers below a bound that have a piece, each below the one before it.
  pub data Falling : ℕ → List ℕ → Type 0 where
    end : {high : ℕ} → Falling high []
    next : {high s : ℕ} {ss : List ℕ} → s < high → empty (f s) ≡ false → Falling s ss → Falling high (s ∷ ss)

  falling_below : {high high' : ℕ} {ss : List ℕ} → high ≤ high' → Falling high ss → Falling high' ss
  falling_below l end = end
  falling_below l (next b e r) = next (le_trans b l) e r

  pub sequences_falling : (k : ℕ) → Falling (suc k) (sequences_to k)
  sequences_falling zero = end
  sequences_falling (suc k) = go (empty (f (suc k))) refl (sequences_falling k)
    where
      go : (t : Bool) → empty (f (suc k)) ≡ t → Falling (suc k) (sequences_to k) → Falling (suc (suc k)) (cons_if (not t) (suc k) (sequences_to k))
      go true e r = falling_below (omega arith) r
      go false e r = let l : suc k < suc (suc k) = omega arith in next l e r

  -- Where no other number has a piece, the one that has is the only one.
  sequences_none : (k : ℕ) → ((s : ℕ) → s ≤ k → f s ≡ []) → sequences_to k ≡ []
  sequences_none zero e = refl
  sequences_none (suc k) e = rw (e (suc k) (omega arith)) (sequences_none k (λ s l. e s (omega arith)))

  pub sequences_one : (v k : ℕ) → 0 < v → v ≤ k → empty (f v) ≡ false → ((s : ℕ) → (s ≡ v → ⊥) → f s ≡ []) → sequences_to k ≡ v ∷ []
  sequences_one v zero p l e others = absurd (omega arith)
  sequences_one v (suc k) p l e others = go (eq_or (suc k) v) (λ b. sequences_one v k p b e others)
    where
      go : (suc k ≡ v) ⊎ (suc k ≡ v → ⊥) → (v ≤ k → sequences_to k ≡ v ∷ []) → sequences_to (suc k) ≡ v ∷ []
      go (inl q) r = rw (q, e) (ap (λ (ss : List ℕ). v ∷ ss) (sequences_none k (λ s b. others s (λ z. omega arith))))
      go (inr q) r = rw (others (suc k) q) (r (omega arith))
