-- Pairs within bounds: weaker bounds, two lists one behind the other, and what a change at one key keeps. Assumes nothing.
use Rattle.std.specs.Prelude.{◌≡◌, refl, List, [], ◌∷◌, ◌++◌, ◌⊎◌, ℕ, suc, ◌≤◌, ◌<◌, None}
use Rattle.std.proofs.Common.{◌∙◌, inl, inr, arith}
use Rattle.laws.specs.Order.{eq_or, Tri, less, same, more, tri}
use Rattle.pairs.specs.Pairs.{Pair, lookup, insert, delete, Within}
use Rattle.pairs.specs.Clauses.{lookup-other, delete_same, delete-other, insert-before, insert_same, insert-behind}

pub within_weaken : (low low' high high' : ℕ) (ps : List Pair) → low' ≤ low → high ≤ high' → Within low high ps → Within low' high' ps
unfolding Within
within_weaken low low' high high' [] a b w = tt
within_weaken low low' high high' (p ∷ ps) a b w =
    (omega arith, omega arith, within_weaken (suc p.0) (suc p.0) high high' ps (omega arith) b w.2)

-- the pairs behind the first, with its key for the lower bound
pub within_tail : (low high : ℕ) (p : Pair) (ps : List Pair) → Within low high (p ∷ ps) → Within p.0 high ps
unfolding Within
within_tail low high p ps w = within_weaken (suc p.0) p.0 high high ps (omega arith) (omega arith) w.2

pub within_append : (low middle high : ℕ) (ps qs : List Pair) → low ≤ middle → middle ≤ high → Within low middle ps → Within middle high qs →
    Within low high (ps ++ qs)
unfolding Within
within_append low middle high [] qs a b v w = within_weaken middle low high high qs a (omega arith) w
within_append low middle high (p ∷ ps) qs a b v w = (v.0, omega arith, within_append (suc p.0) middle high ps qs v.1 b v.2 w)

pub lookup-below : (k low high : ℕ) (ps : List Pair) → k < low → Within low high ps → lookup k ps ≡ None
unfolding Within lookup
lookup-below k low high [] l w = refl
lookup-below k low high (p ∷ ps) l w = lookup-other k p ps (omega arith) ∙ lookup-below k (suc p.0) high ps (omega arith) w.2

pub within_insert : (k v low high : ℕ) (ps : List Pair) → low ≤ k → k < high → Within low high ps → Within low high (insert k v ps)
unfolding Within insert
within_insert k v low high [] a b w = (a, b, tt)
within_insert k v low high (p ∷ ps) a b w = go (tri k p.0) (λ c. within_insert k v (suc p.0) high ps c b w.2)
  where
    go : Tri k p.0 → (suc p.0 ≤ k → Within (suc p.0) high (insert k v ps)) → Within low high (insert k v (p ∷ ps))
    go (less l) r = rw (insert-before k v p ps l) (a, b, (l, w.1, w.2))
    go (same e) r = rw (insert_same k v p ps e) (a, b, rw e w.2)
    go (more l) r = rw (insert-behind k v p ps l) (w.0, w.1, r (omega arith))

pub within_delete : (k low high : ℕ) (ps : List Pair) → Within low high ps → Within low high (delete k ps)
unfolding Within delete
within_delete k low high [] w = tt
within_delete k low high (p ∷ ps) w = go (eq_or k p.0) (within_delete k (suc p.0) high ps w.2)
  where
    go : (k ≡ p.0) ⊎ (k ≡ p.0 → ⊥) → Within (suc p.0) high (delete k ps) → Within low high (delete k (p ∷ ps))
    go (inl e) r = rw (delete_same k p ps e) (within_weaken (suc p.0) low high high ps (omega arith) (omega arith) w.2)
    go (inr e) r = rw (delete-other k p ps e) (w.0, w.1, r)
