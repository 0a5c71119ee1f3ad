-- How many pairs insert and delete leave, and that a delete of an absent key leaves all. Assumes nothing.
use Rattle.std.specs.Prelude.{◌≡◌, refl, List, [], ◌∷◌, ◌⊎◌, ℕ, suc, ◌≤◌, length, None, Some}
use Rattle.std.proofs.Common.{sym, ◌∙◌, inl, inr, arith}
use Rattle.laws.specs.Order.{eq_or, Tri, less, same, more, tri}
use Rattle.pairs.specs.Pairs.{Pair, lookup, insert, delete, Within}
use Rattle.pairs.specs.Clauses.{lookup_same, lookup-other, delete_same, delete-other, insert-before, insert_same, insert-behind}
use Rattle.pairs.proofs.Bounds.{lookup-below}

pub length-insert : (k v : ℕ) (ps : List Pair) → length (insert k v ps) ≤ suc (length ps)
unfolding insert
length-insert k v [] = omega arith
length-insert k v (p ∷ ps) = go (tri k p.0) (length-insert k v ps)
  where
    go : Tri k p.0 → length (insert k v ps) ≤ suc (length ps) → length (insert k v (p ∷ ps)) ≤ suc (suc (length ps))
    go (less l) r = rw (insert-before k v p ps l) (omega arith)
    go (same e) r = rw (insert_same k v p ps e) (omega arith)
    go (more l) r = rw (insert-behind k v p ps l) (omega arith)

pub length-insert-absent : (k v : ℕ) (ps : List Pair) → lookup k ps ≡ None → length (insert k v ps) ≡ suc (length ps)
unfolding insert
length-insert-absent k v [] e = refl
length-insert-absent k v (p ∷ ps) e = go (tri k p.0) (length-insert-absent k v ps)
  where
    go : Tri k p.0 → (lookup k ps ≡ None → length (insert k v ps) ≡ suc (length ps)) → length (insert k v (p ∷ ps)) ≡ suc (length (p ∷ ps))
    go (less l) r = rw (insert-before k v p ps l)
    go (same i) r = let found = lookup_same k p ps i in let z : ◌≡◌ {A = ℕ} 0 1 = cc in absurd (omega arith)
    go (more l) r = rw (insert-behind k v p ps l, r (sym (lookup-other k p ps (omega arith)) ∙ e))

pub length-insert-present : (k v old low high : ℕ) (ps : List Pair) → Within low high ps → lookup k ps ≡ Some old → length (insert k v ps) ≤ length ps
unfolding lookup Within
length-insert-present k v old low high [] w e = let z : ◌≡◌ {A = ℕ} 0 1 = cc in absurd (omega arith)
length-insert-present k v old low high (p ∷ ps) w e = go (tri k p.0) (length-insert-present k v old (suc p.0) high ps w.2)
  where
    go : Tri k p.0 → (lookup k ps ≡ Some old → length (insert k v ps) ≤ length ps) → length (insert k v (p ∷ ps)) ≤ suc (length ps)
    go (less l) r =
        let gone = sym (lookup-other k p ps (omega arith) ∙ lookup-below k (suc p.0) high ps (omega arith) w.2) ∙ e in
        let z : ◌≡◌ {A = ℕ} 0 1 = cc in
        absurd (omega arith)
    go (same i) r = rw (insert_same k v p ps i) (omega arith)
    go (more l) r = rw (insert-behind k v p ps l) (omega (arith, r (sym (lookup-other k p ps (omega arith)) ∙ e)))

pub length-delete : (k : ℕ) (ps : List Pair) → length (delete k ps) ≤ length ps
unfolding delete
length-delete k [] = omega arith
length-delete k (p ∷ ps) = go (eq_or k p.0) (length-delete k ps)
  where
    go : (k ≡ p.0) ⊎ (k ≡ p.0 → ⊥) → length (delete k ps) ≤ length ps → length (delete k (p ∷ ps)) ≤ suc (length ps)
    go (inl e) r = rw (delete_same k p ps e) (omega arith)
    go (inr e) r = rw (delete-other k p ps e) (omega arith)

pub delete-absent : (k : ℕ) (ps : List Pair) → lookup k ps ≡ None → delete k ps ≡ ps
unfolding delete
delete-absent k [] e = refl
delete-absent k (p ∷ ps) e = go (eq_or k p.0) (delete-absent k ps)
  where
    go : (k ≡ p.0) ⊎ (k ≡ p.0 → ⊥) → (lookup k ps ≡ None → delete k ps ≡ ps) → delete k (p ∷ ps) ≡ p ∷ ps
    go (inl i) r = let found = sym (lookup_same k p ps i) ∙ e in let z : ◌≡◌ {A = ℕ} 0 1 = cc in absurd (omega arith)
    go (inr i) r = rw (delete-other k p ps i, r (sym (lookup-other k p ps i) ∙ e))
