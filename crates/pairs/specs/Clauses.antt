-- What lookup, insert, delete and range make of a first pair, by how its key stands to the one asked for: so that no later
-- proof opens their tests. Assumes nothing.
use Rattle.std.specs.Prelude.{◌≡◌, refl, List, [], ◌∷◌, ℕ, suc, ◌≤◌, ◌<◌, Some}
use Rattle.std.proofs.Common.{arith}
use borrow.Author.Tests.{lt-ltb, le-ltb, eq-eqb, ne_eqb}
use Rattle.pairs.specs.Pairs.{Pair, lookup, insert, delete, range}

module _ (k : ℕ) (p : Pair) (ps : List Pair) where
  pub lookup_same : k ≡ p.0 → lookup k (p ∷ ps) ≡ Some p.1
  unfolding lookup
  lookup_same e = rw (eq-eqb k p.0 e, lookup)

  pub lookup-other : (k ≡ p.0 → ⊥) → lookup k (p ∷ ps) ≡ lookup k ps
  unfolding lookup
  lookup-other e = rw (ne_eqb k p.0 e, lookup)

  pub delete_same : k ≡ p.0 → delete k (p ∷ ps) ≡ ps
  unfolding delete
  delete_same e = rw (eq-eqb k p.0 e, delete)

  pub delete-other : (k ≡ p.0 → ⊥) → delete k (p ∷ ps) ≡ p ∷ delete k ps
  unfolding delete
  delete-other e = rw (ne_eqb k p.0 e, delete)

module _ (k v : ℕ) (p : Pair) (ps : List Pair) where
  pub insert-before : k < p.0 → insert k v (p ∷ ps) ≡ (k, v) ∷ p ∷ ps
  unfolding insert
  insert-before l = rw (lt-ltb k p.0 l, insert)

  pub insert_same : k ≡ p.0 → insert k v (p ∷ ps) ≡ (k, v) ∷ ps
  unfolding insert
  insert_same e = rw (le-ltb k p.0 (omega arith), eq-eqb k p.0 e, insert)

  pub insert-behind : p.0 < k → insert k v (p ∷ ps) ≡ p ∷ insert k v ps
  unfolding insert
  insert-behind l = rw (le-ltb k p.0 (omega arith), ne_eqb k p.0 (omega arith), insert)

pub range-zero : (low high : ℕ) (ps : List Pair) → range low high 0 ps ≡ []
unfolding range
range-zero low high ps = refl

module _ (low high most : ℕ) (p : Pair) (ps : List Pair) where
  pub range_skip : p.0 < low → range low high (suc most) (p ∷ ps) ≡ range low high (suc most) ps
  unfolding range
  range_skip l = rw (lt-ltb p.0 low l, range)

  pub range_stop : low ≤ p.0 → high < p.0 → range low high (suc most) (p ∷ ps) ≡ []
  unfolding range
  range_stop l g = rw (le-ltb p.0 low l, lt-ltb high p.0 g, range)

  pub range-take : low ≤ p.0 → p.0 ≤ high → range low high (suc most) (p ∷ ps) ≡ p ∷ range low high most ps
  unfolding range
  range-take l g = rw (le-ltb p.0 low l, le-ltb high p.0 g, range)
