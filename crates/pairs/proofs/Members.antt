-- What holds of every pair still does after an insert of one of which it holds, and after a delete. Assumes nothing.
use Rattle.std.specs.Prelude.{◌≡◌, ◌⊎◌, ℕ}
use mathlib.Core.List.{List, [], ◌∷◌}
use Rattle.std.proofs.Common.{inl, inr}
use Rattle.laws.specs.Every.{Every, none, both}
use Rattle.laws.specs.Order.{eq_or, Tri, less, same, more, tri}
use Rattle.pairs.specs.Pairs.{Pair, insert, delete}
use Rattle.pairs.specs.Clauses.{insert-before, insert_same, insert-behind, delete_same, delete-other}

module _ {P : Pair → Type 0} where
  pub every-insert : (k v : ℕ) (ps : List Pair) → P (k, v) → Every P ps → Every P (insert k v ps)
  unfolding insert
  every-insert k v [] x e = both x none
  every-insert k v (p ∷ ps) x (both y e) = go (tri k p.0) (every-insert k v ps x e)
    where
      go : Tri k p.0 → Every P (insert k v ps) → Every P (insert k v (p ∷ ps))
      go (less l) r = rw (insert-before k v p ps l) (both x (both y e))
      go (same i) r = rw (insert_same k v p ps i) (both x e)
      go (more l) r = rw (insert-behind k v p ps l) (both y r)

  pub every-delete : (k : ℕ) (ps : List Pair) → Every P ps → Every P (delete k ps)
  unfolding delete
  every-delete k [] e = none
  every-delete k (p ∷ ps) (both y e) = go (eq_or k p.0) (every-delete k ps e)
    where
      go : (k ≡ p.0) ⊎ (k ≡ p.0 → ⊥) → Every P (delete k ps) → Every P (delete k (p ∷ ps))
      go (inl i) r = rw (delete_same k p ps i) e
      go (inr i) r = rw (delete-other k p ps i) (both y r)
