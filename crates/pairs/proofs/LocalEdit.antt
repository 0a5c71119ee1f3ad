-- Lookup, insert and delete at a key see only the part of the pairs that the key falls into: those before it are below the key,
-- those behind it above. Put and delete are then one notion, an edit at one key. Assumes nothing.
use Rattle.std.specs.Prelude.{◌≡◌, refl, List, [], ◌∷◌, ◌++◌, ◌⊎◌, ℕ, suc, ◌≤◌, ◌<◌}
use Rattle.std.proofs.Common.{ap, ◌∙◌, inl, inr, arith}
use Rattle.laws.specs.Order.{eq_or, Tri, less, same, more, tri}
use Rattle.pairs.specs.Pairs.{Pair, lookup, insert, delete, Within}
use Rattle.pairs.specs.Clauses.{lookup_same, lookup-other, delete_same, delete-other, insert-before, insert_same, insert-behind}
use Rattle.pairs.proofs.Bounds.{lookup-below, within_insert, within_delete}
use Rattle.pairs.proofs.Sizes.{length-insert, length-delete}
use Rattle.pairs.specs.LocalEdit.{LocalEdit}

-- With the pairs qs from `high` on and the key below it, or the pairs ps up to below `low` and the key not below it.
pub lookup-append-left : (k high top : ℕ) (ps qs : List Pair) → k < high → Within high top qs → lookup k (ps ++ qs) ≡ lookup k ps
unfolding lookup
lookup-append-left k high top [] qs l w = lookup-below k high top qs l w
lookup-append-left k high top (p ∷ ps) qs l w = go (eq_or k p.0) (lookup-append-left k high top ps qs l w)
  where
    go : (k ≡ p.0) ⊎ (k ≡ p.0 → ⊥) → lookup k (ps ++ qs) ≡ lookup k ps → lookup k (p ∷ ps ++ qs) ≡ lookup k (p ∷ ps)
    go (inl e) r = rw (lookup_same k p ps e, lookup_same k p (ps ++ qs) e)
    go (inr e) r = rw (lookup-other k p ps e, lookup-other k p (ps ++ qs) e) r

pub lookup-append-right : (k bottom low : ℕ) (ps qs : List Pair) → low ≤ k → Within bottom low ps → lookup k (ps ++ qs) ≡ lookup k qs
unfolding Within
lookup-append-right k bottom low [] qs l w = refl
lookup-append-right k bottom low (p ∷ ps) qs l w =
    lookup-other k p (ps ++ qs) (omega arith) ∙ lookup-append-right k (suc p.0) low ps qs l w.2

pub insert-append-left : (k v high top : ℕ) (ps qs : List Pair) → k < high → Within high top qs → insert k v (ps ++ qs) ≡ insert k v ps ++ qs
unfolding insert Within
insert-append-left k v high top [] [] l w = refl
insert-append-left k v high top [] (q ∷ qs) l w = insert-before k v q qs (omega arith)
insert-append-left k v high top (p ∷ ps) qs l w = go (tri k p.0) (insert-append-left k v high top ps qs l w)
  where
    go : Tri k p.0 → insert k v (ps ++ qs) ≡ insert k v ps ++ qs → insert k v (p ∷ ps ++ qs) ≡ insert k v (p ∷ ps) ++ qs
    go (less e) r = rw (insert-before k v p ps e, insert-before k v p (ps ++ qs) e)
    go (same e) r = rw (insert_same k v p ps e, insert_same k v p (ps ++ qs) e)
    go (more e) r = rw (insert-behind k v p ps e, insert-behind k v p (ps ++ qs) e, r)

pub insert-append-right : (k v bottom low : ℕ) (ps qs : List Pair) → low ≤ k → Within bottom low ps → insert k v (ps ++ qs) ≡ ps ++ insert k v qs
unfolding Within
insert-append-right k v bottom low [] qs l w = refl
insert-append-right k v bottom low (p ∷ ps) qs l w =
    insert-behind k v p (ps ++ qs) (omega arith) ∙ ap {B = List Pair} (p ∷◌) (insert-append-right k v (suc p.0) low ps qs l w.2)

pub delete-append-left : (k high top : ℕ) (ps qs : List Pair) → k < high → Within high top qs → delete k (ps ++ qs) ≡ delete k ps ++ qs
unfolding delete Within
delete-append-left k high top [] [] l w = refl
delete-append-left k high top [] (q ∷ qs) l w =
    delete-other k q qs (omega arith) ∙ ap {B = List Pair} (q ∷◌) (delete-append-left k (suc q.0) top [] qs (omega arith) w.2)
delete-append-left k high top (p ∷ ps) qs l w = go (eq_or k p.0) (delete-append-left k high top ps qs l w)
  where
    go : (k ≡ p.0) ⊎ (k ≡ p.0 → ⊥) → delete k (ps ++ qs) ≡ delete k ps ++ qs → delete k (p ∷ ps ++ qs) ≡ delete k (p ∷ ps) ++ qs
    go (inl e) r = rw (delete_same k p ps e, delete_same k p (ps ++ qs) e)
    go (inr e) r = rw (delete-other k p ps e, delete-other k p (ps ++ qs) e, r)

pub delete-append-right : (k bottom low : ℕ) (ps qs : List Pair) → low ≤ k → Within bottom low ps → delete k (ps ++ qs) ≡ ps ++ delete k qs
unfolding Within
delete-append-right k bottom low [] qs l w = refl
delete-append-right k bottom low (p ∷ ps) qs l w =
    delete-other k p (ps ++ qs) (omega arith) ∙ ap {B = List Pair} (p ∷◌) (delete-append-right k (suc p.0) low ps qs l w.2)

pub insert_local : (k v : ℕ) → LocalEdit k (insert k v)
insert_local k v =
    record { left = insert-append-left k v; right = insert-append-right k v; keeps = within_insert k v; grows = length-insert k v }

pub delete_local : (k : ℕ) → LocalEdit k (delete k)
delete_local k =
    record {
      left = delete-append-left k;
      right = delete-append-right k;
      keeps = λ low high ps a b w. within_delete k low high ps w;
      grows = λ ps. omega (arith, length-delete k ps);
    }
