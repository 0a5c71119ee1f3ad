-- The plain map obeys the laws of an ordered map, and the laws are enough: whatever else obeys them does the same to ascending pairs. Assumes nothing.
use Rattle.std.specs.Prelude.{◌≡◌, refl, Bool, true, false, ◌&&◌, ◌⊎◌, ℕ, zero, suc, ◌≤◌, ◌<◌, leb, take, Option, None, Some}
use Rattle.std.proofs.Common.{sym, ◌∙◌, inl, inr, arith, le-leb}
use Rattle.std.proofs.Math.Path.{ap}
use mathlib.Core.List.{List, [], ◌∷◌}
use Rattle.std.proofs.lemmas.Bool.{lt-leb}
use Rattle.laws.specs.Counts.{cons_if, filter}
use Rattle.laws.specs.Options.{some_same, none_some}
use Rattle.laws.specs.Order.{eq_or, le_or, Tri, less, same, more, tri}
use Rattle.pairs.specs.Pairs.{Pair, lookup, insert, delete, range, ceiling, Within}
use Rattle.pairs.specs.Clauses.{lookup_same, lookup-other, delete_same, delete-other, insert-before, insert_same, insert-behind, range_skip, range_stop, range-take}
use Rattle.pairs.proofs.Bounds.{lookup-below, within_insert, within_delete}
use Rattle.pairs.specs.Ceiling.{CeilingIs}
use Rattle.pairs.proofs.Ceiling.{ceiling-is, nearest_one}
use Rattle.pairs.specs.MapLaws.{inside, OrderedMap}

insert-first : (k v high : ℕ) (ps : List Pair) → Within (suc k) high ps → insert k v ps ≡ (k, v) ∷ ps
unfolding insert Within
insert-first k v high [] w = refl
insert-first k v high (p ∷ ps) w = insert-before k v p ps (omega arith)

pub lookup-insert : (k v : ℕ) (ps : List Pair) → lookup k (insert k v ps) ≡ Some v
unfolding insert
lookup-insert k v [] = lookup_same k (k, v) [] refl
lookup-insert k v (p ∷ ps) = go (tri k p.0) (lookup-insert k v ps)
  where
    go : Tri k p.0 → lookup k (insert k v ps) ≡ Some v → lookup k (insert k v (p ∷ ps)) ≡ Some v
    go (less l) r = ap (lookup k) (insert-before k v p ps l) ∙ lookup_same k (k, v) (p ∷ ps) refl
    go (same e) r = ap (lookup k) (insert_same k v p ps e) ∙ lookup_same k (k, v) ps refl
    go (more l) r = ap (lookup k) (insert-behind k v p ps l) ∙ lookup-other k p (insert k v ps) (omega arith) ∙ r

-- A key is looked up alike behind the same pair, where it is in the rest.
lookup-behind : (j : ℕ) (p : Pair) (ps qs : List Pair) → lookup j qs ≡ lookup j ps → lookup j (p ∷ qs) ≡ lookup j (p ∷ ps)
lookup-behind j p ps qs r = go (eq_or j p.0)
  where
    go : (j ≡ p.0) ⊎ (j ≡ p.0 → ⊥) → lookup j (p ∷ qs) ≡ lookup j (p ∷ ps)
    go (inl e) = lookup_same j p qs e ∙ sym (lookup_same j p ps e)
    go (inr e) = lookup-other j p qs e ∙ r ∙ sym (lookup-other j p ps e)

pub lookup-insert-other : (j k v : ℕ) (ps : List Pair) → (j ≡ k → ⊥) → lookup j (insert k v ps) ≡ lookup j ps
unfolding insert
lookup-insert-other j k v [] d = lookup-other j (k, v) [] d
lookup-insert-other j k v (p ∷ ps) d = go (tri k p.0) (lookup-insert-other j k v ps d)
  where
    go : Tri k p.0 → lookup j (insert k v ps) ≡ lookup j ps → lookup j (insert k v (p ∷ ps)) ≡ lookup j (p ∷ ps)
    go (less l) r = ap (lookup j) (insert-before k v p ps l) ∙ lookup-other j (k, v) (p ∷ ps) d
    go (same e) r =
        ap (lookup j) (insert_same k v p ps e) ∙ lookup-other j (k, v) ps d ∙ sym (lookup-other j p ps (λ z. d (z ∙ sym e)))
    go (more l) r = ap (lookup j) (insert-behind k v p ps l) ∙ lookup-behind j p ps (insert k v ps) r

pub lookup-delete : (k low high : ℕ) (ps : List Pair) → Within low high ps → lookup k (delete k ps) ≡ None
unfolding delete Within lookup
lookup-delete k low high [] w = refl
lookup-delete k low high (p ∷ ps) w = go (eq_or k p.0) (lookup-delete k (suc p.0) high ps w.2)
  where
    go : (k ≡ p.0) ⊎ (k ≡ p.0 → ⊥) → lookup k (delete k ps) ≡ None → lookup k (delete k (p ∷ ps)) ≡ None
    go (inl e) r = ap (lookup k) (delete_same k p ps e) ∙ lookup-below k (suc p.0) high ps (omega arith) w.2
    go (inr e) r = ap (lookup k) (delete-other k p ps e) ∙ lookup-other k p (delete k ps) e ∙ r

pub lookup-delete-other : (j k : ℕ) (ps : List Pair) → (j ≡ k → ⊥) → lookup j (delete k ps) ≡ lookup j ps
unfolding delete
lookup-delete-other j k [] d = refl
lookup-delete-other j k (p ∷ ps) d = go (eq_or k p.0) (lookup-delete-other j k ps d)
  where
    go : (k ≡ p.0) ⊎ (k ≡ p.0 → ⊥) → lookup j (delete k ps) ≡ lookup j ps → lookup j (delete k (p ∷ ps)) ≡ lookup j (p ∷ ps)
    go (inl e) r = ap (lookup j) (delete_same k p ps e) ∙ sym (lookup-other j p ps (λ z. d (z ∙ sym e)))
    go (inr e) r = ap (lookup j) (delete-other k p ps e) ∙ lookup-behind j p ps (delete k ps) r

-- Behind the high key no pair is inside.
none_above : (low high bottom top : ℕ) (ps : List Pair) → high < bottom → Within bottom top ps → filter (inside low high) ps ≡ []
unfolding Within
none_above low high bottom top [] a w = refl
none_above low high bottom top (p ∷ ps) a w =
    ap (λ b. cons_if b p (filter (inside low high) ps)) (out (leb low p.0)) ∙ none_above low high (suc p.0) top ps (omega arith) w.2
  where
    out : (b : Bool) → (b && leb p.0 high) ≡ false
    out true = lt-leb p.0 high (omega arith)
    out false = refl

pub range-filter : (low high most bottom top : ℕ) (ps : List Pair) → Within bottom top ps →
    range low high most ps ≡ take most (filter (inside low high) ps)
unfolding Within range
range-filter low high zero bottom top ps w = refl
range-filter low high (suc most) bottom top [] w = refl
range-filter low high (suc most) bottom top (p ∷ ps) w =
    go (le_or low p.0) (le_or p.0 high) (range-filter low high (suc most) (suc p.0) top ps w.2)
    (range-filter low high most (suc p.0) top ps w.2)
  where
    rest : List Pair
    rest = filter (inside low high) ps

    by : (b : Bool) → inside low high p ≡ b → range low high (suc most) (p ∷ ps) ≡ take (suc most) (cons_if b p rest) →
        range low high (suc most) (p ∷ ps) ≡ take (suc most) (filter (inside low high) (p ∷ ps))
    by b e r = r ∙ ap (λ c. take (suc most) (cons_if c p rest)) (sym e)

    go : (low ≤ p.0) ⊎ (p.0 < low) → (p.0 ≤ high) ⊎ (high < p.0) → range low high (suc most) ps ≡ take (suc most) rest →
        range low high most ps ≡ take most rest → range low high (suc most) (p ∷ ps) ≡ take (suc most) (filter (inside low high) (p ∷ ps))
    go (inr a) b r s = by false (rw (lt-leb low p.0 a)) (range_skip low high most p ps a ∙ r)
    go (inl a) (inr b) r s =
        by false (rw (le-leb low p.0 a, lt-leb p.0 high b))
        (range_stop low high most p ps a b ∙ sym (ap (take (suc most)) (none_above low high (suc p.0) top ps (omega arith) w.2)))
    go (inl a) (inl b) r s =
        by true (rw (le-leb low p.0 a, le-leb p.0 high b)) (range-take low high most p ps a b ∙ ap {B = List Pair} (p ∷◌) s)

-- THE MAP OBEYS THEM.
pub ordered_map : OrderedMap lookup insert delete range ceiling
unfolding lookup
ordered_map =
    record {
      empty = λ k. refl;
      first = insert-first;
      inserted = lookup-insert;
      inserted_other = lookup-insert-other;
      deleted = lookup-delete;
      deleted_other = lookup-delete-other;
      ranged = range-filter;
      nearest = ceiling-is;
      insert_keeps = within_insert;
      delete_keeps = within_delete;
    }

-- Ascending pairs with the same value at every key are the same pairs.
pub same_pairs : (low high : ℕ) (ps qs : List Pair) → Within low high ps → Within low high qs → ((k : ℕ) → lookup k ps ≡ lookup k qs) → ps ≡ qs
unfolding Within lookup
same_pairs low high [] [] v w e = refl
same_pairs low high [] (q ∷ qs) v w e = absurd (none_some (e q.0 ∙ lookup_same q.0 q qs refl))
same_pairs low high (p ∷ ps) [] v w e = absurd (none_some (sym (e p.0) ∙ lookup_same p.0 p ps refl))
same_pairs low high (p ∷ ps) (q ∷ qs) v w e = go (tri p.0 q.0) (same_pairs (suc p.0) high ps qs v.2)
  where
    -- a key below the first is in no list
    below : (k : ℕ) (r : Pair) (rs : List Pair) → Within (suc r.0) high rs → k < r.0 → lookup k (r ∷ rs) ≡ None
    below k r rs x l = lookup-other k r rs (omega arith) ∙ lookup-below k (suc r.0) high rs (omega arith) x

    -- the rests agree at every key
    rests : p.0 ≡ q.0 → (k : ℕ) → (k ≡ p.0) ⊎ (k ≡ p.0 → ⊥) → lookup k ps ≡ lookup k qs
    rests i k (inl f) =
        lookup-below k (suc p.0) high ps (omega arith) v.2 ∙ sym (lookup-below k (suc q.0) high qs (omega arith) w.2)
    rests i k (inr f) = sym (lookup-other k p ps f) ∙ e k ∙ lookup-other k q qs (λ z. f (z ∙ sym i))

    go : Tri p.0 q.0 → (Within (suc p.0) high qs → ((k : ℕ) → lookup k ps ≡ lookup k qs) → ps ≡ qs) → p ∷ ps ≡ q ∷ qs
    go (less l) r = absurd (none_some (sym (below p.0 q qs w.2 l) ∙ sym (e p.0) ∙ lookup_same p.0 p ps refl))
    go (more l) r = absurd (none_some (sym (below q.0 p ps v.2 l) ∙ e q.0 ∙ lookup_same q.0 q qs refl))
    go (same i) r =
        let value : p.1 ≡ q.1 = some_same (sym (lookup_same p.0 p ps refl) ∙ e p.0 ∙ lookup_same p.0 q qs i) in
        let rest : ps ≡ qs = r (rw i w.2) (λ k. rests i k (eq_or k p.0)) in
        ap {B = List Pair} (λ (k : ℕ). (k, p.1) ∷ ps) i ∙
        ap {B = List Pair} (λ (x : ℕ). (q.0, x) ∷ ps) value ∙
        ap {B = List Pair} (λ (xs : List Pair). q ∷ xs) rest

-- THE LAWS ARE ENOUGH: five functions that obey them are the map's, on ascending pairs.
module _ (lookup' : ℕ → List Pair → Option ℕ) (insert' : ℕ → ℕ → List Pair → List Pair) (delete' : ℕ → List Pair → List Pair)
    (range' : ℕ → ℕ → ℕ → List Pair → List Pair) (ceiling' : ℕ → List Pair → Option Pair)
    (laws : OrderedMap lookup' insert' delete' range' ceiling') where
  pub only-lookup : (k low high : ℕ) (ps : List Pair) → Within low high ps → lookup' k ps ≡ lookup k ps
  unfolding Within lookup
  only-lookup k low high [] w = laws.empty k
  only-lookup k low high (p ∷ ps) w = go (eq_or k p.0) (only-lookup k (suc p.0) high ps w.2)
    where
      made : lookup' k (p ∷ ps) ≡ lookup' k (insert' p.0 p.1 ps)
      made = ap (lookup' k) (sym (laws.first p.0 p.1 high ps w.2))

      go : (k ≡ p.0) ⊎ (k ≡ p.0 → ⊥) → lookup' k ps ≡ lookup k ps → lookup' k (p ∷ ps) ≡ lookup k (p ∷ ps)
      go (inl e) r =
          made ∙
          ap (λ (j : ℕ). lookup' j (insert' p.0 p.1 ps)) e ∙
          laws.inserted p.0 p.1 ps ∙
          sym (lookup_same k p ps e)
      go (inr e) r = made ∙ laws.inserted_other k p.0 p.1 ps e ∙ r ∙ sym (lookup-other k p ps e)

  pub only-insert : (k v low high : ℕ) (ps : List Pair) → low ≤ k → k < high → Within low high ps → insert' k v ps ≡ insert k v ps
  only-insert k v low high ps a b w =
      let kept = laws.insert_keeps k v low high ps a b w in
      same_pairs low high (insert' k v ps) (insert k v ps) kept (within_insert k v low high ps a b w)
      (λ j. sym (only-lookup j low high (insert' k v ps) kept) ∙ agree j (eq_or j k))
    where
      agree : (j : ℕ) → (j ≡ k) ⊎ (j ≡ k → ⊥) → lookup' j (insert' k v ps) ≡ lookup j (insert k v ps)
      agree j (inl e) = rw e (laws.inserted k v ps ∙ sym (lookup-insert k v ps))
      agree j (inr e) = laws.inserted_other j k v ps e ∙ only-lookup j low high ps w ∙ sym (lookup-insert-other j k v ps e)

  pub only-delete : (k low high : ℕ) (ps : List Pair) → Within low high ps → delete' k ps ≡ delete k ps
  only-delete k low high ps w =
      let kept = laws.delete_keeps k low high ps w in
      same_pairs low high (delete' k ps) (delete k ps) kept (within_delete k low high ps w)
      (λ j. sym (only-lookup j low high (delete' k ps) kept) ∙ agree j (eq_or j k))
    where
      agree : (j : ℕ) → (j ≡ k) ⊎ (j ≡ k → ⊥) → lookup' j (delete' k ps) ≡ lookup j (delete k ps)
      agree j (inl e) = rw e (laws.deleted k low high ps w ∙ sym (lookup-delete k low high ps w))
      agree j (inr e) = laws.deleted_other j k ps e ∙ only-lookup j low high ps w ∙ sym (lookup-delete-other j k ps e)

  pub only-range : (low high most bottom top : ℕ) (ps : List Pair) → Within bottom top ps → range' low high most ps ≡ range low high most ps
  only-range low high most bottom top ps w = laws.ranged low high most bottom top ps w ∙ sym (range-filter low high most bottom top ps w)

  pub only-ceiling : (k low high : ℕ) (ps : List Pair) → Within low high ps → ceiling' k ps ≡ ceiling k ps
  only-ceiling k low high ps w =
      nearest_one lookup' k ps (ceiling' k ps) (ceiling k ps) (laws.nearest k low high ps w)
      (looked (ceiling k ps) (ceiling-is k low high ps w))
    where
      looked : (o : Option Pair) → CeilingIs lookup k ps o → CeilingIs lookup' k ps o
      looked None h = λ j m. only-lookup j low high ps w ∙ h j m
      looked (Some p) h =
          record {
            above = h.above;
            there = only-lookup p.0 low high ps w ∙ h.there;
            between = λ j m n. only-lookup j low high ps w ∙ h.between j m n;
          }
