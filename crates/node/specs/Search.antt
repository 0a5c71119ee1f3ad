-- The one search in a node: which key is the first at or above the wanted one, and whether it is equal. Reads, edits, scans and
-- the way down the tree all rest on it (document 01, "Nodes and tree"; document 02, P3). Assumes nothing.
use Rattle.std.specs.Prelude.{◌≡◌, refl, true, false, List, [], ◌∷◌, ◌⊎◌, ℕ, zero, suc, ◌-◌, ◌≤◌, ◌<◌, ltb, length, get_or, set, None, Some}
use Rattle.std.proofs.Common.{sym, ap, ◌∙◌, inl, inr, arith, lt-ltb, le-ltb}
use Rattle.laws.specs.Order.{Tri, less, same, more, tri, eq_or, le_or}
use Rattle.pairs.specs.Pairs.{Pair, lookup, insert, delete, Within}
use Rattle.pairs.specs.Clauses.{lookup_same, lookup-other, delete_same, delete-other, insert-before, insert_same, insert-behind}
use Rattle.pairs.proofs.Bounds.{lookup-below}
use Rattle.node.specs.Splice.{insert_at, remove_at}

-- The place of the first key at or above the wanted one: the number of pairs where every key is below it.
unfoldable pub place : ℕ → List Pair → ℕ
place wanted [] = 0
place wanted (p ∷ ps) = elim (ltb p.0 wanted) [ true ↦ suc (place wanted ps) | false ↦ 0 ]

-- The place of the child for a key in a branch: "the pointer at a key leads to routes below it", so it is the first key above.
abbrev pub child_place : ℕ → List Pair → ℕ
child_place key ps = place (suc key) ps

-- The key at a place.
abbrev pub key_at : List Pair → ℕ → ℕ
key_at [] j = 0
key_at (p ∷ ps) zero = p.0
key_at (p ∷ ps) (suc j) = key_at ps j

-- The pointer at a place: behind all keys it is the link, the last pointer of a branch.
abbrev pub pointer_at : List Pair → ℕ → ℕ → ℕ
pointer_at [] last j = last
pointer_at (p ∷ ps) last zero = p.1
pointer_at (p ∷ ps) last (suc j) = pointer_at ps last j

pub key_at-get_or : (ps : List Pair) (j : ℕ) → key_at ps j ≡ (get_or ps j (0, 0)).0
key_at-get_or [] j = refl
key_at-get_or (p ∷ ps) zero = refl
key_at-get_or (p ∷ ps) (suc j) = key_at-get_or ps j

pub pointer_at-get_or : (ps : List Pair) (last j : ℕ) → j < length ps → pointer_at ps last j ≡ (get_or ps j (0, 0)).1
pointer_at-get_or [] last j h = absurd (omega arith)
pointer_at-get_or (p ∷ ps) last zero h = refl
pointer_at-get_or (p ∷ ps) last (suc j) h = pointer_at-get_or ps last j (omega arith)

pub pointer_at-last : (ps : List Pair) (last j : ℕ) → length ps ≤ j → pointer_at ps last j ≡ last
pointer_at-last [] last j h = refl
pointer_at-last (p ∷ ps) last zero h = absurd (omega arith)
pointer_at-last (p ∷ ps) last (suc j) h = pointer_at-last ps last j (omega arith)

-- The key stands in the list, at its place.
pub record Present (key : ℕ) (ps : List Pair) : Type 0 where
  pub inside : place key ps < length ps
  pub equal : key_at ps (place key ps) ≡ key

-- Its place is the end, or the key there is another.
pub record Absent (key : ℕ) (ps : List Pair) : Type 0 where
  pub other : place key ps < length ps → key_at ps (place key ps) ≡ key → ⊥

pub present_or : (key : ℕ) (ps : List Pair) → Present key ps ⊎ Absent key ps
present_or key ps = go (le_or (length ps) (place key ps)) (eq_or (key_at ps (place key ps)) key)
  where
    go :
        (length ps ≤ place key ps) ⊎ (place key ps < length ps) →
        (key_at ps (place key ps) ≡ key) ⊎ (key_at ps (place key ps) ≡ key → ⊥) →
        Present key ps ⊎ Absent key ps
    go (inl h) e = inr (record { other = λ l f. omega arith })
    go (inr h) (inl e) = inl (record { inside = h; equal = e })
    go (inr h) (inr e) = inr (record { other = λ l f. e f })

module _ (wanted : ℕ) (p : Pair) (ps : List Pair) where
  pub place-below : p.0 < wanted → place wanted (p ∷ ps) ≡ suc (place wanted ps)
  unfolding place
  place-below h = rw (lt-ltb p.0 wanted h, place)

  pub place-first : wanted ≤ p.0 → place wanted (p ∷ ps) ≡ 0
  unfolding place
  place-first h = rw (le-ltb p.0 wanted h, place)

pub place_le_length : (wanted : ℕ) (ps : List Pair) → place wanted ps ≤ length ps
unfolding place
place_le_length wanted [] = omega arith
place_le_length wanted (p ∷ ps) = go (le_or wanted p.0) (place_le_length wanted ps)
  where
    go : (wanted ≤ p.0) ⊎ (p.0 < wanted) → place wanted ps ≤ length ps → place wanted (p ∷ ps) ≤ suc (length ps)
    go (inl h) r = omega (arith, place-first wanted p ps h)
    go (inr h) r = omega (arith, place-below wanted p ps h)

-- A key at or above the wanted one stands at its place or behind it.
pub place_le : (wanted : ℕ) (ps : List Pair) (i : ℕ) → i < length ps → wanted ≤ key_at ps i → place wanted ps ≤ i
place_le wanted [] i l h = absurd (omega arith)
place_le wanted (p ∷ ps) zero l h = omega (arith, place-first wanted p ps h)
place_le wanted (p ∷ ps) (suc i) l h = go (le_or wanted p.0) (place_le wanted ps i (omega arith) h)
  where
    go : (wanted ≤ p.0) ⊎ (p.0 < wanted) → place wanted ps ≤ i → place wanted (p ∷ ps) ≤ suc i
    go (inl g) r = omega (arith, place-first wanted p ps g)
    go (inr g) r = omega (arith, place-below wanted p ps g)

-- The keys of an ascending list are from its lower bound on.
pub within_key_at : (low high : ℕ) (ps : List Pair) (i : ℕ) → Within low high ps → i < length ps → (low ≤ key_at ps i) × (key_at ps i < high)
unfolding Within
within_key_at low high [] i w l = absurd (omega arith)
within_key_at low high (p ∷ ps) zero w l = (w.0, w.1)
within_key_at low high (p ∷ ps) (suc i) w l = omega (arith, within_key_at (suc p.0) high ps i w.2 (omega arith))

-- In an ascending list a key below the wanted one stands before its place.
pub lt_place : (wanted low high : ℕ) (ps : List Pair) (i : ℕ) → Within low high ps → i < length ps → key_at ps i < wanted → i < place wanted ps
unfolding Within
lt_place wanted low high [] i w l h = absurd (omega arith)
lt_place wanted low high (p ∷ ps) zero w l h = omega (arith, place-below wanted p ps h)
lt_place wanted low high (p ∷ ps) (suc i) w l h =
    let above = within_key_at (suc p.0) high ps i w.2 (omega arith) in
    omega (arith, place-below wanted p ps (omega arith), lt_place wanted (suc p.0) high ps i w.2 (omega arith) h)

-- So a place is known by the keys beside it.
pub place_is :
    (wanted low high : ℕ) (ps : List Pair) (i : ℕ) → Within low high ps → i ≤ length ps →
    (0 < i → key_at ps (i - 1) < wanted) → (i < length ps → wanted ≤ key_at ps i) → i ≡ place wanted ps
place_is wanted low high ps i w l before behind = omega (arith, lower (le_or i 0), upper (le_or (length ps) i))
  where
    lower : (i ≤ 0) ⊎ (0 < i) → i ≤ place wanted ps
    lower (inl h) = omega arith
    lower (inr h) = omega (arith, lt_place wanted low high ps (i - 1) w (omega arith) (before h))

    upper : (length ps ≤ i) ⊎ (i < length ps) → place wanted ps ≤ i
    upper (inl h) = omega (arith, place_le_length wanted ps)
    upper (inr h) = place_le wanted ps i h (behind h)

-- What a first pair below the key, at it or above it says of the key's place.
module _ (key : ℕ) (p : Pair) (ps : List Pair) where
  present-tail : p.0 < key → Present key (p ∷ ps) → Present key ps
  present-tail h w =
      let e = place-below key p ps h in
      record { inside = omega (arith, w.inside); equal = rw e at w.equal }

  absent-tail : p.0 < key → Absent key (p ∷ ps) → Absent key ps
  absent-tail h w =
      let e = place-below key p ps h in
      record { other = λ l f. w.other (omega arith) (rw e f) }

  absent-first : key ≡ p.0 → Absent key (p ∷ ps) → ⊥
  absent-first h w =
      let e = place-first key p ps (omega arith) in
      w.other (omega arith) (rw e (sym h))

  present-first : key < p.0 → Present key (p ∷ ps) → ⊥
  present-first h w =
      let e = place-first key p ps (omega arith) in
      let f : p.0 ≡ key = rw e at w.equal in
      omega arith

present-nil : (key : ℕ) → Present key [] → ⊥
present-nil key h = omega (arith, h.inside)

-- A put of a present key replaces the pair at its place; of an absent one, it adds the pair there.
pub insert-present : (key v : ℕ) (ps : List Pair) → Present key ps → insert key v ps ≡ set ps (place key ps) (key, v)
insert-present key v [] w = absurd (present-nil key w)
insert-present key v (p ∷ ps) w = go (tri key p.0) (insert-present key v ps)
  where
    go :
        Tri key p.0 →
        (Present key ps → insert key v ps ≡ set ps (place key ps) (key, v)) →
        insert key v (p ∷ ps) ≡ set (p ∷ ps) (place key (p ∷ ps)) (key, v)
    go (less h) r = absurd (present-first key p ps h w)
    go (same h) r = rw (insert_same key v p ps h, place-first key p ps (omega arith))
    go (more h) r =
        rw (insert-behind key v p ps h, place-below key p ps h)
        (ap {B = List Pair} (p ∷◌) (r (present-tail key p ps h w)))

pub insert-absent : (key v : ℕ) (ps : List Pair) → Absent key ps → insert key v ps ≡ insert_at (place key ps) (key, v) ps
unfolding insert place
insert-absent key v [] w = refl
insert-absent key v (p ∷ ps) w = go (tri key p.0) (insert-absent key v ps)
  where
    go :
        Tri key p.0 →
        (Absent key ps → insert key v ps ≡ insert_at (place key ps) (key, v) ps) →
        insert key v (p ∷ ps) ≡ insert_at (place key (p ∷ ps)) (key, v) (p ∷ ps)
    go (less h) r = insert-before key v p ps h ∙ ap (λ (i : ℕ). insert_at i (key, v) (p ∷ ps)) (sym (place-first key p ps (omega arith)))
    go (same h) r = absurd (absent-first key p ps h w)
    go (more h) r =
        insert-behind key v p ps h ∙
        ap {B = List Pair} (p ∷◌) (r (absent-tail key p ps h w)) ∙
        ap (λ (i : ℕ). insert_at i (key, v) (p ∷ ps)) (sym (place-below key p ps h))

-- A delete of a present key takes the pair at its place out; of an absent one, in an ascending list, it changes nothing.
pub delete-present : (key : ℕ) (ps : List Pair) → Present key ps → delete key ps ≡ remove_at (place key ps) ps
delete-present key [] w = absurd (present-nil key w)
delete-present key (p ∷ ps) w = go (tri key p.0) (delete-present key ps)
  where
    go :
        Tri key p.0 →
        (Present key ps → delete key ps ≡ remove_at (place key ps) ps) →
        delete key (p ∷ ps) ≡ remove_at (place key (p ∷ ps)) (p ∷ ps)
    go (less h) r = absurd (present-first key p ps h w)
    go (same h) r = delete_same key p ps h ∙ ap (λ (i : ℕ). remove_at i (p ∷ ps)) (sym (place-first key p ps (omega arith)))
    go (more h) r =
        delete-other key p ps (omega arith) ∙
        ap {B = List Pair} (p ∷◌) (r (present-tail key p ps h w)) ∙
        ap (λ (i : ℕ). remove_at i (p ∷ ps)) (sym (place-below key p ps h))

delete-below : (key low high : ℕ) (ps : List Pair) → key < low → Within low high ps → delete key ps ≡ ps
unfolding Within delete
delete-below key low high [] h w = refl
delete-below key low high (p ∷ ps) h w =
    delete-other key p ps (omega arith) ∙ ap {B = List Pair} (p ∷◌) (delete-below key (suc p.0) high ps (omega arith) w.2)

pub delete-absent : (key low high : ℕ) (ps : List Pair) → Within low high ps → Absent key ps → delete key ps ≡ ps
unfolding Within delete
delete-absent key low high [] w a = refl
delete-absent key low high (p ∷ ps) w a = go (tri key p.0) (delete-absent key (suc p.0) high ps w.2)
  where
    go : Tri key p.0 → (Absent key ps → delete key ps ≡ ps) → delete key (p ∷ ps) ≡ p ∷ ps
    go (less h) r =
        delete-other key p ps (omega arith) ∙
        ap {B = List Pair} (p ∷◌) (delete-below key (suc p.0) high ps (omega arith) w.2)
    go (same h) r = absurd (absent-first key p ps h a)
    go (more h) r = delete-other key p ps (omega arith) ∙ ap {B = List Pair} (p ∷◌) (r (absent-tail key p ps h a))

-- A read answers the value at the key's place, or nothing.
pub lookup-present : (key last : ℕ) (ps : List Pair) → Present key ps → lookup key ps ≡ Some (pointer_at ps last (place key ps))
lookup-present key last [] w = absurd (present-nil key w)
lookup-present key last (p ∷ ps) w = go (tri key p.0) (lookup-present key last ps)
  where
    go :
        Tri key p.0 →
        (Present key ps → lookup key ps ≡ Some (pointer_at ps last (place key ps))) →
        lookup key (p ∷ ps) ≡ Some (pointer_at (p ∷ ps) last (place key (p ∷ ps)))
    go (less h) r = absurd (present-first key p ps h w)
    go (same h) r = rw (lookup_same key p ps h, place-first key p ps (omega arith))
    go (more h) r = rw (lookup-other key p ps (omega arith), place-below key p ps h) (r (present-tail key p ps h w))

pub lookup_absent : (key low high : ℕ) (ps : List Pair) → Within low high ps → Absent key ps → lookup key ps ≡ None
unfolding Within lookup
lookup_absent key low high [] w a = refl
lookup_absent key low high (p ∷ ps) w a = go (tri key p.0) (lookup_absent key (suc p.0) high ps w.2)
  where
    go : Tri key p.0 → (Absent key ps → lookup key ps ≡ None) → lookup key (p ∷ ps) ≡ None
    go (less h) r =
        lookup-other key p ps (omega arith) ∙ lookup-below key (suc p.0) high ps (omega arith) w.2
    go (same h) r = absurd (absent-first key p ps h a)
    go (more h) r = lookup-other key p ps (omega arith) ∙ r (absent-tail key p ps h a)
