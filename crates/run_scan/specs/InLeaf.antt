-- The pairs of one leaf taken a key at a time, from the place of the low key on: what is left of it from here gives what the whole leaf gives. Assumes
-- nothing.
use Rattle.std.specs.Prelude.{◌≡◌, refl, true, false, List, [], ◌∷◌, ◌++◌, ◌⊎◌, ℕ, zero, suc, ◌+◌, ◌-◌, ◌≤◌, ◌<◌, length, get_or, drop, set, Result}
use Rattle.std.proofs.Common.{sym, ap, ap₂, ◌∙◌, append-nil, append_assoc, inl, inr, add-one, arith, lt-ltb, le-ltb, length-set, drop_of_length-le, drop-cons}
use Rattle.laws.specs.Order.{le_or}
use Rattle.pairs.specs.Pairs.{Pair, range, has_above}
use Rattle.pairs.specs.Clauses.{range-zero, range_skip, range_stop, range-take}
use Rattle.node.specs.declared.NodeValue.{NodeValue}
use Rattle.node.specs.Search.{place, place-below, place-first, place_le_length, lt_place, key_at-get_or, pointer_at-get_or}
use Rattle.node.specs.Found.{found, place_of, place_of-found}
use Rattle.node.specs.Value.{pairs_in, Sized, Held, length-pairs_in, key_at-pairs_in, pointer_at-pairs_in}
use Rattle.layout.specs.Layout.{most_pairs, bound32}
use Rattle.run_scan.specs.Pairs.{listed, listed_more}

-- The pair at a place of a node, in front of those behind it.
module _ (v : NodeValue) (s : Sized v) (i : ℕ) (l : i < v.count) where
  abbrev here : Pair
  here = (get_or v.keys i 0, get_or v.pointers i 0)

  pub drop-pairs_in : drop i (pairs_in v) ≡ here ∷ drop (i + 1) (pairs_in v)
  drop-pairs_in =
      let inside : i < length (pairs_in v) = omega (arith, length-pairs_in v s) in
      let pair : get_or (pairs_in v) i (0, 0) ≡ here =
      ap₂ {C = Pair} (λ (k p : ℕ). (k, p)) (sym (key_at-get_or (pairs_in v) i) ∙ key_at-pairs_in v s i l)
      (sym (pointer_at-get_or (pairs_in v) 0 i inside) ∙ pointer_at-pairs_in v s 0 i l) in
      drop-cons (pairs_in v) i (0, 0) inside ∙ ap₂ (λ (p : Pair) (n : ℕ). p ∷ drop n (pairs_in v)) pair (sym (add-one i))

has_above-below : (high : ℕ) (p : Pair) (ps : List Pair) → p.0 ≤ high → has_above high (p ∷ ps) ≡ has_above high ps
unfolding has_above
has_above-below high p ps l = rw (le-ltb high p.0 l)

has_above-first : (high : ℕ) (p : Pair) (ps : List Pair) → high < p.0 → has_above high (p ∷ ps) ≡ true
unfolding has_above
has_above-first high p ps l = rw (lt-ltb high p.0 l)

has_above-nil : (high : ℕ) → has_above high [] ≡ false
unfolding has_above
has_above-nil high = refl

range-nil : (low high most : ℕ) → range low high (suc most) [] ≡ []
unfolding range
range-nil low high most = refl

-- At place i of a leaf: pairs found before the leaf, and by now.
pub record Taking (low high most : ℕ) (leaf : NodeValue) (keys₀ values₀ : List ℕ) (count₀ : ℕ) (keys values : List ℕ) (count i : ℕ) : Type 0 where
  pub inside : i ≤ leaf.count
  pub from : place low (pairs_in leaf) ≤ i
  pub key_room : length keys ≡ most_pairs
  pub value_room : length values ≡ most_pairs
  pub wanted : count < most
  pub since : count₀ ≤ count
  pub taken : listed count keys values ++ range low high (most - count) (drop i (pairs_in leaf)) ≡
      listed count₀ keys₀ values₀ ++ range low high (most - count₀) (pairs_in leaf)
  pub above : has_above high (drop i (pairs_in leaf)) ≡ has_above high (pairs_in leaf)

-- The keys before the place of the low one count for nothing: none is taken, none is above the high one.
range_from : (low high most : ℕ) (ps : List Pair) → range low high most (drop (place low ps) ps) ≡ range low high most ps
unfolding place
range_from low high zero ps = range-zero low high (drop (place low ps) ps) ∙ sym (range-zero low high ps)
range_from low high (suc most) [] = refl
range_from low high (suc most) (p ∷ ps) = go (le_or low p.0) (range_from low high (suc most) ps)
  where
    go :
        (low ≤ p.0) ⊎ (p.0 < low) →
        range low high (suc most) (drop (place low ps) ps) ≡ range low high (suc most) ps →
        range low high (suc most) (drop (place low (p ∷ ps)) (p ∷ ps)) ≡ range low high (suc most) (p ∷ ps)
    go (inl l) r = ap (λ (n : ℕ). range low high (suc most) (drop n (p ∷ ps))) (place-first low p ps l)
    go (inr l) r =
        ap (λ (n : ℕ). range low high (suc most) (drop n (p ∷ ps))) (place-below low p ps l) ∙ r ∙ sym (range_skip low high most p ps l)

above_from : (low high : ℕ) (ps : List Pair) → low ≤ high → has_above high (drop (place low ps) ps) ≡ has_above high ps
unfolding place
above_from low high [] o = refl
above_from low high (p ∷ ps) o = go (le_or low p.0) (above_from low high ps o)
  where
    go :
        (low ≤ p.0) ⊎ (p.0 < low) →
        has_above high (drop (place low ps) ps) ≡ has_above high ps →
        has_above high (drop (place low (p ∷ ps)) (p ∷ ps)) ≡ has_above high (p ∷ ps)
    go (inl l) r = ap (λ (n : ℕ). has_above high (drop n (p ∷ ps))) (place-first low p ps l)
    go (inr l) r =
        ap (λ (n : ℕ). has_above high (drop n (p ∷ ps))) (place-below low p ps l) ∙ r ∙ sym (has_above-below high p ps (omega arith))

-- At the place that the search for the low key answers: a sweep rests on it (document 02, P3).
pub taking_start : (low high most : ℕ) (leaf : NodeValue) (keys values : List ℕ) (count : ℕ) → low ≤ high → Held leaf →
    length keys ≡ most_pairs → length values ≡ most_pairs → count < most → (r : Result ℕ ℕ) → r ≡ found low (pairs_in leaf) → (i : ℕ) → i ≡ place_of r →
    Taking low high most leaf keys values count keys values count i
taking_start low high most leaf keys values count o h e f l r is i of =
    let at : i ≡ place low (pairs_in leaf) = of ∙ ap place_of is ∙ place_of-found low (pairs_in leaf) in
    record {
      inside = omega (arith, place_le_length low (pairs_in leaf), length-pairs_in leaf h.sized);
      from = omega arith;
      key_room = e;
      value_room = f;
      wanted = l;
      since = omega arith;
      taken =
          ap (λ (ps : List Pair). listed count keys values ++ ps)
          (ap (λ (n : ℕ). range low high (most - count) (drop n (pairs_in leaf))) at ∙ range_from low high (most - count) (pairs_in leaf));
      above = ap (λ (n : ℕ). has_above high (drop n (pairs_in leaf))) at ∙ above_from low high (pairs_in leaf) o;
    }

module _ {low high most : ℕ} {leaf : NodeValue} {keys₀ values₀ : List ℕ} {count₀ : ℕ} {keys values : List ℕ} {count i : ℕ} (bound : most ≤ most_pairs)
    (h : Held leaf)
    (t : Taking low high most leaf keys₀ values₀ count₀ keys values count i) where
  abbrev key : ℕ
  key = get_or leaf.keys i 0

  abbrev value : ℕ
  value = get_or leaf.pointers i 0

  abbrev all : List Pair
  all = listed count₀ keys₀ values₀ ++ range low high (most - count₀) (pairs_in leaf)

  more : most - count ≡ suc (most - (count + 1))
  more = omega (arith, t.wanted)

  -- a pair of the leaf is left
  module _ (l : i < leaf.count) where
    from_here : (m : ℕ) → range low high m (drop i (pairs_in leaf)) ≡ range low high m ((key, value) ∷ drop (i + 1) (pairs_in leaf))
    from_here m = ap (range low high m) (drop-pairs_in leaf h.sized i l)

    above-here : has_above high ((key, value) ∷ drop (i + 1) (pairs_in leaf)) ≡ has_above high (pairs_in leaf)
    above-here = ap (has_above high) (sym (drop-pairs_in leaf h.sized i l)) ∙ t.above

    -- its key is at or above the low one, since keys ascend
    key_from : low ≤ key
    key_from = go (le_or low key)
      where
        go : (low ≤ key) ⊎ (key < low) → low ≤ key
        go (inl e) = e
        go (inr e) =
            let inside : i < length (pairs_in leaf) = omega (arith, length-pairs_in leaf h.sized) in
            let below = lt_place low 0 bound32 (pairs_in leaf) i h.ascending inside (omega (arith, key_at-pairs_in leaf h.sized i l)) in
            absurd (omega (arith, t.from))

    -- it is above the high one: the leaf gives no more
    pub taking_high : low ≤ high → high < key → (listed count keys values ≡ all) × (has_above high (pairs_in leaf) ≡ true)
    taking_high o b =
        let none : range low high (most - count) (drop i (pairs_in leaf)) ≡ [] =
        from_here (most - count) ∙
        ap (λ (m : ℕ). range low high m ((key, value) ∷ drop (i + 1) (pairs_in leaf))) more ∙
        range_stop low high (most - (count + 1)) (key, value) (drop (i + 1) (pairs_in leaf)) (omega arith) b in (
          sym (append-nil (listed count keys values)) ∙ ap (λ (ps : List Pair). listed count keys values ++ ps) (sym none) ∙ t.taken,
          sym above-here ∙ has_above-first high (key, value) (drop (i + 1) (pairs_in leaf)) b,
        )

    -- it is at most the high one: one pair more
    module _ (b : key ≤ high) where
      with-one : listed (count + 1) (set keys count key) (set values count value) ++ range low high (most - (count + 1)) (drop (i + 1) (pairs_in leaf)) ≡ all
      with-one =
          ap (λ (ps : List Pair). ps ++ range low high (most - (count + 1)) (drop (i + 1) (pairs_in leaf)))
          (listed_more count keys values t.key_room t.value_room key value (omega (arith, t.wanted))) ∙
          append_assoc (listed count keys values) ((key, value) ∷ []) (range low high (most - (count + 1)) (drop (i + 1) (pairs_in leaf))) ∙
          ap (λ (ps : List Pair). listed count keys values ++ ps)
          (sym (range-take low high (most - (count + 1)) (key, value) (drop (i + 1) (pairs_in leaf)) key_from b) ∙
          ap (λ (m : ℕ). range low high m ((key, value) ∷ drop (i + 1) (pairs_in leaf))) (sym more) ∙
          sym (from_here (most - count))) ∙
          t.taken

      pub taking_more : (count + 1 ≡ most → ⊥) →
          Taking low high most leaf keys₀ values₀ count₀ (set keys count key) (set values count value) (count + 1) (i + 1)
      taking_more n =
          record {
            inside = omega arith;
            from = omega (arith, t.from);
            key_room = length-set keys count key ∙ t.key_room;
            value_room = length-set values count value ∙ t.value_room;
            wanted = omega (arith, t.wanted);
            since = omega (arith, t.since);
            taken = with-one;
            above = sym (has_above-below high (key, value) (drop (i + 1) (pairs_in leaf)) b) ∙ above-here;
          }

      -- and it is the last that is wanted
      pub taking_last : count + 1 ≡ most → listed (count + 1) (set keys count key) (set values count value) ≡ all
      taking_last e =
          let none : range low high (most - (count + 1)) (drop (i + 1) (pairs_in leaf)) ≡ [] =
          ap (λ (m : ℕ). range low high m (drop (i + 1) (pairs_in leaf))) (omega arith) ∙ range-zero low high (drop (i + 1) (pairs_in leaf)) in
          sym (append-nil (listed (count + 1) (set keys count key) (set values count value))) ∙
          ap (λ (ps : List Pair). listed (count + 1) (set keys count key) (set values count value) ++ ps) (sym none) ∙
          with-one

  -- no pair of the leaf is left
  module _ (l : leaf.count ≤ i) where
    end : drop i (pairs_in leaf) ≡ []
    end = drop_of_length-le (pairs_in leaf) {i = i} (omega (arith, length-pairs_in leaf h.sized))

    pub taking_end : (listed count keys values ≡ all) × (has_above high (pairs_in leaf) ≡ false)
    taking_end =
        let none : range low high (most - count) (drop i (pairs_in leaf)) ≡ [] =
        ap₂ (λ (m : ℕ) (ps : List Pair). range low high m ps) more end ∙ range-nil low high (most - (count + 1)) in (
          sym (append-nil (listed count keys values)) ∙ ap (λ (ps : List Pair). listed count keys values ++ ps) (sym none) ∙ t.taken,
          sym t.above ∙ ap (has_above high) end ∙ has_above-nil high,
        )
