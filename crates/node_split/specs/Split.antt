-- The halves of a full node with a pair more, made from its arrays without the 25 pairs ever standing in one. Assumes nothing.
use Rattle.std.specs.Prelude.{◌≡◌, get_or, set, List, [], ◌∷◌, ◌++◌, ℕ, suc, ◌+◌, ◌≤◌, ◌<◌, length, take, drop}
use Rattle.std.proofs.Common.{sym, ◌∙◌, arith, add-one, take-suc, take-suc-set, get_or-drop, ap, ap₂, length-drop, take_all}
use Rattle.layout.specs.Layout.{most_keys, kept_keys, bound32}
use Rattle.pairs.specs.Pairs.{Pair, insert, Within}
use Rattle.pairs.proofs.Bounds.{within_insert}
use Rattle.node.specs.declared.NodeValue.{NodeValue}
use Rattle.node.specs.Node.{node}
use Rattle.node.specs.Change.{change, put}
use Rattle.node.specs.Splice.{zip, insert_at, length-insert_at, take-zip, drop-zip, zip-insert_at, length-zip, get_d_zip}
use Rattle.node.specs.Search.{place, key_at, pointer_at, key_at-get_or, pointer_at-get_or, Absent, insert-absent, place_le_length}
use Rattle.node.specs.Value.{pairs_in, node_of, Held, Becomes, length-pairs_in}
use Rattle.node.specs.Halves.{lower_half, upper_half, lower_link, upper_from, within_take, within_drop}

-- What a split is asked with: a full node, and a key that it does not hold, with its place.
pub record Splits (v : NodeValue) (at key : ℕ) : Type 0 where
  pub held : Held v
  pub full : v.count ≡ most_keys
  pub absent : Absent key (pairs_in v)
  pub there : at ≡ place key (pairs_in v)

pub splits_at : (v : NodeValue) (at key : ℕ) → Splits v at key → at ≤ most_keys
splits_at v at key s =
    omega (arith, s.there, s.full, place_le_length key (pairs_in v), length-pairs_in v s.held.sized)

-- A part of a list that an element was put into, filled one by one: each turn reads the next element.
pub part-turn :
    (xs b : List ℕ) (from i y : ℕ) → i < length b → from + i < length xs → y ≡ get_or xs (from + i) 0 →
    take i b ≡ take i (drop from xs) → take (i + 1) (set b i y) ≡ take (i + 1) (drop from xs)
part-turn xs b from i y h k e f =
    let l : i < length (drop from xs) = omega (arith, length-drop from xs) in
    rw (add-one i)
    (take-suc-set b i y h ∙
    ap₂ (λ (front : List ℕ) (x : ℕ). front ++ (x ∷ [])) f (e ∙ sym (get_or-drop from xs i 0)) ∙
    sym (take-suc (drop from xs) i 0 l))

module _ (v : NodeValue) (at key p : ℕ) (s : Splits v at key) where
  -- the arrays with the value in, of 25, that no memory holds
  abbrev keys25 : List ℕ
  keys25 = insert_at at key v.keys

  abbrev pointers25 : List ℕ
  pointers25 = insert_at at p v.pointers

  same_length : length keys25 ≡ length pointers25
  same_length =
      omega (arith, length-insert_at at key v.keys, length-insert_at at p v.pointers, s.held.sized.key_room, s.held.sized.pointer_room)

  pub length-keys25 : length keys25 ≡ suc most_keys
  length-keys25 = omega (arith, length-insert_at at key v.keys, s.held.sized.key_room)

  zip-whole : pairs_in v ≡ zip v.keys v.pointers
  unfolding pairs_in
  zip-whole =
      ap₂ zip (take_all v.count v.keys (omega (arith, s.full, s.held.sized.key_room)))
      (take_all v.count v.pointers (omega (arith, s.full, s.held.sized.pointer_room)))

  whole : zip keys25 pointers25 ≡ insert key p (pairs_in v)
  whole =
      zip-insert_at at key p v.keys v.pointers (omega (arith, s.held.sized.key_room, s.held.sized.pointer_room)) ∙
      ap₂ (λ (i : ℕ) (ps : List Pair). insert_at i (key, p) ps) s.there (sym zip-whole) ∙
      sym (insert-absent key p (pairs_in v) s.absent)

  ascending : key < bound32 → Within 0 bound32 (insert key p (pairs_in v))
  ascending h = within_insert key p 0 bound32 (pairs_in v) (omega arith) h s.held.ascending

  -- pairs from a place on, as many as are left or fewer
  zip-part : (from n : ℕ) (ks ps : List ℕ) → take n ks ≡ take n (drop from keys25) → take n ps ≡ take n (drop from pointers25) →
      zip (take n ks) (take n ps) ≡ take n (drop from (insert key p (pairs_in v)))
  zip-part from n ks ps e f =
      ap₂ zip e f ∙
      sym (take-zip n (drop from keys25) (drop from pointers25)) ∙
      ap (λ (qs : List Pair). take n qs) (sym (drop-zip from keys25 pointers25 same_length)) ∙
      ap (λ (qs : List Pair). take n (drop from qs)) whole

  pub get_or-keys25 : (j : ℕ) → get_or keys25 j 0 ≡ key_at (insert key p (pairs_in v)) j
  get_or-keys25 j =
      sym (ap (λ (q : Pair). q.0) (get_d_zip keys25 pointers25 j same_length)) ∙
      sym (key_at-get_or (zip keys25 pointers25) j) ∙
      ap (λ (qs : List Pair). key_at qs j) whole

  pub get_or-pointers25 : (last j : ℕ) → j < suc most_keys → get_or pointers25 j 0 ≡ pointer_at (insert key p (pairs_in v)) last j
  get_or-pointers25 last j h =
      sym (ap (λ (q : Pair). q.1) (get_d_zip keys25 pointers25 j same_length)) ∙
      sym (pointer_at-get_or (zip keys25 pointers25) last j (omega (arith, length-zip keys25 pointers25 same_length, length-keys25))) ∙
      ap (λ (qs : List Pair). pointer_at qs last j) whole

  pub becomes_lower :
      (upper l : ℕ) (ks ps : List ℕ) → key < bound32 →
      take kept_keys ks ≡ take kept_keys (drop 0 keys25) →
      take kept_keys ps ≡ take kept_keys (drop 0 pointers25) →
      length ks ≡ most_keys → length ps ≡ most_keys →
      l ≡ lower_link v.shape upper (get_or pointers25 kept_keys 0) →
      Becomes (record { shape = v.shape; count = kept_keys; keys = ks; pointers = ps; link = l }) (lower_half (change (put key p) (node_of v)) upper)
  unfolding pairs_in lower_half
  becomes_lower upper l ks ps h e f a b g =
      let pairs = zip-part 0 kept_keys ks ps e f in
      let link = g ∙ ap (λ (x : ℕ). lower_link v.shape upper x) (get_or-pointers25 v.link kept_keys (omega arith)) in
      record {
        is = ap₂ (λ (qs : List Pair) (x : ℕ). node v.shape qs x) pairs link;
        held =
            record {
              sized = record { size = omega arith; key_room = a; pointer_room = b };
              ascending = rw pairs (within_take kept_keys 0 bound32 (insert key p (pairs_in v)) (ascending h));
            };
      }

  pub becomes_upper :
      (from n : ℕ) (ks ps : List ℕ) → key < bound32 → from ≡ upper_from v.shape → n + from ≡ suc most_keys → n ≤ most_keys →
      take n ks ≡ take n (drop from keys25) →
      take n ps ≡ take n (drop from pointers25) →
      length ks ≡ most_keys → length ps ≡ most_keys →
      Becomes (record { shape = v.shape; count = n; keys = ks; pointers = ps; link = v.link }) (upper_half (change (put key p) (node_of v)))
  unfolding pairs_in upper_half
  becomes_upper from n ks ps h g m k e f a b =
      let q = insert key p (pairs_in v) in
      let size : length q ≡ suc most_keys = ap length (sym whole) ∙ length-zip keys25 pointers25 same_length ∙ length-keys25 in
      let all : take n (drop from q) ≡ drop from q = take_all n (drop from q) (omega (arith, length-drop from q)) in
      let pairs = zip-part from n ks ps e f ∙ all in
      record {
        is = ap (λ (qs : List Pair). node v.shape qs v.link) (pairs ∙ ap (λ (i : ℕ). drop i q) g);
        held =
            record {
              sized = record { size = k; key_room = a; pointer_room = b };
              ascending = rw pairs (within_drop from 0 bound32 q (ascending h));
            };
      }
