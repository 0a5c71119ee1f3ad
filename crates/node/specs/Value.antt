-- The node that a node by value stands for. Assumes nothing.
use Rattle.std.specs.Prelude.{◌≡◌, List, ℕ, ◌-◌, ◌≤◌, ◌<◌, length, get_or, take, set, None, Some, Ok, Err}
use Rattle.std.proofs.Common.{sym, ap₂, ap, ◌∙◌, arith, length-take-le, get_or-take}
use Rattle.std.proofs.Math.Seq.{take-set-lt}
use Rattle.layout.specs.Layout.{most_keys, bound32}
use Rattle.pairs.specs.Pairs.{Pair, Within, lookup}
use Rattle.node.specs.declared.NodeValue.{NodeValue}
use Rattle.node.specs.Node.{Node, node}
use Rattle.node.specs.Splice.{zip, length-zip, get_d_zip, insert_at, remove_at, zip-insert_at, zip-remove_at, zip-set}
use Rattle.node.specs.Search.{place, key_at, pointer_at, key_at-get_or, pointer_at-get_or, place_is, Present, Absent, lookup-present, lookup_absent}
use Rattle.node.specs.Found.{found, found-present, found-absent, at-present, at_place, above-absent}

-- its pairs: the first `count` keys with the pointers beside them
unfoldable pub pairs_in : NodeValue → List Pair
pairs_in v = zip (take v.count v.keys) (take v.count v.pointers)

abbrev pub node_of : NodeValue → Node
node_of v = node v.shape (pairs_in v) v.link

-- Its count is within its arrays.
pub record Sized (v : NodeValue) : Type 0 where
  pub size : v.count ≤ most_keys
  pub key_room : length v.keys ≡ most_keys
  pub pointer_room : length v.pointers ≡ most_keys

-- It is within its arrays, and its keys ascend: what every function here asks of a node and gives of its result.
pub record Held (v : NodeValue) : Type 0 where
  pub sized : Sized v
  pub ascending : Within 0 bound32 (pairs_in v)

-- A result stands for a node, within its arrays.
pub record Stands (v : NodeValue) (n : Node) : Type 0 where
  pub is : node_of v ≡ n
  pub sized : Sized v

-- A result stands for a node, and its keys ascend.
pub record Becomes (v : NodeValue) (n : Node) : Type 0 where
  pub is : node_of v ≡ n
  pub held : Held v

module _ (v : NodeValue) (s : Sized v) where
  length-keys : length (take v.count v.keys) ≡ v.count
  length-keys = length-take-le v.count v.keys (omega (arith, s.size, s.key_room))

  length_pointers : length (take v.count v.pointers) ≡ v.count
  length_pointers = length-take-le v.count v.pointers (omega (arith, s.size, s.pointer_room))

  pub length-pairs_in : length (pairs_in v) ≡ v.count
  unfolding pairs_in
  length-pairs_in =
      length-zip (take v.count v.keys) (take v.count v.pointers) (length-keys ∙ sym length_pointers) ∙ length-keys

  get_or-pairs_in : (i : ℕ) → i < v.count → get_or (pairs_in v) i (0, 0) ≡ (get_or v.keys i 0, get_or v.pointers i 0)
  unfolding pairs_in
  get_or-pairs_in i h =
      get_d_zip (take v.count v.keys) (take v.count v.pointers) i (length-keys ∙ sym length_pointers) ∙
      ap₂ {C = Pair} (λ (k p : ℕ). (k, p)) (get_or-take v.count v.keys i 0 h) (get_or-take v.count v.pointers i 0 h)

  pub key_at-pairs_in : (i : ℕ) → i < v.count → key_at (pairs_in v) i ≡ get_or v.keys i 0
  key_at-pairs_in i h = key_at-get_or (pairs_in v) i ∙ ap (λ (p : Pair). p.0) (get_or-pairs_in i h)

  pub pointer_at-pairs_in : (last i : ℕ) → i < v.count → pointer_at (pairs_in v) last i ≡ get_or v.pointers i 0
  pointer_at-pairs_in last i h =
      pointer_at-get_or (pairs_in v) last i (omega (arith, length-pairs_in)) ∙ ap (λ (p : Pair). p.1) (get_or-pairs_in i h)

  -- what arrays that were spliced, and set, stand for
  pub pairs-insert_at :
      (i k p : ℕ) (ks ps : List ℕ) →
      ks ≡ insert_at i k (take v.count v.keys) →
      ps ≡ insert_at i p (take v.count v.pointers) →
      zip ks ps ≡ insert_at i (k, p) (pairs_in v)
  unfolding pairs_in
  pairs-insert_at i k p ks ps e f =
      ap₂ zip e f ∙
      zip-insert_at i k p (take v.count v.keys) (take v.count v.pointers) (length-keys ∙ sym length_pointers)

  pub pairs-remove_at :
      (i : ℕ) (ks ps : List ℕ) →
      ks ≡ remove_at i (take v.count v.keys) →
      ps ≡ remove_at i (take v.count v.pointers) →
      zip ks ps ≡ remove_at i (pairs_in v)
  unfolding pairs_in
  pairs-remove_at i ks ps e f =
      ap₂ zip e f ∙
      zip-remove_at i (take v.count v.keys) (take v.count v.pointers) (length-keys ∙ sym length_pointers)

  pub pairs_set :
      (i k p : ℕ) → i < v.count →
      zip (take v.count (set v.keys i k)) (take v.count (set v.pointers i p)) ≡ set (pairs_in v) i (k, p)
  unfolding pairs_in
  pairs_set i k p h =
      ap₂ zip (take-set-lt v.count v.keys i k h) (take-set-lt v.count v.pointers i p h) ∙
      zip-set (take v.count v.keys) (take v.count v.pointers) i k p

-- The place of the first key at or above the wanted one, known by the keys beside it in the array.
pub place-value :
    (v : NodeValue) → Held v → (wanted i : ℕ) → i ≤ v.count →
    (0 < i → get_or v.keys (i - 1) 0 < wanted) → (i < v.count → wanted ≤ get_or v.keys i 0) → i ≡ place wanted (pairs_in v)
place-value v h wanted i l before behind =
    let e = length-pairs_in v h.sized in
    place_is wanted 0 bound32 (pairs_in v) i h.ascending (omega arith)
    (λ z. rw (key_at-pairs_in v h.sized (i - 1) (omega arith)) (before z))
    (λ z. rw (key_at-pairs_in v h.sized i (omega arith)) (behind (omega arith)))

-- What the search finds, known by the key at the place.
module _ (v : NodeValue) (h : Held v) (key i : ℕ) (e : i ≡ place key (pairs_in v)) where
  pub found-at-value : i < v.count → get_or v.keys i 0 ≡ key → Ok i ≡ found key (pairs_in v)
  found-at-value l f =
      let w : Present key (pairs_in v) =
      record {
        inside = omega (arith, length-pairs_in v h.sized);
        equal = ap (λ (j : ℕ). key_at (pairs_in v) j) (sym e) ∙ key_at-pairs_in v h.sized i l ∙ f;
      } in
      rw (found-present key (pairs_in v) w, e)

  pub found-above-value : i < v.count → (get_or v.keys i 0 ≡ key → ⊥) → Err i ≡ found key (pairs_in v)
  found-above-value l f =
      let a : Absent key (pairs_in v) =
      record { other = λ z g. f (sym (key_at-pairs_in v h.sized i l) ∙ ap (λ (j : ℕ). key_at (pairs_in v) j) e ∙ g) } in
      rw (found-absent key (pairs_in v) a, e)

  pub found_end_value : v.count ≤ i → Err i ≡ found key (pairs_in v)
  found_end_value l =
      let a : Absent key (pairs_in v) = record { other = λ z g. omega (arith, length-pairs_in v h.sized) } in
      rw (found-absent key (pairs_in v) a, e)

-- What stands at a key: the pointer at its place, or nothing.
module _ (v : NodeValue) (h : Held v) (k i : ℕ) where
  pub value_there : (p : ℕ) → found k (pairs_in v) ≡ Ok i → p ≡ pointer_at (pairs_in v) v.link i → Some p ≡ lookup k (pairs_in v)
  value_there p e f =
      ap Some (f ∙ ap (λ (j : ℕ). pointer_at (pairs_in v) v.link j) (at_place k (pairs_in v) i e)) ∙
      sym (lookup-present k v.link (pairs_in v) (at-present k (pairs_in v) i e))

  pub value_missing : found k (pairs_in v) ≡ Err i → None ≡ lookup k (pairs_in v)
  value_missing e = sym (lookup_absent k 0 bound32 (pairs_in v) h.ascending (above-absent k (pairs_in v) i e))
