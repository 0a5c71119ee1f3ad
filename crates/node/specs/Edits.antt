-- What the edited arrays of a node stand for, and that an edit keeps the keys ascending. Assumes nothing.
use Rattle.std.specs.Prelude.{◌≡◌, ℕ, suc, ◌+◌, ◌-◌, ◌≤◌, ◌<◌, length, set, Ok, Err, List, get_or, take}
use Rattle.std.proofs.Common.{refl, sym, ap₂, ◌∙◌, arith, ap, length-set}
use Rattle.std.proofs.lemmas.List.{set-get_or}
use Rattle.layout.specs.Layout.{most_keys, bound32}
use Rattle.pairs.specs.Pairs.{Pair, insert, Within}
use Rattle.pairs.proofs.Bounds.{within_insert, within_delete}
use Rattle.node.specs.declared.Shape.{Shape}
use Rattle.node.specs.declared.NodeValue.{NodeValue}
use Rattle.node.specs.Node.{Node, node, pairs_of}
use Rattle.node.specs.Change.{put, remove, change}
use Rattle.node.specs.Splice.{zip, insert_at, remove_at, length-insert_at}
use Rattle.node.specs.Found.{found, at-present, at_place, above-absent, above_place}
use Rattle.node.specs.Search.{place, place_le_length, key_at, insert-present, insert-absent, delete-present, delete-absent}
use Rattle.node.specs.Value.{pairs_in, node_of, Sized, Held, Stands, Becomes, length-pairs_in, key_at-pairs_in, pairs-insert_at, pairs-remove_at, pairs_set}

-- What the arrays of an edited node stand for.
module _ (v : NodeValue) (s : Sized v) where
  pub stands_added :
      (at k p : ℕ) (ks ps : List ℕ) → v.count < most_keys →
      take (v.count + 1) ks ≡ insert_at at k (take v.count v.keys) →
      take (v.count + 1) ps ≡ insert_at at p (take v.count v.pointers) →
      length ks ≡ most_keys → length ps ≡ most_keys →
      Stands (record { shape = v.shape; count = v.count + 1; keys = ks; pointers = ps; link = v.link })
      (node v.shape (insert_at at (k, p) (pairs_in v)) v.link)
  unfolding pairs_in
  stands_added at k p ks ps h e f a b =
      record {
        is = ap (λ (qs : List Pair). node v.shape qs v.link) (pairs-insert_at v s at k p (take (v.count + 1) ks) (take (v.count + 1) ps) e f);
        sized = record { size = omega arith; key_room = a; pointer_room = b };
      }

  pub stands_removed :
      (at : ℕ) (ks ps : List ℕ) →
      take (v.count - 1) ks ≡ remove_at at (take v.count v.keys) →
      take (v.count - 1) ps ≡ remove_at at (take v.count v.pointers) →
      length ks ≡ most_keys → length ps ≡ most_keys →
      Stands (record { shape = v.shape; count = v.count - 1; keys = ks; pointers = ps; link = v.link }) (node v.shape (remove_at at (pairs_in v)) v.link)
  unfolding pairs_in
  stands_removed at ks ps e f a b =
      record {
        is = ap (λ (qs : List Pair). node v.shape qs v.link) (pairs-remove_at v s at (take (v.count - 1) ks) (take (v.count - 1) ps) e f);
        sized = record { size = omega (arith, s.size); key_room = a; pointer_room = b };
      }

  pub stands_repointed :
      (at p : ℕ) → at < v.count →
      Stands (record { shape = v.shape; count = v.count; keys = v.keys; pointers = set v.pointers at p; link = v.link })
      (node v.shape (set (pairs_in v) at (key_at (pairs_in v) at, p)) v.link)
  unfolding pairs_in
  stands_repointed at p h =
      let k = get_or v.keys at 0 in
      let qs = take v.count (set v.pointers at p) in
      record {
        is =
            ap (λ (ks : List ℕ). node v.shape (zip (take v.count ks) qs) v.link) (sym (set-get_or v.keys at 0)) ∙
            ap (λ (qs : List Pair). node v.shape qs v.link) (pairs_set v s at k p h) ∙
            ap (λ (k : ℕ). node v.shape (set (pairs_in v) at (k, p)) v.link) (sym (key_at-pairs_in v s at h));
        sized = record { size = s.size; key_room = s.key_room; pointer_room = simp length-set s.pointer_room };
      }

-- A put and a delete of a key, from the edit at its place.
pub becomes : (r : NodeValue) (n m : Node) → Stands r n → n ≡ m → Within 0 bound32 (pairs_of m) → Becomes r m
becomes r n m s e w =
    record { is = s.is ∙ e; held = record { sized = s.sized; ascending = rw (ap pairs_of (sym (s.is ∙ e))) at w } }

module _ (v r : NodeValue) (h : Held v) (key i : ℕ) where
  pub becomes_replaced :
      (p : ℕ) → key < bound32 → found key (pairs_in v) ≡ Ok i →
      Stands r (node v.shape (set (pairs_in v) i (key_at (pairs_in v) i, p)) v.link) → Becomes r (change (put key p) (node_of v))
  becomes_replaced p l e s =
      let w = at-present key (pairs_in v) i e in
      let f = at_place key (pairs_in v) i e in
      let k : key_at (pairs_in v) i ≡ key = ap (λ (j : ℕ). key_at (pairs_in v) j) f ∙ w.equal in
      becomes r _ _ s
      (ap₂ (λ (j k : ℕ). node v.shape (set (pairs_in v) j (k, p)) v.link) f k ∙
      ap (λ (qs : List Pair). node v.shape qs v.link) (sym (insert-present key p (pairs_in v) w)))
      (within_insert key p 0 bound32 (pairs_in v) (omega arith) l h.ascending)

  pub becomes_added :
      (p : ℕ) → key < bound32 → found key (pairs_in v) ≡ Err i →
      Stands r (node v.shape (insert_at i (key, p) (pairs_in v)) v.link) → Becomes r (change (put key p) (node_of v))
  becomes_added p l e s =
      becomes r _ _ s
      (ap (λ (j : ℕ). node v.shape (insert_at j (key, p) (pairs_in v)) v.link) (above_place key (pairs_in v) i e) ∙
      ap (λ (qs : List Pair). node v.shape qs v.link) (sym (insert-absent key p (pairs_in v) (above-absent key (pairs_in v) i e))))
      (within_insert key p 0 bound32 (pairs_in v) (omega arith) l h.ascending)

  pub becomes_removed :
      found key (pairs_in v) ≡ Ok i →
      Stands r (node v.shape (remove_at i (pairs_in v)) v.link) → Becomes r (change (remove key) (node_of v))
  becomes_removed e s =
      becomes r _ _ s
      (ap (λ (j : ℕ). node v.shape (remove_at j (pairs_in v)) v.link) (at_place key (pairs_in v) i e) ∙
      ap (λ (qs : List Pair). node v.shape qs v.link) (sym (delete-present key (pairs_in v) (at-present key (pairs_in v) i e))))
      (within_delete key 0 bound32 (pairs_in v) h.ascending)

module _ (v : NodeValue) (h : Held v) (key i : ℕ) where
  -- the place that the search found is within the node
  pub at-inside : found key (pairs_in v) ≡ Ok i → i < v.count
  at-inside e =
      omega (arith, at_place key (pairs_in v) i e, (at-present key (pairs_in v) i e).inside, length-pairs_in v h.sized)

  pub above-inside : found key (pairs_in v) ≡ Err i → i ≤ v.count
  above-inside e =
      omega (arith, above_place key (pairs_in v) i e, place_le_length key (pairs_in v), length-pairs_in v h.sized)

  -- how many pairs a put leaves: as many where the key is there, one more where it is not
  pub length-put-at : (p : ℕ) → found key (pairs_in v) ≡ Ok i → length (insert key p (pairs_in v)) ≡ v.count
  length-put-at p e =
      ap length (insert-present key p (pairs_in v) (at-present key (pairs_in v) i e)) ∙
      length-set (pairs_in v) (place key (pairs_in v)) (key, p) ∙
      length-pairs_in v h.sized

  pub length-put-above : (p : ℕ) → found key (pairs_in v) ≡ Err i → length (insert key p (pairs_in v)) ≡ suc v.count
  length-put-above p e =
      ap length (insert-absent key p (pairs_in v) (above-absent key (pairs_in v) i e)) ∙
      length-insert_at (place key (pairs_in v)) (key, p) (pairs_in v) ∙
      ap suc (length-pairs_in v h.sized)

  -- A delete of an absent key changes nothing.
  pub becomes_same : found key (pairs_in v) ≡ Err i → Becomes v (change (remove key) (node_of v))
  becomes_same e =
      record {
        is =
            ap (λ (qs : List Pair). node v.shape qs v.link)
            (sym (delete-absent key 0 bound32 (pairs_in v) h.ascending (above-absent key (pairs_in v) i e)));
        held = h;
      }

-- A link leaves the pairs alone.
pub becomes_linked :
    (v : NodeValue) → Held v → (shape : Shape) (to : ℕ) →
    Becomes (record { shape = shape; count = v.count; keys = v.keys; pointers = v.pointers; link = to }) (node shape (pairs_in v) to)
unfolding pairs_in
becomes_linked v h shape to =
    record {
      is = refl;
      held =
          record {
            sized = record { size = h.sized.size; key_room = h.sized.key_room; pointer_room = h.sized.pointer_room };
            ascending = h.ascending;
          };
    }
