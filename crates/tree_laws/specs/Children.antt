-- The children of a branch by place, over any kind of child: the one at a place with its bounds and neighbours; one replaced by
-- one or by two; all cut in two. Places are numbers, so the last child is no case of its own. Assumes nothing.
use Rattle.std.specs.Prelude.{◌≡◌, take, drop}
use Rattle.std.proofs.Math.Path.{refl}
use Rattle.std.proofs.Common.{sym, ap, lt-ltb, le-ltb}
use mathlib.Core.List.{List, [], ◌∷◌, ◌++◌, append_assoc, append-nil}
use Prim.Native.Nat.{ℕ, zero, suc, ◌+◌, ◌≤◌, ◌<◌}
use native.Mathlib.Omega.{arith}
use Rattle.std.proofs.Math.ListN.{length}
use Rattle.laws.specs.Order.{Tri, less, same, more, tri}
use Rattle.pairs.specs.Pairs.{Pair, insert, Within}
use Rattle.pairs.specs.Clauses.{insert-before, insert_same, insert-behind}
use Rattle.pairs.proofs.Bounds.{within_tail, within_append}
use Rattle.node.specs.Search.{key_at, pointer_at}
use Rattle.tree.specs.Table.{slot}
use Rattle.tree.specs.Tree.{keys_of, first_of, join_of, sum_of, EachChild}

pub slot-before : (k : ℕ) (p : Pair) (ps : List Pair) → k < p.0 → slot k (p ∷ ps) ≡ 0
unfolding slot
slot-before k p ps l = rw (lt-ltb k p.0 l, slot)

pub slot-behind : (k : ℕ) (p : Pair) (ps : List Pair) → p.0 ≤ k → slot k (p ∷ ps) ≡ suc (slot k ps)
unfolding slot
slot-behind k p ps l = rw (le-ltb k p.0 l, slot)

module _ {X : Type 0} where
  -- The child at a place, its bounds, the leaf after it, and the pairs before and behind it.
  abbrev pub child_at : List (X × ℕ) → X → ℕ → X
  child_at [] last j = last
  child_at (x ∷ xs) last zero = x.0
  child_at (x ∷ xs) last (suc j) = child_at xs last j

  abbrev pub low_at : List (X × ℕ) → ℕ → ℕ → ℕ
  low_at [] low j = low
  low_at (x ∷ xs) low zero = low
  low_at (x ∷ xs) low (suc j) = low_at xs x.1 j

  abbrev pub high_at : List (X × ℕ) → ℕ → ℕ → ℕ
  high_at [] high j = high
  high_at (x ∷ xs) high zero = x.1
  high_at (x ∷ xs) high (suc j) = high_at xs high j

  abbrev pub next_at : (X → ℕ) → List (X × ℕ) → X → ℕ → ℕ → ℕ
  next_at first [] last next j = next
  next_at first (x ∷ xs) last next zero = first_of first xs last
  next_at first (x ∷ xs) last next (suc j) = next_at first xs last next j

  abbrev pub before : (X → List Pair) → List (X × ℕ) → ℕ → List Pair
  before pairs [] j = []
  before pairs (x ∷ xs) zero = []
  before pairs (x ∷ xs) (suc j) = pairs x.0 ++ before pairs xs j

  abbrev pub behind : (X → List Pair) → List (X × ℕ) → X → ℕ → List Pair
  behind pairs [] last j = []
  behind pairs (x ∷ xs) last zero = join_of pairs xs last
  behind pairs (x ∷ xs) last (suc j) = behind pairs xs last j

  -- The sum over all children but the one at a place.
  abbrev pub others : (X → ℕ) → List (X × ℕ) → X → ℕ → ℕ
  others f [] last j = 0
  others f (x ∷ xs) last zero = sum_of f xs last
  others f (x ∷ xs) last (suc j) = f x.0 + others f xs last j

  pub length-keys_of : (id_of : X → ℕ) (xs : List (X × ℕ)) → length (keys_of id_of xs) ≡ length xs
  length-keys_of id_of [] = refl
  length-keys_of id_of (x ∷ xs) = ap suc (length-keys_of id_of xs)

  pub pointer_at-keys_of : (id_of : X → ℕ) (xs : List (X × ℕ)) (last : X) (j : ℕ) → pointer_at (keys_of id_of xs) (id_of last) j ≡ id_of (child_at xs last j)
  pointer_at-keys_of id_of [] last j = refl
  pointer_at-keys_of id_of (x ∷ xs) last zero = refl
  pointer_at-keys_of id_of (x ∷ xs) last (suc j) = pointer_at-keys_of id_of xs last j

  pub each_child_at : (first : X → ℕ) (S : X → ℕ → ℕ → ℕ → Type 0) (xs : List (X × ℕ)) (last : X) (low high next j : ℕ) →
      EachChild first S xs last low high next → S (child_at xs last j) (low_at xs low j) (high_at xs high j) (next_at first xs last next j)
  each_child_at first S [] last low high next j e = e
  each_child_at first S (x ∷ xs) last low high next zero e = e.0
  each_child_at first S (x ∷ xs) last low high next (suc j) e = each_child_at first S xs last x.1 high next j e.1

  pub join_of-child_at : (pairs : X → List Pair) (xs : List (X × ℕ)) (last : X) (j : ℕ) →
      join_of pairs xs last ≡ before pairs xs j ++ (pairs (child_at xs last j) ++ behind pairs xs last j)
  join_of-child_at pairs [] last j = sym (append-nil (pairs last))
  join_of-child_at pairs (x ∷ xs) last zero = refl
  join_of-child_at pairs (x ∷ xs) last (suc j) = rw (append_assoc, ← join_of-child_at pairs xs last j)

  pub sum_of-child_at : (f : X → ℕ) (xs : List (X × ℕ)) (last : X) (j : ℕ) → sum_of f xs last ≡ others f xs last j + f (child_at xs last j)
  sum_of-child_at f [] last j = omega arith
  sum_of-child_at f (x ∷ xs) last zero = omega arith
  sum_of-child_at f (x ∷ xs) last (suc j) = omega (arith, sum_of-child_at f xs last j)

  -- The bounds of the child that a key leads to hold the key.
  pub record Leads (k : ℕ) (xs : List (X × ℕ)) (low high j : ℕ) : Type 0 where
    pub above : low ≤ low_at xs low j
    pub from : low_at xs low j ≤ k
    pub to : k < high_at xs high j
    pub under : high_at xs high j ≤ high

  pub slot_leads : (id_of : X → ℕ) (k : ℕ) (xs : List (X × ℕ)) (low high : ℕ) → low ≤ k → k < high → Within low high (keys_of id_of xs) →
      Leads k xs low high (slot k (keys_of id_of xs))
  unfolding Within slot
  slot_leads id_of k [] low high a b w = record { above = omega arith; from = a; to = b; under = omega arith }
  slot_leads id_of k (x ∷ xs) low high a b w =
      go (tri k x.1) (λ c. slot_leads id_of k xs x.1 high c b (within_tail low high (x.1, id_of x.0) (keys_of id_of xs) w))
    where
      there : x.1 ≤ k → Leads k xs x.1 high (slot k (keys_of id_of xs)) → Leads k (x ∷ xs) low high (slot k (keys_of id_of (x ∷ xs)))
      there l r =
          rw (slot-behind k (x.1, id_of x.0) (keys_of id_of xs) l)
          record { above = omega (arith, r.above); from = r.from; to = r.to; under = r.under }

      go : Tri k x.1 → (x.1 ≤ k → Leads k xs x.1 high (slot k (keys_of id_of xs))) → Leads k (x ∷ xs) low high (slot k (keys_of id_of (x ∷ xs)))
      go (less l) r =
          rw (slot-before k (x.1, id_of x.0) (keys_of id_of xs) l)
          record { above = omega arith; from = a; to = l; under = omega arith }
      go (same e) r = there (omega arith) (r (omega arith))
      go (more l) r = there (omega arith) (r (omega arith))

  pub low_at_le : (id_of : X → ℕ) (xs : List (X × ℕ)) (low high j : ℕ) → Within low high (keys_of id_of xs) → low ≤ low_at xs low j
  unfolding Within
  low_at_le id_of [] low high j w = omega arith
  low_at_le id_of (x ∷ xs) low high zero w = omega arith
  low_at_le id_of (x ∷ xs) low high (suc j) w =
      omega (arith, low_at_le id_of xs x.1 high j (within_tail low high (x.1, id_of x.0) (keys_of id_of xs) w))

  -- The pairs of children are within bounds where each child's are.
  module _ (id_of first : X → ℕ) (pairs : X → List Pair) (S : X → ℕ → ℕ → ℕ → Type 0)
      (child : (x : X) (low high next : ℕ) → low ≤ high → S x low high next → Within low high (pairs x)) where
    pub join_of_within : (xs : List (X × ℕ)) (last : X) (low high next : ℕ) → low ≤ high → Within low high (keys_of id_of xs) →
        EachChild first S xs last low high next → Within low high (join_of pairs xs last)
    unfolding Within
    join_of_within [] last low high next l w e = child last low high next l e
    join_of_within (x ∷ xs) last low high next l w e =
        within_append low x.1 high (pairs x.0) (join_of pairs xs last) w.0 (omega arith)
        (child x.0 low x.1 (first_of first xs last) w.0 e.0)
        (join_of_within xs last x.1 high next (omega arith) (within_tail low high (x.1, id_of x.0) (keys_of id_of xs) w) e.1)

    pub before_within : (xs : List (X × ℕ)) (last : X) (low high next j : ℕ) → Within low high (keys_of id_of xs) →
        EachChild first S xs last low high next → Within low (low_at xs low j) (before pairs xs j)
    unfolding Within
    before_within [] last low high next j w e = tt
    before_within (x ∷ xs) last low high next zero w e = tt
    before_within (x ∷ xs) last low high next (suc j) w e =
        let w' = within_tail low high (x.1, id_of x.0) (keys_of id_of xs) w in
        within_append low x.1 _ (pairs x.0) (before pairs xs j) w.0 (low_at_le id_of xs x.1 high j w')
        (child x.0 low x.1 (first_of first xs last) w.0 e.0)
        (before_within xs last x.1 high next j w' e.1)

    pub behind_within : (xs : List (X × ℕ)) (last : X) (low high next j : ℕ) → low ≤ high → Within low high (keys_of id_of xs) →
        EachChild first S xs last low high next → Within (high_at xs high j) high (behind pairs xs last j)
    unfolding Within
    behind_within [] last low high next j l w e = tt
    behind_within (x ∷ xs) last low high next zero l w e =
        join_of_within xs last x.1 high next (omega arith) (within_tail low high (x.1, id_of x.0) (keys_of id_of xs) w) e.1
    behind_within (x ∷ xs) last low high next (suc j) l w e =
        behind_within xs last x.1 high next j (omega arith) (within_tail low high (x.1, id_of x.0) (keys_of id_of xs) w) e.1

  -- The child at a place replaced: `swap_child` and `swap_last` are the children but the last, and the last.
  abbrev pub swap_child : List (X × ℕ) → ℕ → X → List (X × ℕ)
  swap_child [] j c = []
  swap_child (x ∷ xs) zero c = (c, x.1) ∷ xs
  swap_child (x ∷ xs) (suc j) c = x ∷ swap_child xs j c

  abbrev pub swap_last : List (X × ℕ) → X → ℕ → X → X
  swap_last [] last j c = c
  swap_last (x ∷ xs) last zero c = last
  swap_last (x ∷ xs) last (suc j) c = swap_last xs last j c

  pub keys_of_swap : (id_of : X → ℕ) (xs : List (X × ℕ)) (last : X) (j : ℕ) (c : X) → id_of c ≡ id_of (child_at xs last j) →
      keys_of id_of (swap_child xs j c) ≡ keys_of id_of xs
  keys_of_swap id_of [] last j c e = refl
  keys_of_swap id_of (x ∷ xs) last zero c e = rw e
  keys_of_swap id_of (x ∷ xs) last (suc j) c e = rw (keys_of_swap id_of xs last j c e)

  pub id_of_swap : (id_of : X → ℕ) (xs : List (X × ℕ)) (last : X) (j : ℕ) (c : X) → id_of c ≡ id_of (child_at xs last j) →
      id_of (swap_last xs last j c) ≡ id_of last
  id_of_swap id_of [] last j c e = e
  id_of_swap id_of (x ∷ xs) last zero c e = refl
  id_of_swap id_of (x ∷ xs) last (suc j) c e = id_of_swap id_of xs last j c e

  pub length_swap : (xs : List (X × ℕ)) (j : ℕ) (c : X) → length (swap_child xs j c) ≡ length xs
  length_swap [] j c = refl
  length_swap (x ∷ xs) zero c = refl
  length_swap (x ∷ xs) (suc j) c = ap suc (length_swap xs j c)

  pub join_of_swap : (pairs : X → List Pair) (xs : List (X × ℕ)) (last : X) (j : ℕ) (c : X) →
      join_of pairs (swap_child xs j c) (swap_last xs last j c) ≡ before pairs xs j ++ (pairs c ++ behind pairs xs last j)
  join_of_swap pairs [] last j c = sym (append-nil (pairs c))
  join_of_swap pairs (x ∷ xs) last zero c = refl
  join_of_swap pairs (x ∷ xs) last (suc j) c = rw (append_assoc, join_of_swap pairs xs last j c)

  pub sum_of_swap : (f : X → ℕ) (xs : List (X × ℕ)) (last : X) (j : ℕ) (c : X) →
      sum_of f (swap_child xs j c) (swap_last xs last j c) ≡ others f xs last j + f c
  sum_of_swap f [] last j c = omega arith
  sum_of_swap f (x ∷ xs) last zero c = omega arith
  sum_of_swap f (x ∷ xs) last (suc j) c = omega (arith, sum_of_swap f xs last j c)

  pub first_of_swap : (first : X → ℕ) (xs : List (X × ℕ)) (last : X) (j : ℕ) (c : X) → first c ≡ first (child_at xs last j) →
      first_of first (swap_child xs j c) (swap_last xs last j c) ≡ first_of first xs last
  first_of_swap first [] last j c e = e
  first_of_swap first (x ∷ xs) last zero c e = e
  first_of_swap first (x ∷ xs) last (suc j) c e = refl

  -- The child at a place replaced by two, with a new key between them; the last is then `swap_last` by the second.
  abbrev pub split_child : List (X × ℕ) → ℕ → X → ℕ → X → List (X × ℕ)
  split_child [] j a m b = (a, m) ∷ []
  split_child (x ∷ xs) zero a m b = (a, m) ∷ (b, x.1) ∷ xs
  split_child (x ∷ xs) (suc j) a m b = x ∷ split_child xs j a m b

  pub length-split : (xs : List (X × ℕ)) (j : ℕ) (a : X) (m : ℕ) (b : X) → length (split_child xs j a m b) ≡ suc (length xs)
  length-split [] j a m b = refl
  length-split (x ∷ xs) zero a m b = refl
  length-split (x ∷ xs) (suc j) a m b = ap suc (length-split xs j a m b)

  pub join_of-split : (pairs : X → List Pair) (xs : List (X × ℕ)) (last : X) (j : ℕ) (a : X) (m : ℕ) (b : X) →
      join_of pairs (split_child xs j a m b) (swap_last xs last j b) ≡ before pairs xs j ++ ((pairs a ++ pairs b) ++ behind pairs xs last j)
  join_of-split pairs [] last j a m b = sym (append-nil (pairs a ++ pairs b))
  join_of-split pairs (x ∷ xs) last zero a m b = sym (append_assoc (pairs a) (pairs b) (join_of pairs xs last))
  join_of-split pairs (x ∷ xs) last (suc j) a m b =
      rw (join_of-split pairs xs last j a m b)
      (sym (append_assoc (pairs x.0) (before pairs xs j) ((pairs a ++ pairs b) ++ behind pairs xs last j)))

  pub sum_of-split : (f : X → ℕ) (xs : List (X × ℕ)) (last : X) (j : ℕ) (a : X) (m : ℕ) (b : X) →
      sum_of f (split_child xs j a m b) (swap_last xs last j b) ≡ others f xs last j + (f a + f b)
  sum_of-split f [] last j a m b = omega arith
  sum_of-split f (x ∷ xs) last zero a m b = omega arith
  sum_of-split f (x ∷ xs) last (suc j) a m b = omega (arith, sum_of-split f xs last j a m b)

  pub first_of-split : (first : X → ℕ) (xs : List (X × ℕ)) (last : X) (j : ℕ) (a : X) (m : ℕ) (b : X) → first a ≡ first (child_at xs last j) →
      first_of first (split_child xs j a m b) (swap_last xs last j b) ≡ first_of first xs last
  first_of-split first [] last j a m b e = e
  first_of-split first (x ∷ xs) last zero a m b e = e
  first_of-split first (x ∷ xs) last (suc j) a m b e = refl

  pub within_split : (id_of : X → ℕ) (xs : List (X × ℕ)) (from low high j : ℕ) (a : X) (m : ℕ) (b : X) → from ≤ suc low →
      low_at xs low j < m → m < high_at xs high j → Within from high (keys_of id_of xs) → Within from high (keys_of id_of (split_child xs j a m b))
  unfolding Within
  within_split id_of [] from low high j a m b l g h w = (omega arith, omega arith, tt)
  within_split id_of (x ∷ xs) from low high zero a m b l g h w = (omega arith, omega arith, (h, w.1, w.2))
  within_split id_of (x ∷ xs) from low high (suc j) a m b l g h w =
      (w.0, w.1, within_split id_of xs (suc x.1) x.1 high j a m b (omega arith) g h w.2)

  -- The two edits of a branch make the keys of the two children: the new key with the left as pointer, then the slot that led
  -- to the left names the right, where it has a key and where it is the last.
  pub insert-split : (id_of : X → ℕ) (xs : List (X × ℕ)) (last : X) (from low high j : ℕ) (a : X) (m : ℕ) (b : X) → j < length xs →
      low_at xs low j < m → m < high_at xs high j → Within from high (keys_of id_of xs) →
      insert (key_at (keys_of id_of xs) j) (id_of b) (insert m (id_of a) (keys_of id_of xs)) ≡ keys_of id_of (split_child xs j a m b)
  unfolding Within
  insert-split id_of [] last from low high j a m b l g h w = absurd (omega arith)
  insert-split id_of (x ∷ xs) last from low high zero a m b l g h w =
      let p : Pair = (x.1, id_of x.0) in
      let ks = keys_of id_of xs in
      rw (insert-before m (id_of a) p ks h, insert-behind x.1 (id_of b) (m, id_of a) (p ∷ ks) h, insert_same x.1 (id_of b) p ks refl)
  insert-split id_of (x ∷ xs) last from low high (suc j) a m b l g h w =
      let p : Pair = (x.1, id_of x.0) in
      let ks = keys_of id_of xs in
      let far : x.1 ≤ low_at xs x.1 j = low_at_le id_of xs x.1 high j (within_tail from high p ks w) in
      let key : x.1 < key_at ks j = key_at-above ks (suc x.1) high j (omega (arith, length-keys_of id_of xs)) w.2 in
      rw (insert-behind m (id_of a) p ks (omega arith), insert-behind (key_at ks j) (id_of b) p (insert m (id_of a) ks) key)
      (ap {B = List Pair} (p ∷◌) (insert-split id_of xs last (suc x.1) x.1 high j a m b (omega arith) g h w.2))
    where
      key_at-above : (ks : List Pair) (from high j : ℕ) → j < length ks → Within from high ks → from ≤ key_at ks j
      key_at-above [] from high j l w = absurd (omega arith)
      key_at-above (k ∷ ks) from high zero l w = w.0
      key_at-above (k ∷ ks) from high (suc j) l w = omega (arith, w.0, key_at-above ks (suc k.0) high j (omega arith) w.2)

  pub insert-split-last : (id_of : X → ℕ) (xs : List (X × ℕ)) (from low high j : ℕ) (a : X) (m : ℕ) (b : X) → length xs ≤ j →
      low_at xs low j < m → Within from high (keys_of id_of xs) → insert m (id_of a) (keys_of id_of xs) ≡ keys_of id_of (split_child xs j a m b)
  unfolding Within insert
  insert-split-last id_of [] from low high j a m b l g w = refl
  insert-split-last id_of (x ∷ xs) from low high zero a m b l g w = absurd (omega arith)
  insert-split-last id_of (x ∷ xs) from low high (suc j) a m b l g w =
      let p : Pair = (x.1, id_of x.0) in
      let ks = keys_of id_of xs in
      let far : x.1 ≤ low_at xs x.1 j = low_at_le id_of xs x.1 high j (within_tail from high p ks w) in
      rw (insert-behind m (id_of a) p ks (omega arith))
      (ap {B = List Pair} (p ∷◌) (insert-split-last id_of xs (suc x.1) x.1 high j a m b (omega arith) g w.2))

  pub swap_last-inside : (xs : List (X × ℕ)) (last : X) (j : ℕ) (c : X) → j < length xs → swap_last xs last j c ≡ last
  swap_last-inside [] last j c l = absurd (omega arith)
  swap_last-inside (x ∷ xs) last zero c l = refl
  swap_last-inside (x ∷ xs) last (suc j) c l = swap_last-inside xs last j c (omega arith)

  pub swap_last-behind : (xs : List (X × ℕ)) (last : X) (j : ℕ) (c : X) → length xs ≤ j → swap_last xs last j c ≡ c
  swap_last-behind [] last j c l = refl
  swap_last-behind (x ∷ xs) last zero c l = absurd (omega arith)
  swap_last-behind (x ∷ xs) last (suc j) c l = swap_last-behind xs last j c (omega arith)

  -- What holds of each child carries over to another table: for a child that reaches only ids at which E holds.
  module _ (first : X → ℕ) (reach : X → ℕ → ℕ) (E : ℕ → Type 0) (S S' : X → ℕ → ℕ → ℕ → Type 0)
      (keep : (x : X) (low high next : ℕ) → ((i : ℕ) → 1 ≤ reach x i → E i) → S x low high next → S' x low high next) where
    pub each_keep : (xs : List (X × ℕ)) (last : X) (low high next : ℕ) → ((i : ℕ) → 1 ≤ sum_of (λ c. reach c i) xs last → E i) →
        EachChild first S xs last low high next → EachChild first S' xs last low high next
    each_keep [] last low high next h e = keep last low high next h e
    each_keep (x ∷ xs) last low high next h e = (
      keep x.0 low x.1 (first_of first xs last) (λ i l. h i (omega arith)) e.0,
      each_keep xs last x.1 high next (λ i l. h i (omega arith)) e.1,
    )

    pub each_swap : (xs : List (X × ℕ)) (last : X) (low high next j : ℕ) (c : X) → first c ≡ first (child_at xs last j) →
        ((i : ℕ) → 1 ≤ others (λ c. reach c i) xs last j → E i) → EachChild first S xs last low high next →
        S' c (low_at xs low j) (high_at xs high j) (next_at first xs last next j) →
        EachChild first S' (swap_child xs j c) (swap_last xs last j c) low high next
    each_swap [] last low high next j c f h e s = s
    each_swap (x ∷ xs) last low high next zero c f h e s = (s, each_keep xs last x.1 high next h e.1)
    each_swap (x ∷ xs) last low high next (suc j) c f h e s = (
      rw (first_of_swap first xs last j c f) (keep x.0 low x.1 (first_of first xs last) (λ i l. h i (omega arith)) e.0),
      each_swap xs last x.1 high next j c f (λ i l. h i (omega arith)) e.1 s,
    )

    pub each_split : (xs : List (X × ℕ)) (last : X) (low high next j : ℕ) (a : X) (m : ℕ) (b : X) → first a ≡ first (child_at xs last j) →
        ((i : ℕ) → 1 ≤ others (λ c. reach c i) xs last j → E i) → EachChild first S xs last low high next →
        S' a (low_at xs low j) m (first b) → S' b m (high_at xs high j) (next_at first xs last next j) →
        EachChild first S' (split_child xs j a m b) (swap_last xs last j b) low high next
    each_split [] last low high next j a m b f h e s r = (s, r)
    each_split (x ∷ xs) last low high next zero a m b f h e s r = (s, (r, each_keep xs last x.1 high next h e.1))
    each_split (x ∷ xs) last low high next (suc j) a m b f h e s r = (
      rw (first_of-split first xs last j a m b f) (keep x.0 low x.1 (first_of first xs last) (λ i l. h i (omega arith)) e.0),
      each_split xs last x.1 high next j a m b f (λ i l. h i (omega arith)) e.1 s r,
    )

  -- The children cut at a place: the child there is the last of the lower part, and its key stands between the parts.
  pub keys_of-take : (id_of : X → ℕ) (xs : List (X × ℕ)) (j : ℕ) → keys_of id_of (take j xs) ≡ take j (keys_of id_of xs)
  keys_of-take id_of [] zero = refl
  keys_of-take id_of [] (suc j) = refl
  keys_of-take id_of (x ∷ xs) zero = refl
  keys_of-take id_of (x ∷ xs) (suc j) = rw (keys_of-take id_of xs j)

  pub keys_of-drop : (id_of : X → ℕ) (xs : List (X × ℕ)) (j : ℕ) → keys_of id_of (drop j xs) ≡ drop j (keys_of id_of xs)
  keys_of-drop id_of [] zero = refl
  keys_of-drop id_of [] (suc j) = refl
  keys_of-drop id_of (x ∷ xs) zero = refl
  keys_of-drop id_of (x ∷ xs) (suc j) = keys_of-drop id_of xs j

  pub first_of_cut : (first : X → ℕ) (xs : List (X × ℕ)) (last : X) (j : ℕ) → j < length xs →
      first_of first (take j xs) (child_at xs last j) ≡ first_of first xs last
  first_of_cut first [] last j l = absurd (omega arith)
  first_of_cut first (x ∷ xs) last zero l = refl
  first_of_cut first (x ∷ xs) last (suc j) l = refl

  pub each_cut : (id_of first : X → ℕ) (S : X → ℕ → ℕ → ℕ → Type 0) (xs : List (X × ℕ)) (last : X) (low high next j : ℕ) → j < length xs →
      EachChild first S xs last low high next →
      EachChild first S (take j xs) (child_at xs last j) low (key_at (keys_of id_of xs) j) (first_of first (drop (suc j) xs) last)
      × EachChild first S (drop (suc j) xs) last (key_at (keys_of id_of xs) j) high next
  each_cut id_of first S [] last low high next j l e = absurd (omega arith)
  each_cut id_of first S (x ∷ xs) last low high next zero l e = (e.0, e.1)
  each_cut id_of first S (x ∷ xs) last low high next (suc j) l e =
      let r = each_cut id_of first S xs last x.1 high next j (omega arith) e.1 in
      ((rw (first_of_cut first xs last j (omega arith)) e.0, r.0), r.1)

  pub join_of_cut : (pairs : X → List Pair) (xs : List (X × ℕ)) (last : X) (j : ℕ) → j < length xs →
      join_of pairs (take j xs) (child_at xs last j) ++ join_of pairs (drop (suc j) xs) last ≡ join_of pairs xs last
  join_of_cut pairs [] last j l = absurd (omega arith)
  join_of_cut pairs (x ∷ xs) last zero l = refl
  join_of_cut pairs (x ∷ xs) last (suc j) l = rw (append_assoc, join_of_cut pairs xs last j (omega arith))

  pub sum_of_cut : (f : X → ℕ) (xs : List (X × ℕ)) (last : X) (j : ℕ) → j < length xs →
      sum_of f (take j xs) (child_at xs last j) + sum_of f (drop (suc j) xs) last ≡ sum_of f xs last
  sum_of_cut f [] last j l = absurd (omega arith)
  sum_of_cut f (x ∷ xs) last zero l = refl
  sum_of_cut f (x ∷ xs) last (suc j) l = omega (arith, sum_of_cut f xs last j (omega arith))
