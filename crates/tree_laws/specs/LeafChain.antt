-- The leaves by their links: from the leaf of a key on they spell what is left of the map behind the pairs below the key, and
-- they are at most as many as the tree has leaves. Assumes nothing.
use Rattle.std.specs.Prelude.{◌≡◌, refl, List, [], ◌∷◌, ◌++◌, ℕ, zero, suc, ◌+◌, ◌≤◌, ◌<◌}
use Rattle.std.proofs.Common.{append_assoc, arith}
use Rattle.layout.specs.Layout.{most_keys, no_leaf}
use Rattle.pairs.specs.Pairs.{Pair, Within}
use Rattle.pairs.proofs.Bounds.{within_append}
use Rattle.node.specs.declared.Shape.TheVariants.{Leaf}
use Rattle.node.specs.Node.{node}
use Rattle.tree.specs.Table.{Table, slot, leaf_for}
use Rattle.tree.specs.Tree.{keys_of, first_of, join_of, sum_of, EachChild, Tree, root_of, first_leaf, pairs_in, reached, Holds, Stands}
use Rattle.tree_laws.specs.Children.{child_at, low_at, next_at, before, behind, each_child_at, join_of-child_at, sum_of-child_at, slot_leads, before_within}
use Rattle.tree_laws.specs.Ids.{id-self}
use Rattle.tree_laws.specs.Standing.{stands_within}
use Rattle.tree_laws.specs.Size.{leaves}
use Rattle.tree_laws.specs.LeafOfKey.{child_of, child_for-branch, child_for-leaf, leaf_for-leaf, leaf_for_step}

-- A leaf whose link leads to more.
pub record Linked (table : Table) (count id : ℕ) (pairs : List Pair) (More : ℕ → List Pair → Type 0) : Type 0 where
  pub here : List Pair
  pub link : ℕ
  pub later : List Pair
  pub content : table id ≡ node Leaf here link
  pub used : id < count
  pub joined : pairs ≡ here ++ later
  pub more : More link later

-- So many leaves from an id on, with these pairs.
unfoldable pub Chain : ℕ → Table → ℕ → ℕ → List Pair → Type 0
Chain zero table count id pairs = (id ≡ no_leaf) × (pairs ≡ [])
Chain (suc n) table count id pairs = Linked table count id pairs (Chain n table count)

-- At most so many.
pub record Chained (most : ℕ) (table : Table) (count id : ℕ) (pairs : List Pair) : Type 0 where
  pub length : ℕ
  pub bounded : length ≤ most
  pub chain : Chain length table count id pairs

-- The children's leaves, one child after another.
module _ {X : Type 0} (table : Table) (count : ℕ) (first size : X → ℕ) (pairs : X → List Pair) (reach : X → ℕ → ℕ) (S : X → ℕ → ℕ → ℕ → Type 0)
    (child : (x : X) (low high next most : ℕ) (rest : List Pair) → ((i : ℕ) → 1 ≤ reach x i → i < count) → S x low high next →
    Chained most table count next rest → Chained (size x + most) table count (first x) (pairs x ++ rest)) where
  children_chain : (xs : List (X × ℕ)) (last : X) (low high next most : ℕ) (rest : List Pair) →
      ((i : ℕ) → 1 ≤ sum_of (λ c. reach c i) xs last → i < count) → EachChild first S xs last low high next → Chained most table count next rest →
      Chained (sum_of size xs last + most) table count (first_of first xs last) (join_of pairs xs last ++ rest)
  children_chain [] last low high next most rest u e c = child last low high next most rest u e c
  children_chain (x ∷ xs) last low high next most rest u e c =
      let r = children_chain xs last x.1 high next most rest (λ i l. u i (omega arith)) e.1 c in
      let s =
      child x.0 low x.1 (first_of first xs last) (sum_of size xs last + most) (join_of pairs xs last ++ rest) (λ i l. u i (omega arith))
      e.0 r in
      record { length = s.length; bounded = omega (arith, s.bounded); chain = rw append_assoc s.chain }

  -- the leaves behind the child at a place
  record Behind (xs : List (X × ℕ)) (last : X) (next most : ℕ) (rest : List Pair) (j : ℕ) : Type 0 where
    most' : ℕ
    bounded : most' + size (child_at xs last j) ≤ sum_of size xs last + most
    chained : Chained most' table count (next_at first xs last next j) (behind pairs xs last j ++ rest)

  behind_chain : (xs : List (X × ℕ)) (last : X) (low high next most : ℕ) (rest : List Pair) (j : ℕ) →
      ((i : ℕ) → 1 ≤ sum_of (λ c. reach c i) xs last → i < count) → EachChild first S xs last low high next → Chained most table count next rest →
      Behind xs last next most rest j
  behind_chain [] last low high next most rest j u e c = record { most' = most; bounded = omega arith; chained = c }
  behind_chain (x ∷ xs) last low high next most rest zero u e c =
      record {
        most' = sum_of size xs last + most;
        bounded = omega arith;
        chained = children_chain xs last x.1 high next most rest (λ i l. u i (omega arith)) e.1 c;
      }
  behind_chain (x ∷ xs) last low high next most rest (suc j) u e c =
      let r = behind_chain xs last x.1 high next most rest j (λ i l. u i (omega arith)) e.1 c in
      record { most' = r.most'; bounded = omega (arith, r.bounded); chained = r.chained }

tree_chain : (d : ℕ) (table : Table) (count : ℕ) (t : Tree d) (low high next most : ℕ) (rest : List Pair) → ((i : ℕ) → 1 ≤ reached d t i → i < count) →
    Stands d table t low high next → Chained most table count next rest →
    Chained (leaves d t + most) table count (first_leaf d t) (pairs_in d t ++ rest)
unfolding Holds first_leaf pairs_in leaves reached Chain root_of
tree_chain zero table count t low high next most rest u h c =
    record {
      length = suc c.length;
      bounded = omega (arith, c.bounded);
      chain =
          record {
            here = t.1;
            link = next;
            later = rest;
            content = h.0;
            used = u t.0 (omega (arith, id-self t.0));
            joined = refl;
            more = c.chain;
          };
    }
tree_chain (suc d) table count t low high next most rest u h c =
    children_chain table count (first_leaf d) (leaves d) (pairs_in d) (reached d) (Stands d table) (tree_chain d table count) t.1 t.2 low high
    next most rest (λ i l. u i (omega arith)) h.4 c

regroup : (a b c d e f : List Pair) → b ++ (c ++ d) ≡ e ++ f → (a ++ (b ++ c)) ++ d ≡ (a ++ e) ++ f
regroup a b c d e f h = simp append_assoc (rw h)

-- The leaf that a key leads to, with what is left from it on.
pub record Onward (d fuel : ℕ) (table : Table) (count k : ℕ) (t : Tree d) (low most : ℕ) (rest : List Pair) : Type 0 where
  pub skipped : List Pair
  pub left : List Pair
  pub bound : ℕ
  pub from : bound ≤ k
  pub above : low ≤ bound
  pub below : Within low bound skipped
  pub joined : pairs_in d t ++ rest ≡ skipped ++ left
  pub used : leaf_for fuel table k (root_of d t) < count
  pub chained : Chained (leaves d t + most) table count (leaf_for fuel table k (root_of d t)) left

pub onward : (d fuel : ℕ) (table : Table) (count k : ℕ) (t : Tree d) (low high next most : ℕ) (rest : List Pair) → low ≤ k → k < high → d ≤ fuel →
    ((i : ℕ) → 1 ≤ reached d t i → i < count) → Stands d table t low high next → Chained most table count next rest →
    Onward d fuel table count k t low most rest
unfolding root_of Holds reached pairs_in first_leaf Within leaves
onward zero fuel table count k t low high next most rest a b f u h c =
    record {
      skipped = [];
      left = t.1 ++ rest;
      bound = low;
      from = a;
      above = omega arith;
      below = tt;
      joined = refl;
      used = rw e (u t.0 (omega (arith, id-self t.0)));
      chained = rw e (tree_chain zero table count t low high next most rest u h c);
    }
  where
    e : leaf_for fuel table k t.0 ≡ t.0
    e = leaf_for-leaf table k fuel t.0 (child_for-leaf table t low high next most_keys k (table t.0) h)
onward (suc d) zero table count k t low high next most rest a b f u h c = absurd (omega arith)
onward (suc d) (suc fuel) table count k t low high next most rest a b f u h c =
    let xs = t.1 in
    let last = t.2 in
    let j = slot k (keys_of (root_of d) xs) in
    let x = child_of d t k in
    let e : leaf_for (suc fuel) table k t.0 ≡ leaf_for fuel table k (root_of d x) =
    leaf_for_step table k fuel t.0 (root_of d x) (child_for-branch d table t low high next most_keys k (table t.0) h) in
    let l = slot_leads (root_of d) k xs low high a b h.1 in
    let v =
    behind_chain table count (first_leaf d) (leaves d) (pairs_in d) (reached d) (Stands d table) (tree_chain d table count) xs last low high next
    most rest j (λ i y. u i (omega arith)) h.4 c in
    let r =
    onward d fuel table count k x _ _ _ v.most' (behind (pairs_in d) xs last j ++ rest) l.from l.to (omega arith)
    (λ i y. u i (omega (arith, sum_of-child_at (λ c. reached d c i) xs last j)))
    (each_child_at (first_leaf d) (Stands d table) xs last low high next j h.4) v.chained in
    record {
      skipped = before (pairs_in d) xs j ++ r.skipped;
      left = r.left;
      bound = r.bound;
      from = r.from;
      above = omega (arith, r.above, l.above);
      below =
          within_append low (low_at xs low j) r.bound (before (pairs_in d) xs j) r.skipped l.above r.above
          (before_within (root_of d) (first_leaf d) (pairs_in d) (Stands d table) (stands_within d table) xs last low high next j h.1 h.4)
          r.below;
      joined =
          rw (join_of-child_at (pairs_in d) xs last j)
          (regroup (before (pairs_in d) xs j) (pairs_in d x) (behind (pairs_in d) xs last j) rest r.skipped r.left r.joined);
      used = rw e r.used;
      chained =
          rw e
          record { length = r.chained.length; bounded = omega (arith, r.chained.bounded, v.bounded); chain = r.chained.chain };
    }
