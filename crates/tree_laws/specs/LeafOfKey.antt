-- The leaf that a key leads to in a tree that stands: the path to it, and the pairs before it, in it and behind it, which the
-- bounds on the path keep apart. Assumes nothing.
use Rattle.std.specs.Prelude.{◌≡◌, length, None, Some}
use Rattle.std.proofs.Math.Path.{refl}
use Rattle.std.proofs.Common.{sym, ap, ◌∙◌, arith}
use mathlib.Core.List.{List, [], ◌∷◌, ◌++◌, append_assoc, append-nil}
use Prim.Native.Nat.{ℕ, zero, suc, ◌≤◌, ◌<◌}
use Rattle.laws.specs.Every.{Every, none, both}
use Rattle.layout.specs.Layout.{most_keys}
use Rattle.pairs.specs.Pairs.{Pair, lookup, Within}
use Rattle.pairs.proofs.Bounds.{within_append}
use Rattle.pairs.proofs.LocalEdit.{lookup-append-left, lookup-append-right}
use Rattle.node.specs.declared.Shape.TheVariants.{Leaf}
use Rattle.node.specs.Node.{Node, node, pairs_of}
use Rattle.tree.specs.Table.{Table, slot, child_for, path, leaf_for}
use Rattle.tree.specs.Tree.{keys_of, Tree, root_of, first_leaf, pairs_in, Holds, Stands}
use Rattle.tree_laws.specs.Children.{child_at, low_at, high_at, before, behind, pointer_at-keys_of, each_child_at, join_of-child_at, slot_leads}
use Rattle.tree_laws.specs.Children.{before_within, behind_within}
use Rattle.tree_laws.specs.Standing.{Once, root-used, once_child, stands_within}

-- The child of a standing branch that a key leads to.
abbrev pub child_of : (d : ℕ) → Tree (suc d) → ℕ → Tree d
child_of d t k = child_at t.1 t.2 (slot k (keys_of (root_of d) t.1))

pub child_for-branch : (d : ℕ) (table : Table) (t : Tree (suc d)) (low high next most k : ℕ) (top : Node) →
    Holds (suc d) table t low high next most top → child_for k top ≡ Some (root_of d (child_of d t k))
unfolding Holds
child_for-branch d table t low high next most k top h =
    rw h.0 (ap Some (pointer_at-keys_of (root_of d) t.1 t.2 (slot k (keys_of (root_of d) t.1))))

pub child_for-leaf : (table : Table) (t : Tree zero) (low high next most k : ℕ) (top : Node) →
    Holds zero table t low high next most top → child_for k top ≡ None
unfolding Holds
child_for-leaf table t low high next most k top h = rw h.0

-- The path and the leaf, a step at a time.
module _ (table : Table) (k fuel id : ℕ) where
  pub path-leaf : child_for k (table id) ≡ None → path fuel table k id ≡ id ∷ []
  unfolding path
  path-leaf e = go fuel
    where
      go : (fuel : ℕ) → path fuel table k id ≡ id ∷ []
      go zero = refl
      go (suc fuel) = rw (e, path)

  pub path_step : (child : ℕ) → child_for k (table id) ≡ Some child → path (suc fuel) table k id ≡ id ∷ path fuel table k child
  unfolding path
  path_step child e = rw (e, path)

  pub leaf_for-leaf : child_for k (table id) ≡ None → leaf_for fuel table k id ≡ id
  unfolding leaf_for
  leaf_for-leaf e = go fuel
    where
      go : (fuel : ℕ) → leaf_for fuel table k id ≡ id
      go zero = refl
      go (suc fuel) = rw (e, leaf_for)

  pub leaf_for_step : (child : ℕ) → child_for k (table id) ≡ Some child → leaf_for (suc fuel) table k id ≡ leaf_for fuel table k child
  unfolding leaf_for
  leaf_for_step child e = rw (e, leaf_for)

-- What is known of the leaf of a key.
pub record LeafOf (d : ℕ) (table : Table) (t : Tree d) (k low high leaf : ℕ) : Type 0 where
  pub pairs : List Pair
  pub link : ℕ
  pub earlier : List Pair
  pub later : List Pair
  pub bottom : ℕ
  pub top : ℕ
  pub content : table leaf ≡ node Leaf pairs link
  pub within : Within bottom top pairs
  pub size : length pairs ≤ most_keys
  pub above : low ≤ bottom
  pub from : bottom ≤ k
  pub to : k < top
  pub under : top ≤ high
  pub below : Within low bottom earlier
  pub beyond : Within top high later
  pub joined : pairs_in d t ≡ earlier ++ (pairs ++ later)

pub leaf_of_lem : (d fuel : ℕ) (table : Table) (k : ℕ) (t : Tree d) (low high next : ℕ) → low ≤ k → k < high → d ≤ fuel → Stands d table t low high next →
    LeafOf d table t k low high (leaf_for fuel table k (root_of d t))
unfolding Holds root_of pairs_in Within
leaf_of_lem zero fuel table k t low high next a b f h =
    rw (leaf_for-leaf table k fuel t.0 (rw h.0))
    record {
      pairs = t.1;
      link = next;
      earlier = [];
      later = [];
      bottom = low;
      top = high;
      content = h.0;
      within = h.1;
      size = h.2;
      above = omega arith;
      from = a;
      to = b;
      under = omega arith;
      below = tt;
      beyond = tt;
      joined = sym (append-nil t.1);
    }
leaf_of_lem (suc d) zero table k t low high next a b f h = absurd (omega arith)
leaf_of_lem (suc d) (suc fuel) table k t low high next a b f h =
    let j = slot k (keys_of (root_of d) t.1) in
    let c = child_of d t k in
    let l = slot_leads (root_of d) k t.1 low high a b h.1 in
    let r = leaf_of_lem d fuel table k c _ _ _ l.from l.to (omega arith) (each_child_at (first_leaf d) (Stands d table) t.1 t.2 low high next j h.4) in
    rw (leaf_for_step table k fuel t.0 (root_of d c) (child_for-branch d table t low high next most_keys k (table t.0) h))
    record {
      pairs = r.pairs;
      link = r.link;
      earlier = before (pairs_in d) t.1 j ++ r.earlier;
      later = r.later ++ behind (pairs_in d) t.1 t.2 j;
      bottom = r.bottom;
      top = r.top;
      content = r.content;
      within = r.within;
      size = r.size;
      above = omega (arith, l.above, r.above);
      from = r.from;
      to = r.to;
      under = omega (arith, l.under, r.under);
      below =
          within_append low (low_at t.1 low j) r.bottom (before (pairs_in d) t.1 j) r.earlier l.above r.above
          (before_within (root_of d) (first_leaf d) (pairs_in d) (Stands d table) (stands_within d table) t.1 t.2 low high next j h.1 h.4) r.below;
      beyond =
          within_append r.top (high_at t.1 high j) high r.later (behind (pairs_in d) t.1 t.2 j) r.under l.under r.beyond
          (behind_within (root_of d) (first_leaf d) (pairs_in d) (Stands d table) (stands_within d table) t.1 t.2 low high next j (omega arith)
          h.1 h.4);
      joined = rw (join_of-child_at (pairs_in d) t.1 t.2 j, r.joined) (simp append_assoc);
    }

-- A lookup among all pairs is one in the leaf.
pub lookup-leaf : (d : ℕ) (table : Table) (t : Tree d) (k low high leaf : ℕ) (l : LeafOf d table t k low high leaf) →
    lookup k (pairs_in d t) ≡ lookup k (pairs_of (table leaf))
lookup-leaf d table t k low high leaf l =
    rw (l.joined, l.content)
    (lookup-append-right k low l.bottom l.earlier (l.pairs ++ l.later) l.from l.below ∙
    lookup-append-left k l.top high l.pairs l.later l.to l.beyond)

-- The nodes of a path are in use, and one more than the depth.
pub path-used : (d fuel : ℕ) (table : Table) (count k : ℕ) (t : Tree d) (low high next : ℕ) → low ≤ k → k < high → d ≤ fuel → Once d count t →
    Stands d table t low high next → Every (λ i. i < count) (path fuel table k (root_of d t)) × (length (path fuel table k (root_of d t)) ≡ suc d)
unfolding Holds root_of
path-used zero fuel table count k t low high next a b f o h =
    rw (path-leaf table k fuel t.0 (rw h.0)) (both (root-used zero count t o) none, refl)
path-used (suc d) zero table count k t low high next a b f o h = absurd (omega arith)
path-used (suc d) (suc fuel) table count k t low high next a b f o h =
    let j = slot k (keys_of (root_of d) t.1) in
    let c = child_of d t k in
    let l = slot_leads (root_of d) k t.1 low high a b h.1 in
    let r =
    path-used d fuel table count k c _ _ _ l.from l.to (omega arith) (once_child d count t j o)
    (each_child_at (first_leaf d) (Stands d table) t.1 t.2 low high next j h.4) in
    rw (path_step table k fuel t.0 (root_of d c) (child_for-branch d table t low high next most_keys k (table t.0) h))
    (both (root-used (suc d) count t o) r.0, ap suc r.1)
