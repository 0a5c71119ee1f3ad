-- The levels of a sound tree: every branch has at least two children, so leaves at depth d take 2^(d+1) − 1 nodes; and one step less than there are nodes
-- is fuel enough for every way down. Assumes nothing.
use Rattle.std.specs.Prelude.{◌≡◌, true, length}
use Rattle.std.proofs.Common.{ap, arith}
use mathlib.Core.List.{List, [], ◌∷◌}
use Prim.Native.Nat.{ℕ, zero, suc, ◌*◌, ◌-◌, ◌≤◌, ◌<◌}
use Rattle.layout.specs.Layout.{most_keys, no_leaf, bound32}
use Rattle.tree.specs.Table.{Table, slot, path, leaf_for}
use Rattle.tree.specs.Tree.{keys_of, first_of, sum_of, EachChild, Tree, root_of, first_leaf, Holds, Stands}
use Rattle.tree.specs.Spells.{Spells, map_of}
use Rattle.tree.specs.Sound.{sound}
use Rattle.tree_laws.specs.Children.{each_child_at}
use Rattle.tree_laws.specs.LeafOfKey.{child_of, child_for-branch, path-leaf, path_step, leaf_for-leaf, leaf_for_step}
use Rattle.tree_laws.specs.Size.{size, depth_count}
use Rattle.tree_laws.specs.SoundLaws.{sound_spells}

-- The fewest nodes of a tree whose leaves are at a depth: 2^(d+1) − 1.
abbrev pub fewest_nodes : ℕ → ℕ
fewest_nodes zero = 1
fewest_nodes (suc d) = suc (2 * fewest_nodes d)

-- Two children at least, each with so many nodes.
module _ {X : Type 0} (first : X → ℕ) (S : X → ℕ → ℕ → ℕ → Type 0) (size : X → ℕ) (least : ℕ)
    (child : (x : X) (low high next : ℕ) → S x low high next → least ≤ size x) where
  one-child : (xs : List (X × ℕ)) (last : X) (low high next : ℕ) → EachChild first S xs last low high next → least ≤ sum_of size xs last
  one-child [] last low high next e = child last low high next e
  one-child (x ∷ xs) last low high next e = omega (arith, child x.0 low x.1 (first_of first xs last) e.0)

  two_children : (xs : List (X × ℕ)) (last : X) (low high next : ℕ) → 1 ≤ length xs → EachChild first S xs last low high next →
      2 * least ≤ sum_of size xs last
  two_children [] last low high next l e = absurd (omega arith)
  two_children (x ∷ xs) last low high next l e =
      omega (arith, child x.0 low x.1 (first_of first xs last) e.0, one-child xs last x.1 high next e.1)

pub stands_fewest : (d : ℕ) (table : Table) (t : Tree d) (low high next : ℕ) → Stands d table t low high next → fewest_nodes d ≤ size d t
unfolding Holds size
stands_fewest zero table t low high next h = omega arith
stands_fewest (suc d) table t low high next h =
    omega (
      arith,
      two_children (first_leaf d) (Stands d table) (size d) (fewest_nodes d) (stands_fewest d table) t.1 t.2 low high next h.3 h.4,
    )

-- A way down in a tree that stands is the same with any fuel that is enough.
module _ (table : Table) (k : ℕ) where
  path_fuel : (d fuel fuel' : ℕ) (t : Tree d) (low high next : ℕ) → d ≤ fuel → d ≤ fuel' → Stands d table t low high next →
      path fuel table k (root_of d t) ≡ path fuel' table k (root_of d t)
  unfolding Holds root_of
  path_fuel zero fuel fuel' t low high next f f' h =
      rw (path-leaf table k fuel t.0 (rw h.0), path-leaf table k fuel' t.0 (rw h.0))
  path_fuel (suc d) zero fuel' t low high next f f' h = absurd (omega arith)
  path_fuel (suc d) (suc fuel) zero t low high next f f' h = absurd (omega arith)
  path_fuel (suc d) (suc fuel) (suc fuel') t low high next f f' h =
      let e = child_for-branch d table t low high next most_keys k (table t.0) h in
      rw (path_step table k fuel t.0 (root_of d (child_of d t k)) e, path_step table k fuel' t.0 (root_of d (child_of d t k)) e)
      (ap {B = List ℕ} (t.0 ∷◌)
      (path_fuel d fuel fuel' (child_of d t k) _ _ _ (omega arith) (omega arith)
      (each_child_at (first_leaf d) (Stands d table) t.1 t.2 low high next (slot k (keys_of (root_of d) t.1)) h.4)))

  leaf_for_fuel : (d fuel fuel' : ℕ) (t : Tree d) (low high next : ℕ) → d ≤ fuel → d ≤ fuel' → Stands d table t low high next →
      leaf_for fuel table k (root_of d t) ≡ leaf_for fuel' table k (root_of d t)
  unfolding Holds root_of
  leaf_for_fuel zero fuel fuel' t low high next f f' h =
      rw (leaf_for-leaf table k fuel t.0 (rw h.0), leaf_for-leaf table k fuel' t.0 (rw h.0))
  leaf_for_fuel (suc d) zero fuel' t low high next f f' h = absurd (omega arith)
  leaf_for_fuel (suc d) (suc fuel) zero t low high next f f' h = absurd (omega arith)
  leaf_for_fuel (suc d) (suc fuel) (suc fuel') t low high next f f' h =
      let e = child_for-branch d table t low high next most_keys k (table t.0) h in
      rw (leaf_for_step table k fuel t.0 (root_of d (child_of d t k)) e, leaf_for_step table k fuel' t.0 (root_of d (child_of d t k)) e)
      (leaf_for_fuel d fuel fuel' (child_of d t k) _ _ _ (omega arith) (omega arith)
      (each_child_at (first_leaf d) (Stands d table) t.1 t.2 low high next (slot k (keys_of (root_of d) t.1)) h.4))

-- A sound table: the depth of its leaves is below the count, so one step less than there are nodes is fuel enough for every way down.
module _ (limit count : ℕ) (table : Table) (s : sound limit count table ≡ true) where
  spelled : Spells table count (map_of count table)
  spelled = sound_spells limit count table s

  below : spelled.depth < count
  below = depth_count table count (map_of count table) spelled

  pub path_enough : (k fuel : ℕ) → count - 1 ≤ fuel → path fuel table k 0 ≡ path count table k 0
  path_enough k fuel l =
      rw spelled.root at
      (path_fuel table k spelled.depth fuel count spelled.tree 0 bound32 no_leaf (omega (arith, below)) (omega (arith, below)) spelled.stands)

  pub leaf_for_enough : (k fuel : ℕ) → count - 1 ≤ fuel → leaf_for fuel table k 0 ≡ leaf_for count table k 0
  leaf_for_enough k fuel l =
      rw spelled.root at
      (leaf_for_fuel table k spelled.depth fuel count spelled.tree 0 bound32 no_leaf (omega (arith, below)) (omega (arith, below)) spelled.stands)
