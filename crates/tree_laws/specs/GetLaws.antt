-- A get is a lookup in the map that the table spells, and its requests are reads of nodes that are there, at most as many as
-- nodes. Assumes nothing.
use Rattle.std.specs.Prelude.{◌≡◌, List, ℕ, suc, ◌≤◌, ◌<◌, length}
use Rattle.std.proofs.Math.Path.{sym, ap}
use Rattle.std.proofs.Common.{◌∙◌, arith}
use Rattle.laws.specs.Every.{Every}
use Rattle.layout.specs.Layout.{no_leaf, bound32}
use Rattle.pairs.specs.Pairs.{Pair, lookup, Within}
use Rattle.node.specs.Node.{Neat}
use Rattle.tree.specs.Table.{Table, path, leaf_for}
use Rattle.tree.specs.Get.{get_requests, get_answer}
use Rattle.tree.specs.Spells.{Spells}
use Rattle.tree_laws.specs.Ids.{used_in}
use Rattle.tree_laws.specs.Standing.{Proper, stands_proper, stands_within}
use Rattle.tree_laws.specs.Size.{spells_once, depth_count}
use Rattle.tree_laws.specs.LeafOfKey.{LeafOf, leaf_of_lem, lookup-leaf, path-used}
use Rattle.tree_laws.specs.Served.{Served, served-reads}

module _ (table : Table) (count : ℕ) (pairs : List Pair) (s : Spells table count pairs) where
  -- every node of a sound table is neat, and a branch among them has a key
  pub node_proper : (i : ℕ) → i < count → Proper (table i)
  node_proper i l =
      stands_proper s.depth table s.tree 0 bound32 no_leaf (omega arith) s.stands i (omega (arith, s.ids i, used_in count i l))

  pub node_neat : (i : ℕ) → i < count → Neat (table i)
  node_neat i l = (node_proper i l).neat

  -- its keys ascend, and have 32 bits
  pub pairs_within : Within 0 bound32 pairs
  pairs_within = rw s.spelled at (stands_within s.depth table s.tree 0 bound32 no_leaf (omega arith) s.stands)

  module _ (k : ℕ) (small : k < bound32) where
    pub leaf-found : LeafOf s.depth table s.tree k 0 bound32 (leaf_for count table k 0)
    leaf-found =
        rw s.root at
        (leaf_of_lem s.depth count table k s.tree 0 bound32 no_leaf (omega arith) small (omega (arith, depth_count table count pairs s)) s.stands)

    pub get-answer : get_answer count table k ≡ lookup k pairs
    unfolding get_answer
    get-answer =
        sym (lookup-leaf s.depth table s.tree k 0 bound32 (leaf_for count table k 0) leaf-found) ∙ ap (lookup k) s.spelled

    pub path-found : Every (λ i. i < count) (path count table k 0) × (length (path count table k 0) ≡ suc s.depth)
    path-found =
        rw s.root at
        (path-used s.depth count table count k s.tree 0 bound32 no_leaf (omega arith) small (omega (arith, depth_count table count pairs s))
        (spells_once table count pairs s) s.stands)

    pub get-served : (limit : ℕ) → count ≤ limit → Served limit table count (get_requests count table k) pairs
    get-served limit l = served-reads limit table count pairs (path count table k 0) l s path-found.0

    pub path-count : length (path count table k 0) ≤ count
    path-count = omega (arith, path-found.1, depth_count table count pairs s)
