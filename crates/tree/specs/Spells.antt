-- What a table spells: the map whose pairs stand in its leaves, left to right. Assumes nothing.
use Rattle.std.specs.Prelude.{◌≡◌, List, [], ◌∷◌, ◌++◌, ℕ, zero, suc, ltb}
use Rattle.laws.specs.Counts.{bit}
use Rattle.layout.specs.Layout.{no_leaf, bound32}
use Rattle.pairs.specs.Pairs.{Pair}
use Rattle.node.specs.declared.Shape.TheVariants.{Leaf, Branch}
use Rattle.node.specs.Node.{Node, node}
use Rattle.tree.specs.Table.{Table}
use Rattle.tree.specs.Tree.{Tree, root_of, pairs_in, reached, Stands}

-- A table with a count is a sound tree with these pairs: from node 0, for all 32-bit keys, FFFFFFFF after the last leaf, every
-- id below the count reached once and no other.
pub record Spells (table : Table) (count : ℕ) (pairs : List Pair) : Type 0 where
  pub depth : ℕ
  pub tree : Tree depth
  pub stands : Stands depth table tree 0 bound32 no_leaf
  pub root : root_of depth tree ≡ 0
  pub ids : (i : ℕ) → reached depth tree i ≡ bit (ltb i count)
  pub spelled : pairs_in depth tree ≡ pairs

-- The pairs below all pointers of a branch, in order.
unfoldable pub join_pointers : (ℕ → List Pair) → List Pair → ℕ → List Pair
join_pointers below [] last = below last
join_pointers below (p ∷ ps) last = below p.1 ++ join_pointers below ps last

-- The pairs that a node leads to: a leaf's own, or those below a branch's pointers.
unfoldable pub pairs_of_node : (ℕ → List Pair) → Node → List Pair
pairs_of_node below (node Leaf ps next) = ps
pairs_of_node below (node Branch ks last) = join_pointers below ks last

-- The pairs below an id, computed. The fuel is the node count.
unfoldable pub pairs_below : ℕ → Table → ℕ → List Pair
pairs_below zero table id = []
pairs_below (suc fuel) table id = pairs_of_node (pairs_below fuel table) (table id)

-- The map of a sound table.
abbrev pub map_of : ℕ → Table → List Pair
map_of count table = pairs_below count table 0
