-- A table of nodes by id, and the path from a node down to the leaf of a key (document 01, "Nodes and tree"). Assumes nothing.
use Rattle.std.specs.Prelude.{true, false, List, [], ◌∷◌, ℕ, zero, suc, ltb, Option, None, Some}
use Rattle.pairs.specs.Pairs.{Pair}
use Rattle.node.specs.declared.Shape.TheVariants.{Leaf, Branch}
use Rattle.node.specs.Node.{Node, node}
use Rattle.node.specs.Search.{pointer_at}

-- Ids run from 0 without gaps: of a table with a count, the entries below the count are the nodes, and node 0 is the root.
abbrev pub Table : Type 0
Table = ℕ → Node

-- The place among a branch's keys that a key leads to: the pointer at a key leads to what is below it and at or above the key
-- before, so it is the place of the first key above.
unfoldable pub slot : ℕ → List Pair → ℕ
slot k [] = 0
slot k (p ∷ ps) = elim (ltb k p.0) [ true ↦ 0 | false ↦ suc (slot k ps) ]

-- The child of a node that a key leads to; a leaf has none.
abbrev pub child_for : ℕ → Node → Option ℕ
child_for k (node Leaf ps next) = None
child_for k (node Branch ks last) = Some (pointer_at ks last (slot k ks))

-- The nodes from a node down to the leaf of a key, which every command reads. The fuel is the node count.
unfoldable pub path : ℕ → Table → ℕ → ℕ → List ℕ
path zero table k id = id ∷ []
path (suc fuel) table k id = id ∷ elim (child_for k (table id)) [ None ↦ [] | Some child ↦ path fuel table k child ]

-- The leaf of a key: the last of them.
unfoldable pub leaf_for : ℕ → Table → ℕ → ℕ → ℕ
leaf_for zero table k id = id
leaf_for (suc fuel) table k id = elim (child_for k (table id)) [ None ↦ id | Some child ↦ leaf_for fuel table k child ]
