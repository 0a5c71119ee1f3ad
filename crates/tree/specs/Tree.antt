-- A tree as a witness of what a table holds: by recursion on the depth, so that leaves at one depth come free. Assumes nothing.
use Rattle.std.specs.Prelude.{◌≡◌, List, [], ◌∷◌, ◌++◌, ℕ, zero, suc, ◌+◌, ◌≤◌, eqb, length}
use Rattle.laws.specs.Counts.{bit}
use Rattle.layout.specs.Layout.{most_keys}
use Rattle.pairs.specs.Pairs.{Pair, Within}
use Rattle.node.specs.declared.Shape.TheVariants.{Leaf, Branch}
use Rattle.node.specs.Node.{Node, node}
use Rattle.tree.specs.Table.{Table}

-- The children of a branch, over any kind of child: each but the last has the key above it.
module _ {X : Type 0} where
  -- The branch's pairs: each key with the id of the child for what is below it.
  abbrev pub keys_of : (X → ℕ) → List (X × ℕ) → List Pair
  keys_of id_of [] = []
  keys_of id_of (x ∷ xs) = (x.1, id_of x.0) ∷ keys_of id_of xs

  -- The first leaf of the first child.
  abbrev pub first_of : (X → ℕ) → List (X × ℕ) → X → ℕ
  first_of first [] last = first last
  first_of first (x ∷ xs) last = first x.0

  -- The children's pairs, left to right.
  abbrev pub join_of : (X → List Pair) → List (X × ℕ) → X → List Pair
  join_of pairs [] last = pairs last
  join_of pairs (x ∷ xs) last = pairs x.0 ++ join_of pairs xs last

  -- A number summed over the children.
  abbrev pub sum_of : (X → ℕ) → List (X × ℕ) → X → ℕ
  sum_of f [] last = f last
  sum_of f (x ∷ xs) last = f x.0 + sum_of f xs last

  -- Each child is as S says, between the keys beside it and before the first leaf of the next.
  abbrev pub EachChild : (X → ℕ) → (X → ℕ → ℕ → ℕ → Type 0) → List (X × ℕ) → X → ℕ → ℕ → ℕ → Type 0
  EachChild first S [] last low high next = S last low high next
  EachChild first S (x ∷ xs) last low high next = S x.0 low x.1 (first_of first xs last) × EachChild first S xs last x.1 high next

-- A leaf: id and pairs. A branch: id, children with the key above each, and the last child.
abbrev pub Tree : ℕ → Type 0
Tree zero = ℕ × List Pair
Tree (suc d) = ℕ × List (Tree d × ℕ) × Tree d

-- The id of the top.
unfoldable pub root_of : (d : ℕ) → Tree d → ℕ
root_of zero t = t.0
root_of (suc d) t = t.0

-- The id of the first leaf.
unfoldable pub first_leaf : (d : ℕ) → Tree d → ℕ
first_leaf zero t = t.0
first_leaf (suc d) t = first_of (first_leaf d) t.1 t.2

-- The pairs of all leaves, left to right.
unfoldable pub pairs_in : (d : ℕ) → Tree d → List Pair
pairs_in zero t = t.1
pairs_in (suc d) t = join_of (pairs_in d) t.1 t.2

-- How often an id is reached.
unfoldable pub reached : (d : ℕ) → Tree d → ℕ → ℕ
reached zero t i = bit (eqb i t.0)
reached (suc d) t i = bit (eqb i t.0) + sum_of (λ c. reached d c i) t.1 t.2

-- The table holds the tree, whose top has the content `top` and at most `most` keys: keys ascend from low up to below high, in
-- leaves and branches alike, a branch has at least one, and leaf links go in key order, to `next` after the last leaf.
unfoldable pub Holds : (d : ℕ) → Table → Tree d → ℕ → ℕ → ℕ → ℕ → Node → Type 0
Holds zero table t low high next most top = (top ≡ node Leaf t.1 next) × Within low high t.1 × (length t.1 ≤ most)
Holds (suc d) table t low high next most top =
    (top ≡ node Branch (keys_of (root_of d) t.1) (root_of d t.2))
    × Within low high (keys_of (root_of d) t.1)
    × (length t.1 ≤ most)
    × (1 ≤ length t.1)
    × EachChild (first_leaf d) (λ c lo hi nx. Holds d table c lo hi nx most_keys (table (root_of d c))) t.1 t.2 low high next

-- The same of a tree that stands in the table, its top too.
abbrev pub Stands : (d : ℕ) → Table → Tree d → ℕ → ℕ → ℕ → Type 0
Stands d table t low high next = Holds d table t low high next most_keys (table (root_of d t))
