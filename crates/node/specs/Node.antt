-- A tree node: leaf or branch, its pairs by ascending key, and its link (document 01, "Nodes and tree"). Assumes nothing.
use Rattle.std.specs.Prelude.{List, ℕ, ◌≤◌, length}
use Rattle.layout.specs.Layout.{most_keys, bound32}
use Rattle.pairs.specs.Pairs.{Pair, Within}
use Rattle.node.specs.declared.Shape.{Shape}

-- In a leaf a pair is a key and its value, and the link is the next leaf, FFFFFFFF after the last. In a branch a pair is a key
-- and the child for the keys below it, and the link is the last pointer, to the child for the rest.
pub data Node : Type 0 where
  node : Shape → List Pair → ℕ → Node

abbrev pub shape_of : Node → Shape
shape_of (node shape pairs link) = shape

abbrev pub pairs_of : Node → List Pair
pairs_of (node shape pairs link) = pairs

abbrev pub link_of : Node → ℕ
link_of (node shape pairs link) = link

-- A node whose keys ascend, are 32-bit numbers, and are at most 24.
pub record Neat (n : Node) : Type 0 where
  pub keys : Within 0 bound32 (pairs_of n)
  pub size : length (pairs_of n) ≤ most_keys
