-- A node of 25 keys in two (document 01, "Nodes and tree"). One definition of each half for both kinds of node, and their sizes.
-- Assumes nothing.
use Rattle.std.specs.Prelude.{◌≡◌, List, [], ◌∷◌, ◌++◌, ℕ, zero, suc, ◌+◌, ◌≤◌, length, take, drop}
use Rattle.std.proofs.Common.{arith, take-append-drop, length-take, length-drop}
use Rattle.layout.specs.Layout.{most_keys, kept_keys, bound32}
use Rattle.pairs.specs.Pairs.{Pair, Within}
use Rattle.pairs.proofs.Bounds.{within_weaken}
use Rattle.node.specs.declared.Shape.{Shape}
use Rattle.node.specs.declared.Shape.TheVariants.{Leaf, Branch}
use Rattle.node.specs.Node.{Node, node, pairs_of, Neat}
use Rattle.node.specs.Search.{key_at, pointer_at}

-- The lower half's link: a leaf's names the upper half; a branch's is the pointer of the key that rises.
abbrev pub lower_link : Shape → ℕ → ℕ → ℕ
lower_link Leaf upper rising = upper
lower_link Branch upper rising = rising

-- How many pairs stand before the upper half: of a branch the 13th goes to neither, its key rises.
abbrev pub upper_from : Shape → ℕ
upper_from Leaf = kept_keys
upper_from Branch = suc kept_keys

-- The first 12 pairs stay; the rest go up, 13 of a leaf, 12 of a branch.
unfoldable pub lower_half : Node → ℕ → Node
lower_half (node shape ps last) upper = node shape (take kept_keys ps) (lower_link shape upper (pointer_at ps last kept_keys))

unfoldable pub upper_half : Node → Node
upper_half (node shape ps last) = node shape (drop (upper_from shape) ps) last

-- The key between the halves: the upper leaf's first, or the one that rises.
unfoldable pub middle_key : Node → ℕ
middle_key n = key_at (pairs_of n) kept_keys

pub within_take : (n low high : ℕ) (ps : List Pair) → Within low high ps → Within low high (take n ps)
unfolding Within
within_take zero low high ps w = tt
within_take (suc n) low high [] w = tt
within_take (suc n) low high (p ∷ ps) w = (w.0, w.1, within_take n (suc p.0) high ps w.2)

pub within_drop : (n low high : ℕ) (ps : List Pair) → Within low high ps → Within low high (drop n ps)
unfolding Within
within_drop zero low high ps w = w
within_drop (suc n) low high [] w = tt
within_drop (suc n) low high (p ∷ ps) w =
    within_drop n low high ps (within_weaken (suc p.0) low high high ps (omega arith) (omega arith) w.2)

upper_from_le : (shape : Shape) → upper_from shape ≤ suc kept_keys
upper_from_le Leaf = omega arith
upper_from_le Branch = omega arith

le_upper_from : (shape : Shape) → kept_keys ≤ upper_from shape
le_upper_from Leaf = omega arith
le_upper_from Branch = omega arith

-- The sizes of the halves of 25 pairs.
module _ (shape : Shape) (ps : List Pair) (last upper : ℕ) (h : length ps ≡ suc most_keys) where
  pub length-lower_half : length (pairs_of (lower_half (node shape ps last) upper)) ≡ kept_keys
  unfolding lower_half
  length-lower_half = omega (arith, length-take kept_keys ps)

  pub length-upper_half : length (pairs_of (upper_half (node shape ps last))) + upper_from shape ≡ suc most_keys
  unfolding upper_half
  length-upper_half = omega (arith, length-drop (upper_from shape) ps, upper_from_le shape)

  -- Each half of ascending pairs is a neat node, of either kind.
  pub neat_lower_half : Within 0 bound32 ps → Neat (lower_half (node shape ps last) upper)
  unfolding lower_half
  neat_lower_half w = record { keys = within_take kept_keys 0 bound32 ps w; size = omega (arith, length-take kept_keys ps) }

  pub neat_upper_half : Within 0 bound32 ps → Neat (upper_half (node shape ps last))
  unfolding upper_half
  neat_upper_half w =
      record {
        keys = within_drop (upper_from shape) 0 bound32 ps w;
        size = omega (arith, length-drop (upper_from shape) ps, le_upper_from shape);
      }

-- A leaf's halves are its pairs, cut; document 01's 25 keys: 12 and 13.
pub halves_leaf : (ps : List Pair) (next upper : ℕ) →
    pairs_of (lower_half (node Leaf ps next) upper) ++ pairs_of (upper_half (node Leaf ps next)) ≡ ps
unfolding lower_half upper_half
halves_leaf ps next upper = take-append-drop kept_keys ps
