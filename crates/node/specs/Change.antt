-- One change of a node: what one log entry says (document 01, "Log page"). Assumes nothing.
use Rattle.std.specs.Prelude.{◌≡◌, List, [], ◌∷◌, ◌++◌, ℕ}
use Rattle.pairs.specs.Pairs.{Pair, insert, delete}
use Rattle.node.specs.declared.Shape.{Shape}
use Rattle.node.specs.Node.{Node, node, shape_of}

-- Kind 1 adds a key or replaces its pointer; 2 drops it if it is there; 3 sets a leaf's link and 4 a branch's last pointer.
pub data Change : Type 0 where
  put : ℕ → ℕ → Change
  remove : ℕ → Change
  link : Shape → ℕ → Change

-- a node after a change
abbrev pub change : Change → Node → Node
change (put k p) (node shape pairs l) = node shape (insert k p pairs) l
change (remove k) (node shape pairs l) = node shape (delete k pairs) l
change (link kind' p) (node shape pairs l) = node shape pairs p

-- A change suits a node: kind 3 sets a leaf's link and kind 4 a branch's last pointer, never the other way.
abbrev pub Suits : Change → Node → Type 0
Suits (put k p) n = Unit {0}
Suits (remove k) n = Unit {0}
Suits (link shape p) n = shape ≡ shape_of n

-- the changes that spell a node from nothing: "pairs ascending, link last"
abbrev pub puts : List Pair → List Change
puts [] = []
puts (p ∷ ps) = put p.0 p.1 ∷ puts ps

abbrev pub changes_of : Node → List Change
changes_of (node shape pairs l) = puts pairs ++ (link shape l ∷ [])
