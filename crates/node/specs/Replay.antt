-- What the entries of a node's greatest version spell, taken one by one (document 01, "Sound"). Assumes nothing.
use Rattle.std.specs.Prelude.{Bool, true, false, List, [], ◌∷◌, leb, length}
use Rattle.layout.specs.Layout.{most_keys}
use Rattle.pairs.specs.Pairs.{Pair, insert, delete}
use Rattle.node.specs.declared.Shape.{Shape}
use Rattle.node.specs.declared.Shape.TheVariants.{Leaf, Branch}
use Rattle.node.specs.Node.{Node, node}
use Rattle.node.specs.Change.{Change, put, remove, link}

-- A piece of a node's content: one log entry's change, or a node page with the whole.
pub data Piece : Type 0 where
  step : Change → Piece
  whole : Node → Piece

-- A node being replayed: pairs whose link is not set yet; a node; or no node, since a 25th key was there for a moment or the
-- link was set by both kinds ("at most 24 keys after every entry", "each content's link set, by kind 3 or kind 4 alone").
pub data Draft : Type 0 where
  unlinked : List Pair → Draft
  made : Node → Draft
  broken : Draft

abbrev pub if_fits : List Pair → Draft → Draft
if_fits pairs draft = elim (leb (length pairs) most_keys) [ true ↦ draft | false ↦ broken ]

abbrev pub same_shape : Shape → Shape → Bool
same_shape Leaf Leaf = true
same_shape Leaf Branch = false
same_shape Branch Leaf = false
same_shape Branch Branch = true

-- one change more
unfoldable pub redo : Draft → Change → Draft
redo broken c = broken
redo (unlinked ps) (put k p) = if_fits (insert k p ps) (unlinked (insert k p ps))
redo (unlinked ps) (remove k) = unlinked (delete k ps)
redo (unlinked ps) (link shape l) = made (node shape ps l)
redo (made (node shape ps l)) (put k p) = if_fits (insert k p ps) (made (node shape (insert k p ps) l))
redo (made (node shape ps l)) (remove k) = made (node shape (delete k ps) l)
redo (made (node shape ps l)) (link kind' l') = elim (same_shape shape kind') [ true ↦ made (node shape ps l') | false ↦ broken ]

-- one piece more; a node page stands alone in its version
unfoldable pub redo_piece : Draft → Piece → Draft
redo_piece d (step c) = redo d c
redo_piece d (whole n) = made n

unfoldable pub replay_from : Draft → List Piece → Draft
replay_from d [] = d
replay_from d (x ∷ xs) = replay_from (redo_piece d x) xs

unfoldable pub replay : List Piece → Draft
replay xs = replay_from (unlinked []) xs
