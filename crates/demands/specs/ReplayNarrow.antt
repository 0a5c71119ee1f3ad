-- Replaying pieces with 32-bit numbers makes a node with 32-bit numbers: no step adds a number of its own. Assumes nothing.
use Rattle.std.specs.Prelude.{Bool, true, false, List, [], ◌∷◌, leb, length}
use Rattle.std.proofs.Common.{arith}
use Rattle.laws.specs.Every.{Every, none, both}
use Rattle.layout.specs.Layout.{most_keys}
use Rattle.pairs.specs.Pairs.{Pair, insert}
use Rattle.node.specs.declared.Shape.TheVariants.{Leaf}
use Rattle.node.specs.Node.{node}
use Rattle.node.specs.Change.{Change, put, remove, link}
use Rattle.node.specs.Replay.{Piece, step, whole, Draft, unlinked, made, broken, if_fits, same_shape, redo, redo_piece, replay_from, replay}
use Rattle.node.specs.Narrow.{NarrowPair, Narrow, NarrowChange}
use Rattle.tree_laws.specs.NarrowLaws.{change_narrow}

-- A piece of a content.
abbrev pub NarrowPiece : Piece → Type 0
NarrowPiece (step c) = NarrowChange c
NarrowPiece (whole x) = Narrow x

-- A node being replayed.
abbrev pub NarrowDraft : Draft → Type 0
NarrowDraft (unlinked ps) = Every NarrowPair ps
NarrowDraft (made x) = Narrow x
NarrowDraft broken = Unit {0}

if_fits_narrow : (ps : List Pair) (d : Draft) → NarrowDraft d → NarrowDraft (if_fits ps d)
if_fits_narrow ps d n = go (leb (length ps) most_keys)
  where
    go : (t : Bool) → NarrowDraft (elim t [ true ↦ d | false ↦ broken ])
    go true = n
    go false = tt

-- pairs without a link are those of a node with some link
unlinked_node : (ps : List Pair) → Every NarrowPair ps → Narrow (node Leaf ps 0)
unlinked_node ps e = record { pairs = e; last = omega arith }

redo_narrow : (d : Draft) (c : Change) → NarrowDraft d → NarrowChange c → NarrowDraft (redo d c)
unfolding redo
redo_narrow broken c d n = tt
redo_narrow (unlinked ps) (put k p) d n =
    if_fits_narrow (insert k p ps) (unlinked (insert k p ps)) (change_narrow (put k p) (node Leaf ps 0) n (unlinked_node ps d)).pairs
redo_narrow (unlinked ps) (remove k) d n = (change_narrow (remove k) (node Leaf ps 0) n (unlinked_node ps d)).pairs
redo_narrow (unlinked ps) (link shape l) d n = record { pairs = d; last = n }
redo_narrow (made (node shape ps l)) (put k p) d n =
    if_fits_narrow (insert k p ps) (made (node shape (insert k p ps) l)) (change_narrow (put k p) (node shape ps l) n d)
redo_narrow (made (node shape ps l)) (remove k) d n = change_narrow (remove k) (node shape ps l) n d
redo_narrow (made (node shape ps l)) (link kind' l') d n = go (same_shape shape kind')
  where
    go : (t : Bool) → NarrowDraft (elim t [ true ↦ made (node shape ps l') | false ↦ broken ])
    go true = record { pairs = d.pairs; last = n }
    go false = tt

replay_from_narrow : (d : Draft) (xs : List Piece) → NarrowDraft d → Every NarrowPiece xs → NarrowDraft (replay_from d xs)
unfolding replay_from redo_piece
replay_from_narrow d [] n none = n
replay_from_narrow d (step c ∷ xs) n (both p e) = replay_from_narrow (redo d c) xs (redo_narrow d c n p) e
replay_from_narrow d (whole x ∷ xs) n (both p e) = replay_from_narrow (made x) xs p e

pub replay_narrow : (xs : List Piece) → Every NarrowPiece xs → NarrowDraft (replay xs)
unfolding replay
replay_narrow xs e = replay_from_narrow (unlinked []) xs none e
