-- What one change more spells, and a node's changes as a list: the first, and how many. Assumes nothing.
use Rattle.std.specs.Prelude.{◌≡◌, refl, List, [], ◌∷◌, ◌++◌, suc, ◌≤◌, length}
use Rattle.std.proofs.Common.{ap, arith}
use Rattle.layout.specs.Layout.{most_entries}
use Rattle.pairs.specs.Pairs.{Pair}
use Rattle.node.specs.Node.{Node, node, pairs_of, Neat}
use Rattle.node.specs.Change.{Change, put, remove, link, Suits, change, puts, changes_of}
use Rattle.node.specs.Replay.{Piece, step, Draft, unlinked, made, redo, redo_piece, replay_from, replay}
use Rattle.node.specs.ReplayLaws.{Applies, redo-change}

replay_from-snoc : (d : Draft) (xs : List Piece) (c : Change) → replay_from d (xs ++ (step c ∷ [])) ≡ redo (replay_from d xs) c
unfolding replay_from redo_piece
replay_from-snoc d [] c = refl
replay_from-snoc d (x ∷ xs) c = replay_from-snoc (redo_piece d x) xs c

pub replay_snoc : (xs : List Piece) (c : Change) → replay (xs ++ (step c ∷ [])) ≡ redo (replay xs) c
unfolding replay
replay_snoc xs c = replay_from-snoc (unlinked []) xs c

-- A change that suits a node and leaves a neat one applies to it.
applies : (c : Change) (x : Node) → Suits c x → Neat (change c x) → Applies c x
applies (put k p) (node shape ps l) s h = h.size
applies (remove k) (node shape ps l) s h = tt
applies (link kind' p) (node shape ps l) s h = s

pub redo-made : (c : Change) (x : Node) → Suits c x → Neat (change c x) → redo (made x) c ≡ made (change c x)
redo-made c x s h = redo-change c x (applies c x s h)

-- A node's changes: one first, and as many as it has pairs and a link.
length-puts : (ps : List Pair) (c : Change) → length (puts ps ++ (c ∷ [])) ≡ suc (length ps)
length-puts [] c = refl
length-puts (p ∷ ps) c = ap suc (length-puts ps c)

pub length-changes_of : (x : Node) → length (changes_of x) ≡ suc (length (pairs_of x))
length-changes_of (node shape ps l) = length-puts ps (link shape l)

pub record Spelled (x : Node) : Type 0 where
  pub first : Change
  pub rest : List Change
  pub is : changes_of x ≡ first ∷ rest

pub spelled : (x : Node) → Spelled x
spelled (node shape [] l) = record { first = link shape l; rest = []; is = refl }
spelled (node shape (p ∷ ps) l) = record { first = put p.0 p.1; rest = puts ps ++ (link shape l ∷ []); is = refl }

-- a neat node's changes fit in the buffer
pub neat_fits : (x : Node) → Neat x → length (changes_of x) ≤ most_entries
neat_fits x h = omega (arith, length-changes_of x, h.size)
