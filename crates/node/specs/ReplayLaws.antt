-- What the replay gives: a neat node from its own changes, and the changed node from one change more where it fits. One law for
-- both kinds of node. Assumes nothing.
use Rattle.std.specs.Prelude.{◌≡◌, true, List, [], ◌∷◌, ◌++◌, map, ℕ, suc, ◌+◌, ◌≤◌, ◌<◌, length}
use Rattle.std.proofs.Common.{refl, sym, ap, ◌∙◌, append-nil, append_assoc, arith, le-leb, length-append}
use Rattle.std.proofs.lemmas.Bool.{lt-leb}
use Rattle.layout.specs.Layout.{most_keys, bound32}
use Rattle.pairs.specs.Pairs.{Pair, insert, Within}
use Rattle.pairs.proofs.Bounds.{within_append}
use Rattle.pairs.proofs.LocalEdit.{insert-append-right}
use Rattle.node.specs.declared.Shape.{Shape}
use Rattle.node.specs.declared.Shape.TheVariants.{Leaf, Branch}
use Rattle.node.specs.Node.{Node, node, shape_of, pairs_of, Neat}
use Rattle.node.specs.Change.{Change, put, remove, link, change, puts, changes_of}
use Rattle.node.specs.Replay.{step, whole, Draft, unlinked, made, broken, if_fits, same_shape, redo, redo_piece, replay_from, replay}

pub if_fits-room : (ps : List Pair) (d : Draft) → length ps ≤ most_keys → if_fits ps d ≡ d
if_fits-room ps d h = rw (le-leb (length ps) most_keys h, if_fits)

pub if_fits-full : (ps : List Pair) (d : Draft) → most_keys < length ps → if_fits ps d ≡ broken
if_fits-full ps d h = rw (lt-leb (length ps) most_keys h, if_fits)

pub same_shape_refl : (shape : Shape) → same_shape shape shape ≡ true
same_shape_refl Leaf = refl
same_shape_refl Branch = refl

-- A change fits a node: at most 24 keys come of it, and a link is of the node's own kind.
abbrev pub Applies : Change → Node → Type 0
Applies (put k p) n = length (pairs_of (change (put k p) n)) ≤ most_keys
Applies (remove k) n = Unit {0}
Applies (link shape p) n = shape ≡ shape_of n

-- The replay of one edit on a node is the edited node.
pub redo-change : (c : Change) (n : Node) → Applies c n → redo (made n) c ≡ made (change c n)
unfolding redo
redo-change (put k p) (node shape ps l) h = if_fits-room (insert k p ps) (made (node shape (insert k p ps) l)) h
redo-change (remove k) (node shape ps l) h = refl
redo-change (link kind' p) (node shape ps l) h = rw (h, same_shape_refl shape, redo)

insert-last : (ps : List Pair) (low : ℕ) (p : Pair) → low ≤ p.0 → Within 0 low ps → insert p.0 p.1 ps ≡ ps ++ (p ∷ [])
unfolding insert
insert-last ps low p h w =
    ap (λ (qs : List Pair). insert p.0 p.1 qs) (sym (append-nil ps)) ∙ insert-append-right p.0 p.1 0 low ps [] h w

replay-puts :
    (shape : Shape) (l : ℕ) (ps done : List Pair) (low : ℕ) → Within 0 low done → Within low bound32 ps → length done + length ps ≤ most_keys →
    replay_from (unlinked done) (map step (puts ps ++ (link shape l ∷ []))) ≡ made (node shape (done ++ ps) l)
unfolding replay_from redo_piece redo Within
replay-puts shape l [] done low v w h = ap (λ (qs : List Pair). made (node shape qs l)) (sym (append-nil done))
replay-puts shape l (p ∷ ps) done low v w h =
    let e = insert-last done low p w.0 v in
    let size : length (insert p.0 p.1 done) ≡ length done + 1 = ap length e ∙ length-append done (p ∷ []) in
    let next = done ++ (p ∷ []) in
    let v' : Within 0 (suc p.0) next =
    within_append 0 low (suc p.0) done (p ∷ []) (omega arith) (omega (arith, w.0)) v (w.0, omega arith, tt) in
    let rest = replay-puts shape l ps next (suc p.0) v' w.2 (omega (arith, length-append done (p ∷ []))) in
    ap (λ (d : Draft). replay_from d (map step (puts ps ++ (link shape l ∷ []))))
    (if_fits-room (insert p.0 p.1 done) (unlinked (insert p.0 p.1 done)) (omega arith) ∙ ap unlinked e) ∙
    rest ∙
    ap (λ (qs : List Pair). made (node shape qs l)) (append_assoc done (p ∷ []) ps)

-- Replaying a node's changes gives the node: what a group of log entries spells.
pub replay-changes_of : (n : Node) → Neat n → replay (map step (changes_of n)) ≡ made n
unfolding replay Within
replay-changes_of (node shape ps l) h = replay-puts shape l ps [] 0 tt h.keys (omega (arith, h.size))

-- And a node page gives its node.
pub replay-whole : (n : Node) → replay (whole n ∷ []) ≡ made n
unfolding replay replay_from redo_piece
replay-whole n = refl
