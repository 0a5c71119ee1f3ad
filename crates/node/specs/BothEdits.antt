-- A full parent takes both edits of a child's split in its own split (document 01, "Nodes and tree"): the new key with the left
-- as pointer, and the old pointer to the left naming the right. They may be taken in either order, so the code renames the
-- pointer first and cuts the node with the new pair. Assumes nothing.
use Rattle.std.specs.Prelude.{◌≡◌, refl, List, [], ◌∷◌, ◌⊎◌, ℕ, ◌≤◌, ◌<◌, length}
use Rattle.std.proofs.Common.{sym, ap, ◌∙◌, inl, inr, arith, lt-ltb, le-ltb}
use Rattle.laws.specs.Order.{Tri, less, same, more, tri, le_or}
use Rattle.pairs.specs.Pairs.{Pair, insert}
use Rattle.pairs.specs.Clauses.{insert-before, insert_same, insert-behind}
use Rattle.node.specs.Node.{Node, node, pairs_of}
use Rattle.node.specs.Change.{put, change}
use Rattle.node.specs.Search.{key_at}
use Rattle.node.specs.Repoint.{repoint}

-- Two puts in front of the same pairs.
insert-front :
    (a x b y : ℕ) (ps : List Pair) → (a ≡ b → ⊥) → insert a x ps ≡ (a, x) ∷ ps → insert b y ps ≡ (b, y) ∷ ps →
    insert a x ((b, y) ∷ ps) ≡ insert b y ((a, x) ∷ ps)
insert-front a x b y ps n e f = go (tri a b)
  where
    go : Tri a b → insert a x ((b, y) ∷ ps) ≡ insert b y ((a, x) ∷ ps)
    go (less l) = insert-before a x (b, y) ps l ∙ sym (insert-behind b y (a, x) ps l ∙ ap {B = List Pair} ((a, x) ∷◌) f)
    go (same l) = absurd (n l)
    go (more l) = insert-behind a x (b, y) ps l ∙ ap {B = List Pair} ((b, y) ∷◌) e ∙ sym (insert-before b y (a, x) ps l)

-- Puts of two keys may change places.
pub insert_comm :
    (a x b y : ℕ) (ps : List Pair) → (a ≡ b → ⊥) → insert a x (insert b y ps) ≡ insert b y (insert a x ps)
unfolding insert
insert_comm a x b y [] n = insert-front a x b y [] n refl refl
insert_comm a x b y (p ∷ ps) n = go (tri a p.0) (tri b p.0) (insert_comm a x b y ps n)
  where
    go :
        Tri a p.0 → Tri b p.0 → insert a x (insert b y ps) ≡ insert b y (insert a x ps) →
        insert a x (insert b y (p ∷ ps)) ≡ insert b y (insert a x (p ∷ ps))
    go (less l) (less m) r =
        ap (insert a x) (insert-before b y p ps m) ∙
        insert-front a x b y (p ∷ ps) n (insert-before a x p ps l) (insert-before b y p ps m) ∙
        sym (ap (insert b y) (insert-before a x p ps l))
    go (less l) (same m) r =
        ap (insert a x) (insert_same b y p ps m) ∙
        insert-before a x (b, y) ps (omega arith) ∙
        sym
        (ap (insert b y) (insert-before a x p ps l) ∙
        insert-behind b y (a, x) (p ∷ ps) (omega arith) ∙
        ap {B = List Pair} ((a, x) ∷◌) (insert_same b y p ps m))
    go (less l) (more m) r =
        ap (insert a x) (insert-behind b y p ps m) ∙
        insert-before a x p (insert b y ps) l ∙
        sym
        (ap (insert b y) (insert-before a x p ps l) ∙
        insert-behind b y (a, x) (p ∷ ps) (omega arith) ∙
        ap {B = List Pair} ((a, x) ∷◌) (insert-behind b y p ps m))
    go (same l) (less m) r =
        ap (insert a x) (insert-before b y p ps m) ∙
        insert-behind a x (b, y) (p ∷ ps) (omega arith) ∙
        ap {B = List Pair} ((b, y) ∷◌) (insert_same a x p ps l) ∙
        sym (ap (insert b y) (insert_same a x p ps l) ∙ insert-before b y (a, x) ps (omega arith))
    go (same l) (same m) r = absurd (n (l ∙ sym m))
    go (same l) (more m) r =
        ap (insert a x) (insert-behind b y p ps m) ∙
        insert_same a x p (insert b y ps) l ∙
        sym (ap (insert b y) (insert_same a x p ps l) ∙ insert-behind b y (a, x) ps (omega arith))
    go (more l) (less m) r =
        ap (insert a x) (insert-before b y p ps m) ∙
        insert-behind a x (b, y) (p ∷ ps) (omega arith) ∙
        ap {B = List Pair} ((b, y) ∷◌) (insert-behind a x p ps l) ∙
        sym (ap (insert b y) (insert-behind a x p ps l) ∙ insert-before b y p (insert a x ps) m)
    go (more l) (same m) r =
        ap (insert a x) (insert_same b y p ps m) ∙
        insert-behind a x (b, y) ps (omega arith) ∙
        sym (ap (insert b y) (insert-behind a x p ps l) ∙ insert_same b y p (insert a x ps) m)
    go (more l) (more m) r =
        ap (insert a x) (insert-behind b y p ps m) ∙
        insert-behind a x p (insert b y ps) l ∙
        ap {B = List Pair} (p ∷◌) r ∙
        sym (ap (insert b y) (insert-behind a x p ps l) ∙ insert-behind b y p (insert a x ps) m)

-- The two edits of a parent, in either order.
pub repoint-put :
    (at right middle left : ℕ) (n : Node) → (key_at (pairs_of n) at ≡ middle → ⊥) →
    change (repoint at right n) (change (put middle left) n) ≡ change (put middle left) (change (repoint at right n) n)
unfolding repoint
repoint-put at right middle left (node shape ps l) h = go (le_or (length ps) at)
  where
    go :
        (length ps ≤ at) ⊎ (at < length ps) →
        change (repoint at right (node shape ps l)) (change (put middle left) (node shape ps l)) ≡
        change (put middle left) (change (repoint at right (node shape ps l)) (node shape ps l))
    go (inl m) = rw (le-ltb at (length ps) m, repoint)
    go (inr m) =
        rw (lt-ltb at (length ps) m, repoint)
        (ap (λ (qs : List Pair). node shape qs l) (insert_comm (key_at ps at) right middle left ps h))
