-- The nodes due, visited from left to right: the keys of each begin where those of the one before it end, so one bound runs along. A branch that is
-- due can be entered and its children put in front of the rest: so the walk needs no recursion. Assumes nothing.
use Rattle.std.specs.Prelude.{◌≡◌, refl, true, false, List, [], ◌∷◌, ◌++◌, ℕ, suc, Option, None, Some}
use Rattle.std.proofs.Common.{sym}
use Rattle.pairs.specs.Pairs.{Pair}
use Rattle.node.specs.Node.{Node, pairs_of, link_of}
use Rattle.tree.specs.Table.{Table}
use Rattle.tree.specs.Sound.{Walk, visit_children, visit}
use Rattle.mount_tree.specs.declared.due.Due.{Due}
use Rattle.mount_tree.specs.Due.{children_of}
use Rattle.mount_tree.specs.Passes.{passes, marked, visit-fails, visit-leaf, visit-branch}

-- A walk that passed goes on.
abbrev pub and_then : Option Walk → (Walk → Option Walk) → Option Walk
and_then None next = None
and_then (Some w) next = next w

-- Each node due visited in turn; the number is the lowest key that the next one may have.
unfoldable pub visit_all : Table → List Due → ℕ → Walk → Option Walk
visit_all table [] low w = Some w
visit_all table (d ∷ ds) low w = and_then (visit d.depth table d.id low d.high w) (visit_all table ds d.high)

pub all_none : (table : Table) (low : ℕ) (w : Walk) → visit_all table [] low w ≡ Some w
unfolding visit_all
all_none table low w = refl

pub all_one : (table : Table) (d : Due) (low : ℕ) (w : Walk) → visit_all table (d ∷ []) low w ≡ visit d.depth table d.id low d.high w
unfolding visit_all
all_one table d low w = go (visit d.depth table d.id low d.high w)
  where
    go : (o : Option Walk) → and_then o (visit_all table [] d.high) ≡ o
    go None = refl
    go (Some v) = refl

-- The children of a branch in front of the rest: the children visited, then the rest.
all-children : (table : Table) (d : ℕ) (ds : List Due) (ps : List Pair) (last high low : ℕ) (w : Walk) →
    visit_all table (children_of d ps last high ++ ds) low w ≡ and_then (visit_children (visit d table) ps last low high w) (visit_all table ds high)
unfolding visit_all children_of visit_children
all-children table d ds [] last high low w = refl
all-children table d ds (p ∷ ps) last high low w = go (visit d table p.1 low p.0 w) refl (all-children table d ds ps last high p.0)
  where
    go : (o : Option Walk) → visit d table p.1 low p.0 w ≡ o →
        ((v : Walk) → visit_all table (children_of d ps last high ++ ds) p.0 v ≡
        and_then (visit_children (visit d table) ps last p.0 high v) (visit_all table ds high)) →
        visit_all table (children_of d (p ∷ ps) last high ++ ds) low w ≡
        and_then (visit_children (visit d table) (p ∷ ps) last low high w) (visit_all table ds high)
    go None e r = rw (e, visit_all, children_of, visit_children)
    go (Some v) e r = rw (e, visit_all, children_of, visit_children) (r v)

-- The first node due: it does not pass, or is a leaf, or a branch.
module _ (table : Table) (d : Due) (ds : List Due) (low : ℕ) (w : Walk) (n : Node) (is : n ≡ table d.id) where
  pub all-fails : passes d.depth d.id low d.high w n ≡ false → visit_all table (d ∷ ds) low w ≡ None
  unfolding visit_all
  all-fails e = rw (visit-fails table d.depth d.id low d.high w n is e)

  module _ (pass : passes d.depth d.id low d.high w n ≡ true) where
    pub all-leaf : d.depth ≡ 0 → visit_all table (d ∷ ds) low w ≡ visit_all table ds d.high (marked w d.id (link_of n))
    unfolding visit_all
    all-leaf z = rw (visit-leaf table d.depth d.id low d.high w n is pass z)

    pub all-branch : (below : ℕ) → d.depth ≡ suc below →
        visit_all table (d ∷ ds) low w ≡ visit_all table (children_of below (pairs_of n) (link_of n) d.high ++ ds) low (marked w d.id w.awaited)
    unfolding visit_all
    all-branch below z =
        rw (visit-branch table d.depth d.id low d.high w n is pass below z)
        (sym (all-children table below ds (pairs_of n) (link_of n) d.high low (marked w d.id w.awaited)))
