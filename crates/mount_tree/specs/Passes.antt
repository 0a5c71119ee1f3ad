-- Whether a node that is due passes by itself, and what a visit makes of one that does. Assumes nothing.
use Rattle.std.specs.Prelude.{◌≡◌, Bool, true, ◌&&◌, List, eqb, ltb, leb, length, get_or, set, Option, None, Some}
use Rattle.std.proofs.Math.Path.{refl}
use Rattle.std.proofs.Common.{sym, true≢false}
use Rattle.std.proofs.Math.Bool.{false, and-true}
use Prim.Native.Nat.{ℕ, zero, suc, ◌≤◌, ◌<◌}
use borrow.Author.Tests.{lt-ltb, le-ltb, le-leb, ltb-true, eqb-true, eq-eqb, ne_eqb}
use Rattle.laws.specs.Tests.{and_left, and_right}
use Rattle.layout.specs.Layout.{most_keys}
use Rattle.pairs.specs.Pairs.{Pair}
use Rattle.node.specs.declared.Shape.TheVariants.{Leaf, Branch}
use Rattle.node.specs.Node.{Node, node, pairs_of, link_of}
use Rattle.node.specs.Ascends.{ascends}
use Rattle.tree.specs.Table.{Table}
use Rattle.tree.specs.Sound.{Walk, in_order, visit_leaf, visit_children, visit_branch, visit}

-- A node in order: behind the marks, marked before, or as its keys are.
module _ (id low high : ℕ) (ps : List Pair) (marks : List ℕ) where
  pub order_behind : length marks ≤ id → in_order id low high ps marks ≡ false
  unfolding in_order
  order_behind l = rw (le-ltb id (length marks) l)

  pub order_inside : in_order id low high ps marks ≡ true → id < length marks
  unfolding in_order
  order_inside e = ltb-true id (length marks) (and_left (ltb id (length marks)) _ e)

  pub order_fresh : in_order id low high ps marks ≡ true → get_or marks id 0 ≡ 0
  unfolding in_order
  order_fresh e = eqb-true (get_or marks id 0) 0 (and_left (eqb (get_or marks id 0) 0) _ (and_right (ltb id (length marks)) _ e))

  module _ (inside : id < length marks) where
    pub order_reached : (get_or marks id 0 ≡ 0 → ⊥) → in_order id low high ps marks ≡ false
    unfolding in_order
    order_reached n = rw (lt-ltb id (length marks) inside, ne_eqb (get_or marks id 0) 0 n)

    pub order_keys : get_or marks id 0 ≡ 0 → length ps ≤ most_keys → in_order id low high ps marks ≡ ascends low high ps
    unfolding in_order
    order_keys e l = rw (lt-ltb id (length marks) inside, eq-eqb (get_or marks id 0) 0 e, le-leb (length ps) most_keys l) (and-true (ascends low high ps))

-- A node is of the kind that its depth says: at the bottom the leaf awaited, above it a branch with a key.
unfoldable pub of_kind : ℕ → ℕ → ℕ → Node → Bool
of_kind zero id awaited (node Leaf ps next) = eqb awaited id
of_kind zero id awaited (node Branch ks last) = false
of_kind (suc d) id awaited (node Leaf ps next) = false
of_kind (suc d) id awaited (node Branch ks last) = leb 1 (length ks)

-- The kind of a branch above the bottom.
pub kind_keyed : (id awaited : ℕ) (ps : List Pair) (link depth : ℕ) (n : Node) → n ≡ node Branch ps link → (depth ≡ 0 → ⊥) →
    leb 1 (length ps) ≡ of_kind depth id awaited n
unfolding of_kind
kind_keyed id awaited ps link zero n e z = absurd (z refl)
kind_keyed id awaited ps link (suc d) n e z = rw e refl

-- It passes: in order, and of that kind.
unfoldable pub passes : ℕ → ℕ → ℕ → ℕ → Walk → Node → Bool
passes depth id low high w n = in_order id low high (pairs_of n) w.marks && of_kind depth id w.awaited n

-- The walk once it has reached an id and awaits a leaf.
abbrev pub marked : Walk → ℕ → ℕ → Walk
marked w id awaited = record { awaited = awaited; marks = set w.marks id 1 }

pub pass_disorder : (depth id low high : ℕ) (w : Walk) (n : Node) → in_order id low high (pairs_of n) w.marks ≡ false →
    false ≡ passes depth id low high w n
unfolding passes
pass_disorder depth id low high w n e = rw e refl

pub pass_kind : (depth id low high : ℕ) (w : Walk) (n : Node) → in_order id low high (pairs_of n) w.marks ≡ true →
    of_kind depth id w.awaited n ≡ passes depth id low high w n
unfolding passes
pass_kind depth id low high w n e = rw e refl

pub pass_inside : (depth id low high : ℕ) (w : Walk) (n : Node) → passes depth id low high w n ≡ true → id < length w.marks
unfolding passes
pass_inside depth id low high w n e =
    order_inside id low high (pairs_of n) w.marks (and_left (in_order id low high (pairs_of n) w.marks) _ e)

pub pass_fresh : (depth id low high : ℕ) (w : Walk) (n : Node) → passes depth id low high w n ≡ true → get_or w.marks id 0 ≡ 0
unfolding passes
pass_fresh depth id low high w n e =
    order_fresh id low high (pairs_of n) w.marks (and_left (in_order id low high (pairs_of n) w.marks) _ e)

-- What the test says of a leaf and of a branch.
module _ (id low high : ℕ) (w : Walk) where
  leaf-fails : (n : Node) → passes 0 id low high w n ≡ false → visit_leaf id low high w n ≡ None
  unfolding passes of_kind visit_leaf
  leaf-fails (node Leaf ps next) e = rw (e, visit_leaf)
  leaf-fails (node Branch ks last) e = refl

  leaf-passes : (n : Node) → passes 0 id low high w n ≡ true → visit_leaf id low high w n ≡ Some (marked w id (link_of n))
  unfolding passes of_kind visit_leaf
  leaf-passes (node Leaf ps next) e = rw (e, visit_leaf)
  leaf-passes (node Branch ks last) e = absurd (true≢false (sym (and_right (in_order id low high ks w.marks) false e)))

  module _ (d : ℕ) (next : ℕ → ℕ → ℕ → Walk → Option Walk) where
    branch-fails : (n : Node) → passes (suc d) id low high w n ≡ false → visit_branch next id low high w n ≡ None
    unfolding passes of_kind visit_branch
    branch-fails (node Leaf ps l) e = refl
    branch-fails (node Branch ks l) e = rw (e, visit_branch)

    branch-passes : (n : Node) → passes (suc d) id low high w n ≡ true →
        visit_branch next id low high w n ≡ visit_children next (pairs_of n) (link_of n) low high (marked w id w.awaited)
    unfolding passes of_kind visit_branch
    branch-passes (node Leaf ps l) e = absurd (true≢false (sym (and_right (in_order id low high ps w.marks) false e)))
    branch-passes (node Branch ks l) e = rw (e, visit_branch)

-- What a visit makes of a node of the table.
module _ (table : Table) (depth id low high : ℕ) (w : Walk) (n : Node) (is : n ≡ table id) where
  pub visit-fails : passes depth id low high w n ≡ false → visit depth table id low high w ≡ None
  unfolding visit
  visit-fails e = go depth e
    where
      go : (d : ℕ) → passes d id low high w n ≡ false → visit d table id low high w ≡ None
      go zero f = rw (← is) (leaf-fails id low high w n f)
      go (suc d) f = rw (← is) (branch-fails id low high w d (visit d table) n f)

  module _ (pass : passes depth id low high w n ≡ true) where
    pub visit-leaf : depth ≡ 0 → visit depth table id low high w ≡ Some (marked w id (link_of n))
    unfolding visit
    visit-leaf z = rw (z, ← is) (leaf-passes id low high w n (rw z at pass))

    pub visit-branch : (d : ℕ) → depth ≡ suc d →
        visit depth table id low high w ≡ visit_children (visit d table) (pairs_of n) (link_of n) low high (marked w id w.awaited)
    unfolding visit
    visit-branch d z = rw (z, ← is) (branch-passes id low high w d (visit d table) n (rw z at pass))
