-- The answer: a count past the limit, no node, or the end of the walk. Assumes nothing.
use Rattle.std.specs.Prelude.{◌≡◌, Bool, false, ℕ, ◌-◌, ◌≤◌, ◌<◌, take, None}
use Rattle.std.proofs.Math.Path.{refl, ap}
use Rattle.std.proofs.Common.{sym, ◌∙◌, arith}
use mathlib.Core.List.{List, []}
use borrow.Author.Tests.{le-leb, lt-leb}
use Rattle.layout.specs.Layout.{bound32}
use Rattle.node.specs.Node.{pairs_of}
use Rattle.tree.specs.Table.{Table}
use Rattle.tree.specs.Sound.{Walk, Leftmost, leftmost, visit, no_marks, complete, walk_from, sound}
use Rattle.mount_tree.specs.declared.walk.WalkValue.{WalkValue}
use Rattle.mount_tree.specs.Passes.{visit-fails, pass_disorder, order_behind}
use Rattle.mount_tree.specs.Pending.{all_one}
use Rattle.mount_tree.specs.Reached.{reached_in, reached-zero}
use Rattle.mount_tree.specs.Area.{Standing, comes_to, root_due, Begun, Walked}

pub past_limit : (limit nodes : ℕ) (tree : Table) → limit < nodes → sound limit nodes tree ≡ false
unfolding sound
past_limit limit nodes tree l = rw (lt-leb nodes limit l)

-- The walk that begins at the root.
abbrev pub start_at : ℕ → ℕ → WalkValue
start_at nodes leaf = record { awaited = leaf; low = 0; top = nodes - 1; reached = 0 }

module _ (kept nodes depth : ℕ) (before middle : List ℕ) (begun : Begun kept nodes depth before middle) (leaf : ℕ) where
  pub start_standing : Standing kept nodes middle (start_at nodes leaf)
  start_standing =
      record { top = omega arith; free = omega arith; reached = sym (ap reached_in begun.marks ∙ reached-zero nodes) }

  start_comes : (tree : Table) → comes_to tree kept nodes middle (start_at nodes leaf) ≡ walk_from nodes tree (record { depth = depth; leaf = leaf })
  unfolding comes_to walk_from
  start_comes tree =
      rw (begun.dues, begun.marks)
      (all_one tree (root_due depth) 0 (record { awaited = leaf; marks = no_marks nodes }))

  -- The walk is over the tree that the kept bytes say, and these are as they were.
  pub by-walk : (tree_of : List ℕ → Table) (limit : ℕ) (after : List ℕ) (answer : Bool) → nodes ≤ limit →
      record { depth = depth; leaf = leaf } ≡ leftmost nodes (tree_of (take kept before)) 0 0 →
      Walked (tree_of (take kept middle)) kept nodes middle (start_at nodes leaf) after answer → answer ≡ sound limit nodes (tree_of (take kept before))
  unfolding sound
  by-walk tree_of limit after answer l first walked =
      walked.is ∙
      ap (λ (k : List ℕ). complete (comes_to (tree_of k) kept nodes middle (start_at nodes leaf))) begun.same ∙
      ap complete (start_comes (tree_of (take kept before))) ∙
      ap (λ (f : Leftmost). complete (walk_from nodes (tree_of (take kept before)) f)) first ∙
      rw (le-leb nodes limit l) refl

-- No node at all: the root is not there.
module _ (limit : ℕ) (tree : Table) where
  no_root : visit 0 tree 0 0 bound32 (record { awaited = 0; marks = [] }) ≡ None
  no_root =
      let w : Walk = record { awaited = 0; marks = [] } in
      visit-fails tree 0 0 0 bound32 w (tree 0) refl
      (sym (pass_disorder 0 0 0 bound32 w (tree 0) (order_behind 0 0 bound32 (pairs_of (tree 0)) [] (omega arith))))

  pub no_nodes : (nodes : ℕ) → nodes ≡ 0 → sound limit nodes tree ≡ false
  unfolding sound walk_from leftmost complete
  no_nodes nodes e = rw (e, le-leb 0 limit (omega arith), no_root) refl
