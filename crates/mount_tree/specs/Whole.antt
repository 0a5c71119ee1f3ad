-- The whole walk: a turn of its loop, and its end. Assumes nothing.
use Rattle.std.specs.Prelude.{◌≡◌, false, ℕ, ◌≤◌, ◌+◌, take, Option, None, Some}
use Rattle.std.proofs.Math.Path.{refl, sym, ap, ap₂}
use Rattle.std.proofs.Common.{subst, ◌∙◌, arith, drop_of_length-le}
use mathlib.Core.List.{List}
use borrow.Author.Tests.{eq-eqb, ne_eqb}
use Rattle.std.proofs.Math.Dec.{eqb}
use Rattle.std.proofs.Math.ListN.{length}
use Rattle.layout.specs.Layout.{no_leaf, work_bytes}
use Rattle.tree.specs.Table.{Table}
use Rattle.tree.specs.Sound.{Walk, complete}
use Rattle.flash_allocate.specs.declared.state.State.{State}
use Rattle.flash_read.specs.NodeTable.{Readable}
use Rattle.mount_tree.specs.declared.due.Due.{Due}
use Rattle.mount_tree.specs.declared.walk.WalkValue.{WalkValue}
use Rattle.mount_tree.specs.Pending.{visit_all, all_none}
use Rattle.mount_tree.specs.Reached.{all-reached}
use Rattle.mount_tree.specs.Area.{dues_in, marks_in, Checkable, Standing, walk_in, comes_to, goes_on, Stepped}
use Rattle.mount_tree.specs.AreaLaws.{length-dues_in, length-marks_in}

-- What a check asks is asked of the kept bytes and the length alone.
pub checkable_same : (s : State) (kept : ℕ) (before after : List ℕ) → length after ≡ length before → take kept after ≡ take kept before →
    Checkable s kept before → Checkable s kept after
checkable_same s kept before after l e c = record { readable = subst (Readable s) (sym e) c.readable; room = omega (arith, c.room) }

-- A turn, in the tree that the kept bytes say: these bytes are the first ones still.
module _ (tree_of : List ℕ → Table) (kept nodes : ℕ) (first table after : List ℕ) (w : WalkValue) (same : take kept table ≡ take kept first)
    (all : Option Walk) (far : comes_to (tree_of (take kept first)) kept nodes table w ≡ all) where
  turn : (r : Option WalkValue) → Stepped (tree_of (take kept table)) kept nodes table w after r →
      goes_on (tree_of (take kept first)) kept nodes after r ≡ all
  turn r step =
      subst (λ (k : List ℕ). goes_on (tree_of k) kept nodes after r ≡ comes_to (tree_of k) kept nodes table w) same step.is ∙ far

  pub turn_passed : (v : WalkValue) → Stepped (tree_of (take kept table)) kept nodes table w after (Some v) →
      comes_to (tree_of (take kept first)) kept nodes after v ≡ all
  turn_passed v step = turn (Some v) step

  pub turn-failed : Stepped (tree_of (take kept table)) kept nodes table w after None → false ≡ complete all
  unfolding complete
  turn-failed step = ap complete (turn None step)

-- The end: no node is due.
module _ (tree : Table) (kept nodes : ℕ) (table : List ℕ) (w : WalkValue) (room : kept + work_bytes nodes ≤ length table)
    (standing : Standing kept nodes table w) (end : nodes ≤ w.top) (all : Option Walk) (far : comes_to tree kept nodes table w ≡ all) where
  ended : Some (walk_in kept nodes table w) ≡ all
  unfolding comes_to
  ended =
      let l : length (dues_in kept nodes table) ≤ w.top = omega (arith, length-dues_in kept nodes table room) in
      sym (all_none tree w.low (walk_in kept nodes table w)) ∙
      ap (λ (ds : List Due). visit_all tree ds w.low (walk_in kept nodes table w)) (sym (drop_of_length-le (dues_in kept nodes table) l)) ∙
      far

  pub ended-linked : w.awaited ≡ no_leaf → eqb w.reached nodes ≡ complete all
  unfolding complete
  ended-linked e =
      ap₂ eqb standing.reached (sym (length-marks_in kept nodes table room)) ∙
      sym (all-reached (marks_in kept nodes table)) ∙
      rw (← ended, eq-eqb w.awaited no_leaf e) refl

  pub ended_unlinked : (w.awaited ≡ no_leaf → ⊥) → false ≡ complete all
  unfolding complete
  ended_unlinked n = rw (← ended, ne_eqb w.awaited no_leaf n) refl
