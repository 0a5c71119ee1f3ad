-- `is_sound` meets its contract: past the limit, no node, or as the walk ends. Assumes nothing.
use mathlib.Core.Path.{refl, sym, ◌∙◌}
use mathlib.Core.List.{List}
use Prim.Native.Nat.{ℕ}
use native.Mathlib.Omega.{arith}
use lib.ListN.{take}
use Rattle.flash_blocks.specs.Pages.{pages_of}
use Rattle.flash_rows.specs.Worktable.{table_from}
use Rattle.flash_read.specs.NodeTable.{table_of}
use Rattle.mount_tree.specs.Whole.{checkable_same}
use Rattle.mount_tree.specs.Verdict.{past_limit, no_nodes, start_standing, by-walk}
use Rattle.mount_tree.proofs.is_sound.Goals as goal

pub returns-then-limit-state : goal.returns-then-limit-state
returns-then-limit-state c =
    let a = c.args in
    let tree = table_of (pages_of a.pool.now) (table_from (take a.kept a.table.now)) a.state in
    (sym (past_limit a.limit a.state.nodes tree c.if-limit-state.true), refl)

pub returns-then-state-eq0 : goal.returns-then-state-eq0
returns-then-state-eq0 c =
    let a = c.args in
    let tree = table_of (pages_of a.pool.now) (table_from (take a.kept a.table.now)) a.state in
    (sym (no_nodes a.limit tree a.state.nodes c.if-state-eq0.true), refl)

pub first_leaf-first-requires : goal.first_leaf-first-requires
first_leaf-first-requires c =
    let p = c.requires in (p.readable, omega (arith, p.room))

pub begin-requires : goal.begin-requires
begin-requires c =
    (c.requires.room, omega (arith, c.if-state-eq0.false))

pub walk-requires : goal.walk-requires
walk-requires c =
    let a = c.args in
    let b = c.begin in (
      checkable_same a.state a.kept a.table.now b.new.table b.auto.table b.ensures.same c.requires,
      start_standing a.kept a.state.nodes c.first_leaf-first.result.depth a.table.now b.new.table b.ensures c.first_leaf-first.result.leaf,
    )

pub returns : goal.returns
returns c =
    let a = c.args in
    let b = c.begin in
    let f = c.first_leaf-first in
    let w = c.walk in (
      by-walk a.kept a.state.nodes f.result.depth a.table.now b.new.table b.ensures f.result.leaf
          (λ (k : List ℕ). table_of (pages_of a.pool.now) (table_from k) a.state) a.limit w.new.table w.result
          c.if-limit-state.false f.ensures w.ensures,
      w.ensures.same ∙ b.ensures.same,
    )
