-- `walk::walk` meets its contract. The invariant: what the walk comes to from here is what it comes to from the start. Assumes nothing.
use mathlib.Core.Path.{refl, ◌∙◌}
use mathlib.Core.List.{List}
use Prim.Native.Nat.{ℕ}
use native.Mathlib.Omega.{arith}
use lib.ListN.{take}
use Rattle.std.proofs.Common.{ne_eqb}
use Rattle.flash_blocks.specs.Pages.{pages_of}
use Rattle.flash_rows.specs.Worktable.{table_from}
use Rattle.flash_read.specs.NodeTable.{table_of}
use Rattle.mount_tree.specs.Area.{comes_to}
use Rattle.mount_tree.specs.Whole.{checkable_same, turn_passed, turn-failed, ended-linked, ended_unlinked}
use Rattle.mount_tree.proofs.walk.walk.Goals as goal

pub loop-w-init : goal.loop-w-init
loop-w-init c = (refl, refl, c.requires.1, refl)

pub visit_next-requires : goal.visit_next-requires
visit_next-requires c =
    let a = c.args in
    let turn = c.loop-w in (
      checkable_same a.state a.kept a.table.now turn.table turn.invariant.0 turn.invariant.1 c.requires.0,
      turn.invariant.2,
      c.loop-w-test.true,
    )

pub loop-w-smaller : goal.loop-w-smaller
loop-w-smaller c =
    let turn = c.loop-w in
    omega (arith, c.in-Some.ensures.more, turn.invariant.2.free, c.loop-w-test.true)

pub loop-w-preserved : goal.loop-w-preserved
loop-w-preserved c =
    let a = c.args in
    let turn = c.loop-w in
    let v = c.visit_next in
    let step = c.in-Some.ensures in
    let tree = table_of (pages_of a.pool.now) (table_from (take a.kept a.table.now)) a.state in
    let all = comes_to tree a.kept a.state.nodes a.table.now a.start in (
      omega (arith, v.auto, turn.invariant.0),
      step.same ∙ turn.invariant.1,
      step.standing,
      turn_passed (λ (k : List ℕ). table_of (pages_of a.pool.now) (table_from k) a.state) a.kept a.state.nodes a.table.now turn.table
          v.new.table turn.w turn.invariant.1 all turn.invariant.3 c.in-Some.next step,
    )

pub returns-in-None : goal.returns-in-None
returns-in-None c =
    let a = c.args in
    let turn = c.loop-w in
    let step = c.in-None.ensures in
    let tree = table_of (pages_of a.pool.now) (table_from (take a.kept a.table.now)) a.state in
    let all = comes_to tree a.kept a.state.nodes a.table.now a.start in
    record {
      same = step.same ∙ turn.invariant.1;
      is =
          turn-failed (λ (k : List ℕ). table_of (pages_of a.pool.now) (table_from k) a.state) a.kept a.state.nodes a.table.now turn.table
          c.visit_next.new.table turn.w turn.invariant.1 all turn.invariant.3 step;
    }

pub returns-then-w : goal.returns-then-w
returns-then-w c =
    let a = c.args in
    let turn = c.loop-w in
    let tree = table_of (pages_of a.pool.now) (table_from (take a.kept a.table.now)) a.state in
    let kept = checkable_same a.state a.kept a.table.now turn.table turn.invariant.0 turn.invariant.1 c.requires.0 in
    record {
      same = turn.invariant.1;
      is =
          ended-linked tree a.kept a.state.nodes turn.table turn.w kept.room turn.invariant.2 c.loop-w-test.false
          (comes_to tree a.kept a.state.nodes a.table.now a.start) turn.invariant.3 c.if-w.true;
    }

pub returns-else-w : goal.returns-else-w
returns-else-w c =
    let a = c.args in
    let turn = c.loop-w in
    let tree = table_of (pages_of a.pool.now) (table_from (take a.kept a.table.now)) a.state in
    let kept = checkable_same a.state a.kept a.table.now turn.table turn.invariant.0 turn.invariant.1 c.requires.0 in
    record {
      same = turn.invariant.1;
      is =
          ne_eqb _ _ c.if-w.false ∙
          ended_unlinked tree a.kept a.state.nodes turn.table turn.w kept.room turn.invariant.2 c.loop-w-test.false
          (comes_to tree a.kept a.state.nodes a.table.now a.start) turn.invariant.3 c.if-w.false;
    }
