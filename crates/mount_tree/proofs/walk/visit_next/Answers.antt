-- `walk::visit_next` meets its contract: the next node due does not pass, is a leaf, or a branch. Assumes nothing.
use mathlib.Core.Path.{sym, ◌∙◌}
use native.Mathlib.Omega.{arith}
use lib.ListN.{take}
use Rattle.flash_blocks.specs.Pages.{pages_of}
use Rattle.flash_rows.specs.Worktable.{table_from}
use Rattle.flash_read.specs.NodeTable.{table_of}
use Rattle.mount_tree.specs.Visit.{step_failed}
use Rattle.mount_tree.proofs.walk.visit_next.Goals as goal

pub returns-then-not-passes : goal.returns-then-not-passes
returns-then-not-passes c =
    let a = c.args in
    let p = c.requires in
    let v = c.node_of-v in
    let d = c.due_at-due in
    step_failed (table_of (pages_of a.pool.now) (table_from (take a.kept a.table.now)) a.state) a.kept a.state.nodes a.table.now
    a.w v.result d.result v.ensures.is p.0.room p.2 d.ensures (sym c.passes.ensures ∙ c.if-not-passes.true)

pub pass_leaf-requires : goal.pass_leaf-requires
pass_leaf-requires c =
    let p = c.requires in (
      record {
        room = p.0.room;
        standing = p.1;
        inside = p.2;
        is = c.due_at-due.ensures;
        sized = c.node_of-v.ensures.held.sized;
        pass = sym c.passes.ensures ∙ c.if-not-passes.false;
      },
      c.if-due-eq0.true,
    )

pub returns-then-due-eq0 : goal.returns-then-due-eq0
returns-then-due-eq0 c =
    let a = c.args in
    c.pass_leaf.ensures (table_of (pages_of a.pool.now) (table_from (take a.kept a.table.now)) a.state) c.node_of-v.ensures.is

pub enter_branch-requires : goal.enter_branch-requires
enter_branch-requires c =
    let p = c.requires in (
      record {
        room = p.0.room;
        standing = p.1;
        inside = p.2;
        is = c.due_at-due.ensures;
        sized = c.node_of-v.ensures.held.sized;
        pass = sym c.passes.ensures ∙ c.if-not-passes.false;
      },
      omega (arith, c.if-due-eq0.false),
    )

pub returns : goal.returns
returns c =
    let a = c.args in
    c.enter_branch.ensures (table_of (pages_of a.pool.now) (table_from (take a.kept a.table.now)) a.state) c.node_of-v.ensures.is
