-- `questions::tree_passes` meets its contract: too many nodes, a node on too many pages, or as the rows pass. Assumes nothing.
use mathlib.Core.Path.{sym, ap, subst}
use native.Mathlib.Omega.{arith}
use Rattle.flash_blocks.specs.Pages.{pages_of}
use Rattle.flash_rows.specs.Worktable.{Worktable, table_from}
use Rattle.mount_restore.specs.Blank.{BlankFrom, restored_blank}
use Rattle.mount_restore.proofs.Laws.{too_many, too_scattered, rows_decide}
use Rattle.mount_restore.proofs.questions.tree_passes.Goals as goal

pub returns-then-node_limit-state : goal.returns-then-node_limit-state
returns-then-node_limit-state c =
    let a = c.args in
    too_many a.tariff a.state a.since (pages_of a.pool.now) (table_from a.table.now)
    (omega (arith, c.if-node_limit-state.true, c.node_limit.ensures.0))

pub returns-else-restore_rows : goal.returns-else-restore_rows
returns-else-restore_rows c =
    let a = c.args in
    let r = c.restore_rows in
    rw c.if-restore_rows.false
    (too_scattered a.tariff a.state a.since (pages_of a.pool.now) (table_from r.new.table)
    (omega (arith, c.if-node_limit-state.false, c.node_limit.ensures.0)) r.result r.ensures c.if-restore_rows.false)

pub rows_pass-requires : goal.rows_pass-requires
rows_pass-requires c =
    let a = c.args in
    let p = c.requires in
    let r = c.restore_rows in (
      p.0,
      p.1,
      omega (arith, p.3, r.auto),
      omega (arith, c.if-node_limit-state.false, c.node_limit.ensures.0),
      p.4,
      subst (BlankFrom a.state.nodes) (sym (ap (λ (t : Worktable). t.rows) r.ensures.table))
          (restored_blank a.state.blocks a.state.nodes a.since (pages_of a.pool.now)),
    )

pub returns-then-restore_rows : goal.returns-then-restore_rows
returns-then-restore_rows c =
    let a = c.args in
    let r = c.restore_rows in
    let w = c.rows_pass in
    rows_decide a.tariff a.state a.since (pages_of a.pool.now) (table_from r.new.table)
    (omega (arith, c.if-node_limit-state.false, c.node_limit.ensures.0)) r.result r.ensures c.if-restore_rows.true
    w.result (table_from w.new.table) w.ensures.0 w.ensures.1
