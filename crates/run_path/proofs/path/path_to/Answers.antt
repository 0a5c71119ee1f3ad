-- `path::path_to` meets its contract: what is left of the path gives the whole. Assumes nothing.
use Rattle.std.proofs.Common.{ℕ, ◌-◌, refl, sym, subst, arith}
use Rattle.flash_blocks.specs.Pages.{pages_of}
use Rattle.flash_rows.specs.Worktable.{table_from}
use Rattle.node.specs.Value.{pairs_in}
use Rattle.flash_read.specs.NodeTable.{table_of}
use Rattle.flash_read.specs.Shapes.{is_leaf, is-branch}
use Rattle.run_path.specs.Path.{PathTo}
use Rattle.node.proofs.Shapes.{eq-same_shape}
use Rattle.run_path.proofs.Laws.{come-on, come-leaf, come_last}
use Rattle.run_path.proofs.path.path_to.Goals as goal

pub loop-i-preserved : goal.loop-i-preserved
loop-i-preserved c =
    let l = c.loop-i in
    let v = l.leaf in
    let id = c.child-id in
    let come = l.invariant.come in
    record {
      reached = refl;
      come =
          come-on come (omega (arith, c.loop-i-test.true)) (pairs_in v) v.link id.result
          (is-branch v _ come.leaf.is c.eq.result (eq-same_shape _ _ c.eq.result c.eq.ensures) c.if-eq.false) id.ensures
          c.node_at-leaf-in-loop-i.result c.node_at-leaf-in-loop-i.ensures;
    }

pub returns-then-eq : goal.returns-then-eq
returns-then-eq c =
    let a = c.args in
    let nodes = table_of (pages_of a.pool.now) (table_from a.table.now) a.state in
    let l = c.loop-i in
    let v = l.leaf in
    let come = l.invariant.come in
    subst (λ (n : ℕ). PathTo nodes (a.state.nodes - 1) a.key l.ids (record { length = n; leaf = v }))
    (sym l.invariant.reached)
    (come-leaf come (pairs_in v) v.link (is_leaf v _ come.leaf.is c.eq.result (eq-same_shape _ _ c.eq.result c.eq.ensures) c.if-eq.true))

pub returns-after-loop-i : goal.returns-after-loop-i
returns-after-loop-i c =
    let a = c.args in
    let nodes = table_of (pages_of a.pool.now) (table_from a.table.now) a.state in
    let l = c.loop-i in
    subst
    (λ (n : ℕ). PathTo nodes (a.state.nodes - 1) a.key l.ids (record { length = n; leaf = l.leaf }))
    (sym l.invariant.reached) (come_last l.invariant.come (omega (arith, c.loop-i-test.false)))
