-- `questions::rows_pass` meets its contract: the tariff, the scores, the tree. Assumes nothing.
use mathlib.Core.Path.{refl, sym, ◌∙◌}
use Rattle.flash_blocks.specs.Pages.{pages_of}
use Rattle.flash_rows.specs.Worktable.{table_from}
use Rattle.mount_restore.proofs.Laws.{out_of_range, score_too_great, tree_decides}
use Rattle.mount_restore.proofs.questions.rows_pass.Goals as goal

pub returns-then-not-in_range : goal.returns-then-not-in_range
returns-then-not-in_range c =
    let a = c.args in
    (out_of_range a.tariff a.state (pages_of a.pool.now) (table_from a.table.now) (sym c.in_range.ensures ∙ c.if-not-in_range.true), refl)

pub returns-else-scores_below : goal.returns-else-scores_below
returns-else-scores_below c =
    let a = c.args in (
      rw c.if-scores_below.false
          (score_too_great a.tariff a.state (pages_of a.pool.now) (table_from a.table.now) (sym c.in_range.ensures ∙ c.if-not-in_range.false)
          c.limit.result c.limit.ensures (sym c.scores_below.ensures ∙ c.if-scores_below.false)),
      refl,
    )

pub returns-then-scores_below : goal.returns-then-scores_below
returns-then-scores_below c =
    let a = c.args in
    let s = c.tree_sound in (
      s.ensures.0 ∙
          tree_decides a.tariff a.state (pages_of a.pool.now) (table_from a.table.now) (sym c.in_range.ensures ∙ c.if-not-in_range.false)
          c.limit.result c.limit.ensures (sym c.scores_below.ensures ∙ c.if-scores_below.true),
      s.ensures.1,
    )
