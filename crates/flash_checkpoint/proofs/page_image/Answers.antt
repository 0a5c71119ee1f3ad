-- `page_image` meets its contract: the records of its nodes' scores, and their image. Assumes nothing.
use Rattle.std.proofs.Common.{◌+◌, eqb, arith, rules}
use Rattle.flash_rows.specs.Worktable.{rows_in}
use Rattle.flash_checkpoint.proofs.Laws.{page_image, given-then_some, count_fits}
use Rattle.flash_checkpoint.proofs.page_image.Goals as goal

pub scores_on-n-requires : goal.scores_on-n-requires
scores_on-n-requires c = (omega arith, omega arith)

pub checkpoint_image-requires : goal.checkpoint_image-requires
checkpoint_image-requires c =
    let a = c.args in (
      rw (c.then_some-front.ensures, given-then_some (eqb a.k 0) a.tariff) c.scores_on-n.ensures.first,
      (
        search rules,
        rw c.then_some-end.ensures (count_fits (eqb (a.k + 1) c.page_count.result) a.nodes (omega arith)),
      ),
    )

pub returns : goal.returns
returns c =
    let a = c.args in
    let n = c.scores_on-n in
    page_image a.number a.tariff a.k a.nodes (rows_in a.table.now) c.scores_before-from.result n.result
    c.page_count.result c.score_records-records.result _ c.scores_before-from.ensures
    n.ensures.is c.page_count.ensures c.score_records-records.ensures
    (rw (← c.then_some-front.ensures, ← c.then_some-end.ensures) c.checkpoint_image.ensures)
