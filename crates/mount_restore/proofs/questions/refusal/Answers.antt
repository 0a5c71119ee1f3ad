-- `questions::refusal` meets its contract: refused with 7, with 8, or not. Assumes nothing.
use Rattle.flash_blocks.specs.Pages.{pages_of}
use Rattle.flash_rows.specs.Worktable.{table_from}
use Rattle.mount_restore.proofs.Laws.{refused_seven, refused_eight, not_refused}
use Rattle.mount_restore.proofs.questions.refusal.Goals as goal

pub returns-then-not-tree_passes : goal.returns-then-not-tree_passes
returns-then-not-tree_passes c =
    let a = c.args in
    let j = c.tree_passes in
    refused_seven a.tariff a.state a.since (pages_of a.pool.now) (table_from j.new.table) j.result j.ensures c.if-not-tree_passes.true

pub returns-then-state-gt-LAST_SEQUENCE : goal.returns-then-state-gt-LAST_SEQUENCE
returns-then-state-gt-LAST_SEQUENCE c =
    let a = c.args in
    let j = c.tree_passes in
    refused_eight a.tariff a.state a.since (pages_of a.pool.now) (table_from j.new.table) j.result j.ensures
    c.if-not-tree_passes.false c.if-state-gt-LAST_SEQUENCE.true

pub returns : goal.returns
returns c =
    let a = c.args in
    let j = c.tree_passes in
    not_refused a.tariff a.state a.since (pages_of a.pool.now) (table_from j.new.table) j.result j.ensures
    c.if-not-tree_passes.false c.if-state-gt-LAST_SEQUENCE.false
