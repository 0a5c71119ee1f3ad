-- `settle::settle` meets its contract: the account of the row served, the switch, and the score in the row that it leaves. Assumes nothing.
use mathlib.Core.Path.{refl, ◌∙◌}
use Rattle.flash_rows.specs.Worktable.{table_from}
use Rattle.flash_allocate.specs.Flash.{world_of}
use Rattle.run_serve.specs.Content.{content_of, in_hand}
use Rattle.run_serve.proofs.Laws.{settled}
use Rattle.run_serve.proofs.settle.settle.Goals as goal

pub returns-clause-settled : goal.returns-clause-settled
returns-clause-settled c =
    let a = c.args in
    let x = c.switch in
    let y = c.rescore in
    let w = world_of a.flash.now in
    settled a.tariff a.request a.id (in_hand a.held (content_of a.id w)) w (world_of x.new.flash) c.row_at-row.result
    c.account_in.result c.serve-served.result (table_from y.new.table) (rw c.table.ensures at c.row_at-row.ensures)
    c.account_in.ensures c.serve-served.ensures x.ensures.left y.ensures y.auto.table _ refl
