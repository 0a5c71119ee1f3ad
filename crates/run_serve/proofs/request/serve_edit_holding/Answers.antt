-- `request::serve_edit_holding` meets its contract: the content edited, the account settled, then the edit in the mode that serves. Assumes nothing.
use Rattle.flash_rows.specs.Worktable.{table_from}
use Rattle.flash_blocks.specs.Pages.{pages_of}
use Rattle.flash_allocate.specs.Flash.{world_of}
use Rattle.node.specs.Value.{node_of}
use Rattle.node.specs.Drafts.{change_of}
use Rattle.store.specs.Serve.{edit}
use Rattle.run_serve.proofs.Laws.{served_there, served_nowhere}
use Rattle.run_serve.proofs.request.serve_edit_holding.Goals as goal

pub returns-then-id-flash-clause-served : goal.returns-then-id-flash-clause-served
returns-then-id-flash-clause-served c =
    let a = c.args in
    served_nowhere a.tariff a.id (node_of a.old) (edit (change_of a.change)) (world_of a.flash.now) c.if-id-flash.true a.flash.now.good

pub returns-clause-served : goal.returns-clause-served
returns-clause-served c =
    let a = c.args in
    let x = c.settle-served in
    let y = c.write_edit in
    let v = c.edited-new in
    let w₁ = world_of x.new.flash in
    let w₂ = world_of y.new.flash in
    served_there a.tariff a.id (node_of a.old) (edit (change_of a.change)) (world_of a.flash.now) c.if-id-flash.false
    w₁.pages w₁.table _ x.ensures.settled (node_of v.result) v.ensures.is w₂.pages w₂.table w₂.state y.ensures.left
