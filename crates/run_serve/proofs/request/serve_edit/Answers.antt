-- `request::serve_edit` meets its contract: the content read, then the edit with it in hand. Assumes nothing.
use mathlib.Core.Path.{refl}
use Rattle.flash_allocate.specs.Flash.{world_of}
use Rattle.node.specs.Value.{node_of}
use Rattle.node.specs.Drafts.{change_of}
use Rattle.store.specs.Serve.{edit}
use Rattle.run_serve.specs.Content.{content_of}
use Rattle.run_serve.proofs.Laws.{served_nowhere, served-read}
use Rattle.run_serve.proofs.request.serve_edit.Goals as goal

pub returns-then-id-flash-clause-served : goal.returns-then-id-flash-clause-served
returns-then-id-flash-clause-served c =
    let a = c.args in
    let w = world_of a.flash.now in
    let work = edit (change_of a.change) in
    served-read a.tariff a.id (content_of a.id w) work w refl
    (served_nowhere a.tariff a.id (content_of a.id w) work w c.if-id-flash.true a.flash.now.good)

pub returns-clause-served : goal.returns-clause-served
returns-clause-served c =
    let a = c.args in
    let v = c.content_of-old in
    served-read a.tariff a.id (node_of v.result) (edit (change_of a.change)) (world_of a.flash.now)
    (rw (c.pool.ensures, c.table.ensures) at v.ensures.is) c.serve_edit_holding.ensures.served
