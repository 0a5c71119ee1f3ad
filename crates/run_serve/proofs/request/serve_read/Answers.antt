-- `request::serve_read` meets its contract: the account settled, and no change. Assumes nothing.
use mathlib.Core.Path.{refl}
use Rattle.flash_rows.specs.Worktable.{table_from}
use Rattle.flash_blocks.specs.Pages.{pages_of}
use Rattle.flash_allocate.specs.Flash.{world_of}
use Rattle.store.specs.Serve.{read}
use Rattle.run_serve.specs.Content.{content_of}
use Rattle.run_serve.specs.Step.{kept_same}
use Rattle.run_serve.proofs.Laws.{served_there, served_nowhere, served-read}
use Rattle.run_serve.proofs.request.serve_read.Goals as goal

pub returns-then-id-flash-clause-served : goal.returns-then-id-flash-clause-served
returns-then-id-flash-clause-served c =
    let a = c.args in
    let w = world_of a.flash.now in
    let content = content_of a.id w in
    served-read a.tariff a.id content read w refl
    (served_nowhere a.tariff a.id content read w c.if-id-flash.true a.flash.now.good)

pub returns-clause-served : goal.returns-clause-served
returns-clause-served c =
    let a = c.args in
    let x = c.settle in
    let w = world_of a.flash.now in
    let w₁ = world_of x.new.flash in
    let content = content_of a.id w in
    served-read a.tariff a.id content read w refl
    (served_there a.tariff a.id content read w c.if-id-flash.false w₁.pages w₁.table _ x.ensures.settled
    content refl w₁.pages w₁.table w₁.state (kept_same w₁ x.new.flash.good))
