-- `request::serve_rewrite` meets its contract: the account settled, then the content in the mode that serves. Assumes nothing.
use mathlib.Core.Path.{refl}
use Rattle.flash_allocate.specs.Flash.{world_of}
use Rattle.node.specs.Value.{node_of}
use Rattle.store.specs.Serve.{rewrite}
use Rattle.run_serve.specs.Content.{content_of}
use Rattle.run_serve.proofs.Laws.{served_there, served_nowhere, served-read}
use Rattle.run_serve.proofs.request.serve_rewrite.Goals as goal

pub returns-then-id-flash-clause-served : goal.returns-then-id-flash-clause-served
returns-then-id-flash-clause-served c =
    let a = c.args in
    let w = world_of a.flash.now in
    let content = content_of a.id w in
    let work = rewrite (node_of a.v) in
    served-read a.tariff a.id content work w refl
    (served_nowhere a.tariff a.id content work w c.if-id-flash.true a.flash.now.good)

pub returns-clause-served : goal.returns-clause-served
returns-clause-served c =
    let a = c.args in
    let x = c.settle-served in
    let y = c.write_whole in
    let w = world_of a.flash.now in
    let w₁ = world_of x.new.flash in
    let w₂ = world_of y.new.flash in
    let content = content_of a.id w in
    let work = rewrite (node_of a.v) in
    served-read a.tariff a.id content work w refl
    (served_there a.tariff a.id content work w c.if-id-flash.false w₁.pages w₁.table _ x.ensures.settled
    (node_of a.v) refl w₂.pages w₂.table w₂.state y.ensures.left)
