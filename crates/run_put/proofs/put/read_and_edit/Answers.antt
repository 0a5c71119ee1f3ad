-- `put::read_and_edit` meets its contract: the reads, then one edit. Assumes nothing.
use Rattle.std.proofs.Common.{refl}
use Rattle.node.specs.Value.{node_of}
use Rattle.flash_allocate.specs.Flash.{world_of}
use Rattle.run_put.specs.Put.{last_of}
use Rattle.run_put.proofs.Laws.{then-edit}
use Rattle.run_put.proofs.put.read_and_edit.Goals as goal

pub returns-clause-served : goal.returns-clause-served
returns-clause-served c =
    let a = c.args in
    let x = c.read_nodes in
    let y = c.serve_edit_holding in
    let w₁ = world_of x.new.flash in
    let w₂ = world_of y.new.flash in
    then-edit a.tariff a.key a.value a.ids.now (world_of a.flash.now) c.requires.grows c.requires.few
    w₁.pages w₁.table _ x.ensures.served w₂.pages w₂.table _ (last_of a.ids.now) _ (node_of a.leaf) refl y.ensures.served
