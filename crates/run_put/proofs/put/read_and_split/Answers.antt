-- `put::read_and_split` meets its contract: the reads, then the splits. Assumes nothing.
use Rattle.flash_allocate.specs.Flash.{world_of}
use Rattle.run_put.proofs.Laws.{then-split}
use Rattle.run_put.proofs.put.read_and_split.Goals as goal

pub returns-clause-served : goal.returns-clause-served
returns-clause-served c =
    let a = c.args in
    let x = c.read_nodes in
    let y = c.split_upwards in
    let w₁ = world_of x.new.flash in
    let w₂ = world_of y.new.flash in
    then-split a.tariff a.key a.value a.ids.now (world_of a.flash.now) c.requires.grows c.requires.few
    w₁.pages w₁.table _ x.ensures.served w₂.pages w₂.table _ y.ensures.served
