-- `absorb::absorb_edits` meets its contract: two requests, one after the other. Assumes nothing.
use Rattle.node.specs.Drafts.{change_of}
use Rattle.flash_allocate.specs.Flash.{world_of}
use Rattle.run_split.proofs.Laws.{two_edits}
use Rattle.run_split.proofs.absorb.absorb_edits.Goals as goal

pub returns-clause-absorbed : goal.returns-clause-absorbed
returns-clause-absorbed c =
    let a = c.args in
    let x = c.serve_edit-one in
    let y = c.serve_edit-two in
    let w₁ = world_of x.new.flash in
    let w₂ = world_of y.new.flash in
    two_edits a.tariff a.id (world_of a.flash.now) c.requires.grows (change_of a.first) (change_of a.second)
    w₁.pages w₁.table _ x.ensures.served w₂.pages w₂.table _ y.ensures.served
