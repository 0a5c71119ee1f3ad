-- `absorb::absorb_edit` meets its contract: one request. Assumes nothing.
use Rattle.node.specs.Drafts.{change_of}
use Rattle.flash_allocate.specs.Flash.{world_of}
use Rattle.run_split.proofs.Laws.{one-edit}
use Rattle.run_split.proofs.absorb.absorb_edit.Goals as goal

pub returns-clause-absorbed : goal.returns-clause-absorbed
returns-clause-absorbed c =
    let a = c.args in
    let x = c.serve_edit in
    let w = world_of x.new.flash in
    one-edit a.tariff a.id (world_of a.flash.now) c.requires.grows (change_of a.edit) w.pages w.table _ x.ensures.served
