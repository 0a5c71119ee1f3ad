-- `absorb::absorb_halves` meets its contract: the two edits where the middle key fits, else the split with the pointer renamed. Assumes nothing.
use Rattle.node.specs.Drafts.{change_of}
use Rattle.flash_allocate.specs.Flash.{world_of}
use Rattle.run_split.proofs.Laws.{absorbed_is, halves_fits, halves_split, halves_full, halves_there}
use Rattle.run_split.proofs.absorb.absorb_halves.Goals as goal

pub returns-in-Ok-clause-absorbed : goal.returns-in-Ok-clause-absorbed
returns-in-Ok-clause-absorbed c =
    let a = c.args in
    let v = c.read_node-v in
    let u = c.pointed-renamed in
    absorbed_is c.absorb_edits.ensures.absorbed
    (halves_fits a.tariff a.root a.id a.wanted a.middle a.left a.right (world_of a.flash.now) v.result v.ensures.is
    c.child_place-child.result c.child_place-child.ensures.0 u.result u.ensures.is c.fit.result c.fit.ensures
    c.in-Ok.is (change_of c.rename-second.result) c.rename-second.ensures)

pub split-requires-clause-known : goal.split-requires-clause-known
split-requires-clause-known c =
    let a = c.args in
    let v = c.read_node-v in
    let u = c.pointed-renamed in
    halves_there a.tariff a.root a.id a.wanted a.middle a.left a.right (world_of a.flash.now) v.result v.ensures.is
    c.child_place-child.result c.child_place-child.ensures.0 u.result u.ensures.is c.fit.result c.fit.ensures _ c.in-Err.is u.ensures.held

pub split-requires-clause-splits : goal.split-requires-clause-splits
split-requires-clause-splits c =
    let a = c.args in
    let v = c.read_node-v in
    let u = c.pointed-renamed in
    halves_full a.tariff a.root a.id a.wanted a.middle a.left a.right (world_of a.flash.now) v.result v.ensures.is
    c.child_place-child.result c.child_place-child.ensures.0 u.result u.ensures.is c.fit.result c.fit.ensures _ c.in-Err.is u.ensures.held

pub returns-in-Err-clause-absorbed : goal.returns-in-Err-clause-absorbed
returns-in-Err-clause-absorbed c =
    let a = c.args in
    let v = c.read_node-v in
    let u = c.pointed-renamed in
    absorbed_is c.split.ensures.absorbed
    (halves_split a.tariff a.root a.id a.wanted a.middle a.left a.right (world_of a.flash.now) v.result v.ensures.is
    c.child_place-child.result c.child_place-child.ensures.0 u.result u.ensures.is c.fit.result c.fit.ensures _ c.in-Err.is)
