-- `delete::delete` meets its contract: the walk down, then the leaf in hand edited where the key is there. Assumes nothing.
use mathlib.Core.Path.{◌∙◌}
use Rattle.flash_allocate.specs.Flash.{world_of}
use Rattle.run_lookup.specs.Finding.{value_in_lem}
use Rattle.run_lookup.specs.Deletion.{deleted-none, deleted-one}
use Rattle.run_lookup.proofs.delete.delete.Goals as goal

pub returns-in-Some-clause-served : goal.returns-in-Some-clause-served
returns-in-Some-clause-served c =
    let a = c.args in
    let w = world_of a.flash.now in
    let down = c.descend-down.ensures.served in
    let value = c.value_at in
    deleted-one a.tariff a.key w down _ (value_in_lem a.tariff w down value.result value.ensures ∙ c.in-Some.is)
    c.serve_edit_holding-edit.ensures.served

pub returns-in-None-clause-served : goal.returns-in-None-clause-served
returns-in-None-clause-served c =
    let a = c.args in
    let w = world_of a.flash.now in
    let down = c.descend-down.ensures.served in
    let value = c.value_at in
    deleted-none a.tariff a.key w down (value_in_lem a.tariff w down value.result value.ensures ∙ c.in-None.is)
