-- `get::get` meets its contract: the walk down, and the value in the leaf that it ends at. Assumes nothing.
use Rattle.flash_allocate.specs.Flash.{world_of}
use Rattle.run_lookup.specs.Finding.{got_as}
use Rattle.run_lookup.proofs.get.get.Goals as goal

pub returns-clause-served : goal.returns-clause-served
returns-clause-served c =
    let a = c.args in
    got_as a.tariff (world_of a.flash.now) c.descend-down.ensures.served c.value_at.result c.value_at.ensures
    c.get_answer.result c.get_answer.ensures
