-- `put::put_splitting` meets its contract: the ids counted, then a refusal or the splits. Assumes nothing.
use native.Mathlib.Omega.{arith}
use Rattle.tree.specs.Put.{ids_needed}
use Rattle.flash_allocate.specs.Flash.{world_of}
use Rattle.run_path.specs.Path.{table_in}
use Rattle.run_put.proofs.Laws.{new_refused, new_split}
use Rattle.run_put.proofs.put.put_splitting.Goals as goal

pub returns-then-node_limit-flash-clause-served : goal.returns-then-node_limit-flash-clause-served
returns-then-node_limit-flash-clause-served c =
    let a = c.args in
    let x = c.ids_needed-needed in
    let w = world_of a.flash.now in
    new_refused a.tariff a.ids.now x.result (ids_needed (table_in w) a.ids.now) a.key a.value w
    (rw (c.pool.ensures, c.table.ensures) at x.ensures.exact) (omega (arith, c.if-node_limit-flash.true, c.node_limit.ensures.0)) c.requires.grows

pub returns-clause-served : goal.returns-clause-served
returns-clause-served c =
    let a = c.args in
    let x = c.ids_needed-needed in
    let y = c.read_and_split in
    let w = world_of a.flash.now in
    let w₁ = world_of y.new.flash in
    new_split a.tariff a.ids.now x.result (ids_needed (table_in w) a.ids.now) a.key a.value w
    (rw (c.pool.ensures, c.table.ensures) at x.ensures.exact) w₁.pages w₁.table _
    (omega (arith, c.if-node_limit-flash.false, c.node_limit.ensures.0)) y.ensures.served
