-- `split_upwards::split_upwards` meets its contract: the nodes done so far are those behind a place of the path. Assumes nothing.
use Rattle.std.proofs.Common.{rules, arith, refl}
use Rattle.flash_allocate.specs.Flash.{world_of, same-none, same_then}
use Rattle.run_split.proofs.Upwards.{upwards_start, upwards-next, upwards_end}
use Rattle.run_split.proofs.split_upwards.split_upwards.Goals as goal

pub loop-id-init : goal.loop-id-init
loop-id-init c =
    let a = c.args in (
      same-none a.flash.now,
      upwards_start a.tariff a.key a.value a.ids.now _ (world_of a.flash.now) _ c.requires.grows c.requires.some (search rules) refl,
    )

pub overflow_add-charge : goal.overflow_add-charge
overflow_add-charge c =
    let s = c.loop-id.invariant.1.splitting in
    omega (arith, s.most, s.inside, c.absorb-taken.ensures.absorbed.charged.most, c.requires.few)

pub loop-id-preserved : goal.loop-id-preserved
loop-id-preserved c =
    let x = c.absorb-taken.ensures in
    (same_then c.loop-id.invariant.0 x.buffers, upwards-next c.loop-id.invariant.1 refl _ _ c.in-Some.ensures.steps x.absorbed)

pub overflow_add-result : goal.overflow_add-result
overflow_add-result c =
    let s = c.loop-id.invariant.1.splitting in
    omega (arith, s.most, s.inside, c.absorb.ensures.absorbed.charged.most, c.requires.few)

pub returns-clause-served : goal.returns-clause-served
returns-clause-served c = upwards_end c.loop-id.invariant.1 refl c.in-None.ensures.steps.0 c.absorb.ensures.absorbed
