-- `rounds::run_rounds` meets its contract. Assumes nothing.
use Rattle.std.proofs.Common.{refl}
use Rattle.flash_allocate.specs.Flash.{world_of, same-none, same_then}
use Rattle.desk_run.specs.Rounds.{circling_start, circling_ready, circling_next, circling_end}
use Rattle.desk_run.proofs.rounds.run_rounds.Goals as goal

pub loop-round-init : goal.loop-round-init
loop-round-init c =
    let a = c.args in
    record {
      ids = refl;
      buffers = same-none a.flash.now;
      circling =
          circling_start (world_of a.flash.now) a.answers.now a.charges.now
          c.requires.grows c.requires.ranged c.requires.serves c.requires.unpaid;
    }

pub run_round-here-requires-clause-starts : goal.run_round-here-requires-clause-starts
run_round-here-requires-clause-starts c =
    circling_ready c.loop-round.invariant.circling c.loop-round-test.true _ c.loop-round.auto.answers

pub loop-round-preserved : goal.loop-round-preserved
loop-round-preserved c =
    let l = c.loop-round.invariant in
    let x = c.run_round-here.ensures in
    record {
      ids = x.room;
      buffers = same_then l.buffers x.buffers;
      circling = circling_next l.circling c.loop-round-test.true x.served x.places;
    }

pub returns-clause-served : goal.returns-clause-served
returns-clause-served c = circling_end c.loop-round.invariant.circling c.loop-round-test.false c.requires.unpaid
