-- `rounds::run_round` meets its contract. Assumes nothing.
use Rattle.std.proofs.Common.{refl, ap, ◌+◌, ℕ, arith}
use Rattle.laws.specs.Lay.{part}
use Rattle.flash_allocate.specs.Flash.{same-none, same_then}
use Rattle.desk_run.specs.Round.{passing_start, passing_panel, passing_end, passing_queue, passing_ready, passing_next, passing_all, passing_left}
use Rattle.desk_run.proofs.rounds.run_round.Goals as goal

pub loop-panel-init : goal.loop-panel-init
loop-panel-init c =
    record {
      ids = c.requires.room;
      buffers = same-none c.args.flash.now;
      passing = passing_start refl refl c.requires.placed c.requires.starts;
    }

pub overflow_add-end : goal.overflow_add-end
overflow_add-end c =
    omega (arith, c.read32.ensures.is, passing_end c.loop-panel.invariant.passing c.requires.fill c.loop-panel-test.true)

pub slice_bounds-queue-end : goal.slice_bounds-queue-end
slice_bounds-queue-end c =
    omega (arith, c.read32.ensures.is, passing_end c.loop-panel.invariant.passing c.requires.fill c.loop-panel-test.true)

pub bounds-places-panel : goal.bounds-places-panel
bounds-places-panel c = passing_panel c.loop-panel.invariant.passing c.requires.fill c.loop-panel-test.true

pub run_turn-turn-requires-clause-starts : goal.run_turn-turn-requires-clause-starts
unfolding part
run_turn-turn-requires-clause-starts c =
    let l = c.loop-panel.invariant in
    let fill = c.requires.fill in
    let more = c.loop-panel-test.true in
    passing_ready l.passing fill more c.requires.placed (passing_queue l.passing fill more c.read32.result c.read32.ensures.is)
    refl _ c.loop-panel.auto.answers

pub run_turn-turn-requires-clause-panel : goal.run_turn-turn-requires-clause-panel
run_turn-turn-requires-clause-panel c = passing_panel c.loop-panel.invariant.passing c.requires.fill c.loop-panel-test.true

pub bounds-places-panel-in-loop-panel : goal.bounds-places-panel-in-loop-panel
bounds-places-panel-in-loop-panel c = passing_panel c.loop-panel.invariant.passing c.requires.fill c.loop-panel-test.true

pub loop-panel-preserved : goal.loop-panel-preserved
unfolding part
loop-panel-preserved c =
    let l = c.loop-panel.invariant in
    let fill = c.requires.fill in
    let more = c.loop-panel-test.true in
    let x = c.run_turn-turn in
    record {
      ids = x.ensures.room;
      buffers = same_then l.buffers x.ensures.buffers;
      passing =
          passing_next l.passing fill more c.requires.placed (passing_queue l.passing fill more c.read32.result c.read32.ensures.is)
          refl x.result.next x.ensures.next x.ensures.served (ap (λ (n : ℕ). c.loop-panel.start + n) c.read32.ensures.is) refl;
    }

pub returns-clause-served : goal.returns-clause-served
returns-clause-served c = passing_all c.loop-panel.invariant.passing c.requires.fill c.loop-panel-test.false

pub returns-clause-places : goal.returns-clause-places
returns-clause-places c = passing_left c.loop-panel.invariant.passing c.requires.fill c.loop-panel-test.false
