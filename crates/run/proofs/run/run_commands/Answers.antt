-- `run::run_commands` meets its contract. Assumes nothing.
use Rattle.std.proofs.Common.{◌≡◌, Some, refl, sym, ◌∙◌, arith}
use Rattle.command.specs.Command.{command_at}
use Rattle.flash_allocate.specs.Flash.{world_of, same-none, same_then}
use Rattle.run.specs.Running.{running-start, running-further, running-range, running_ready, running-next, running_over}
use Rattle.run.proofs.run.run_commands.Goals as goal
use Rattle.run.proofs.run.run_commands.Goals.{In-Some}

-- the command found
is : (c : In-Some) → command_at c.args.batch.now c.loop-command.at ≡ Some (c.in-Some.command, c.in-Some.next)
is c = sym c.command_at.ensures ∙ c.in-Some.is

pub loop-command-init : goal.loop-command-init
loop-command-init c =
    let a = c.args in
    record {
      ids = refl;
      buffers = same-none a.flash.now;
      running =
          running-start _ _ a.tariff a.batch.now a.answers.now a.charges.now (world_of a.flash.now)
          c.requires.grows c.requires.ranged c.requires.fits c.requires.unpaid;
    }

pub run_step-here-requires-clause-starts : goal.run_step-here-requires-clause-starts
run_step-here-requires-clause-starts c =
    let l = c.loop-command.invariant in
    running_ready l.running _ _ (is (goal.at.run_step-here-requires-clause-starts c).In-Some) _ c.loop-command.auto.answers

pub run_step-here-requires-clause-range : goal.run_step-here-requires-clause-range
run_step-here-requires-clause-range c =
    running-range c.loop-command.invariant.running _ _ (is (goal.at.run_step-here-requires-clause-range c).In-Some)

pub run_step-here-requires-clause-room : goal.run_step-here-requires-clause-room
run_step-here-requires-clause-room c = c.loop-command.invariant.ids

pub loop-command-smaller : goal.loop-command-smaller
loop-command-smaller c =
    omega (arith, running-further c.loop-command.invariant.running _ _ (is (goal.at.loop-command-smaller c).In-Some))

pub loop-command-preserved : goal.loop-command-preserved
loop-command-preserved c =
    let l = c.loop-command.invariant in
    let step = c.run_step-here.ensures in
    record {
      ids = step.room;
      buffers = same_then l.buffers step.buffers;
      running = running-next l.running _ _ (is (goal.at.loop-command-preserved c).In-Some) step.served;
    }

pub returns-clause-served : goal.returns-clause-served
returns-clause-served c = running_over c.loop-command.invariant.running (sym c.command_at.ensures ∙ c.in_default.is) c.requires.unpaid
