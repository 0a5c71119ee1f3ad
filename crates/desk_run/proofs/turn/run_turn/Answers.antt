-- `turn::run_turn` meets its contract: two steps, or none. Assumes nothing.
use Rattle.std.proofs.Common.{◌≡◌, Some, refl, sym, ◌∙◌}
use Rattle.command.specs.Command.{command_at}
use Rattle.flash_allocate.specs.Flash.{world_of}
use Rattle.desk_run.specs.Turn.{place_is, found-range}
use Rattle.desk_run.specs.TurnRun.{ready_name, ready_own, on_turn, on_no_turn}
use Rattle.desk_run.proofs.turn.run_turn.Goals as goal
use Rattle.desk_run.proofs.turn.run_turn.Goals.{In-Some}

-- the command found
is : (c : In-Some) → command_at c.args.queue.now c.args.at ≡ Some (c.in-Some.command, c.in-Some.next)
is c = sym c.command_at.ensures ∙ c.in-Some.is

pub run_step-named-requires-clause-starts : goal.run_step-named-requires-clause-starts
run_step-named-requires-clause-starts c =
    let a = c.args in
    ready_name a.panel a.queue.now a.at a.answers.now c.requires.starts (is (goal.at.run_step-named-requires-clause-starts c).In-Some)

pub run_step-there-requires-clause-starts : goal.run_step-there-requires-clause-starts
run_step-there-requires-clause-starts c =
    let a = c.args in
    let x = c.run_step-named in
    let found = is (goal.at.run_step-there-requires-clause-starts c).In-Some in
    ready_own a.panel a.queue.now a.at a.answers.now c.requires.starts found {w = world_of a.flash.now} x.ensures.served x.auto.answers

pub run_step-there-requires-clause-range : goal.run_step-there-requires-clause-range
run_step-there-requires-clause-range c =
    found-range c.args.queue.now c.args.at _ _ (is (goal.at.run_step-there-requires-clause-range c).In-Some)

pub returns-clause-served : goal.returns-clause-served
returns-clause-served c =
    let a = c.args in
    let found = is (goal.at.returns-clause-served c).In-Some in
    on_turn a.panel a.queue.now a.at a.answers.now c.requires.starts found {w = world_of a.flash.now} c.run_step-named.ensures.served
    c.run_step-there.ensures.served

pub returns-clause-next : goal.returns-clause-next
returns-clause-next c = sym (place_is c.args.panel c.args.queue.now c.args.at _ (is (goal.at.returns-clause-next c).In-Some))

pub returns-in_default-clause-served : goal.returns-in_default-clause-served
returns-in_default-clause-served c =
    let a = c.args in
    on_no_turn a.panel a.queue.now a.at a.answers.now c.requires.starts (sym c.command_at.ensures ∙ c.in_default.is) (world_of a.flash.now) refl

pub returns-in_default-clause-next : goal.returns-in_default-clause-next
returns-in_default-clause-next c =
    let a = c.args in
    sym (place_is a.panel a.queue.now a.at _ (sym c.command_at.ensures ∙ c.in_default.is))
