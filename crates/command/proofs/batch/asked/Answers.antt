-- `command::batch::asked` meets its contract. Assumes nothing.
use Rattle.std.proofs.Common.{◌≡◌, Some, sym, ap₂, ◌∙◌, ◌+◌, ℕ, arith}
use Rattle.command.specs.Command.{command_at, Onward}
use Rattle.command.specs.CommandLaws.{room_for_le}
use Rattle.command.specs.Batch.{commands_from}
use Rattle.command.specs.BatchLaws.{asked_with, named_le, onward_next, asked_long, asked-start, asked-turn, asked_invalid, asked_end}
use Rattle.command.proofs.batch.asked.Goals as goal
use Rattle.command.proofs.batch.asked.Goals.{In_ok-command}

-- the command found, and that it goes on
is : (c : In_ok-command) → command_at c.args.s.now c.loop-at.at ≡ Some (c.in_ok-command.command, c.in_ok-command.next)
is c = sym c.command_at.ensures ∙ c.in_ok-command.was

onward : (c : In_ok-command) → Onward c.args.s.now c.loop-at.at (Some (c.in_ok-command.command, c.in_ok-command.next))
onward c = onward_next c.args.s.now c.loop-at.at _ _ (is c)

pub returns-then-s-gt-MOST_BATCH_BYTES : goal.returns-then-s-gt-MOST_BATCH_BYTES
returns-then-s-gt-MOST_BATCH_BYTES c = asked_long _ c.if-s-gt-MOST_BATCH_BYTES.true

pub loop-at-init : goal.loop-at-init
loop-at-init c = record {
  within = omega arith;
  room = omega arith;
  commands = omega arith;
  named = omega arith;
  asks = asked-start _ c.if-s-gt-MOST_BATCH_BYTES.false;
}

pub returns-in_err-command : goal.returns-in_err-command
returns-in_err-command c =
    c.from_residual.ensures ∙
    asked_invalid _ _ _ _ _ c.loop-at-test.true (sym c.command_at.ensures ∙ c.in_err-command.was) c.loop-at.invariant.asks

pub loop-at-smaller : goal.loop-at-smaller
loop-at-smaller c = omega (arith, onward ((goal.at.loop-at-smaller c).In_ok-command), c.loop-at-test.true)

pub loop-at-preserved : goal.loop-at-preserved
loop-at-preserved c =
    let w = onward ((goal.at.loop-at-preserved c).In_ok-command) in
    let found = c.in_ok-command.command in
    let now = c.loop-at.asked in
    record {
      within = w.1;
      room = omega (arith, w.0, c.room_for.ensures, room_for_le found w.2, c.loop-at.invariant.room);
      commands = omega (arith, w.0, c.loop-at.invariant.commands);
      named = omega (arith, w.0, c.named_by.ensures, named_le found, c.loop-at.invariant.named);
      asks =
          ap₂ (λ (k m : ℕ). asked_with (now.room + k) (now.commands + 1) (now.named + m) (commands_from c.args.s.now c.in_ok-command.next))
          c.room_for.ensures c.named_by.ensures ∙
          asked-turn _ _ now.room now.commands now.named c.loop-at-test.true found _ (is ((goal.at.loop-at-preserved c).In_ok-command)) c.loop-at.invariant.asks;
    }

pub returns : goal.returns
returns c = asked_end _ _ _ _ _ c.loop-at-test.false c.loop-at.invariant.asks
