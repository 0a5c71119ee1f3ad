-- What is left, with what was asked so far, asks for what the whole batch asks for.
use Rattle.std.proofs.Common.{◌≡◌, ◌-◌, ◌*◌, ◌≤◌, length}
use Rattle.command.specs.Batch.{commands_from, asked_of}
use Rattle.command.specs.BatchLaws.{asked_with}
use Rattle.command.proofs.batch.asked.Given as goal

abbrev pub invariant-loop-at : goal.invariant-loop-at
invariant-loop-at l = record {
  within : l.at ≤ length l.s;
  room : l.asked.room ≤ 259 * l.at;
  commands : l.asked.commands ≤ l.at;
  named : l.asked.named ≤ l.at;
  asks : asked_with l.asked.room l.asked.commands l.asked.named (commands_from l.s l.at) ≡ asked_of l.s;
}

abbrev pub decreases-loop-at : goal.decreases-loop-at
decreases-loop-at l = length l.s - l.at
