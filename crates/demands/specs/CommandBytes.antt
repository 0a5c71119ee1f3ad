-- The commands that the bytes of a batch spell: keys and values have 32 bits, panels are 0 to 15, and each takes three bytes or more, so there are
-- at most 10,922 of them. Assumes nothing.
use Rattle.std.specs.Prelude.{◌≡◌, List, ℕ, ◌≤◌, length, Some}
use Rattle.std.proofs.Common.{arith}
use Rattle.laws.specs.BigEndian.{Bytes}
use Rattle.command.specs.declared.Command.{Command}
use Rattle.command.specs.Batch.{commands_of, ValidAll}
use Rattle.command.specs.BatchLaws.{valid_all, commands_from_few, commands_of-read, commands_of_valid}
use Rattle.demands.specs.BatchFits.{most_commands}

module _ (s : List ℕ) (bytes : Bytes s) where
  -- THE COMMANDS OF A BATCH: valid, of 32 bits, and at most 10,922.
  pub record Batch (cs : List Command) : Type 0 where
    pub valid : ValidAll cs
    pub few : length cs ≤ most_commands

  pub commands_of_batch : (cs : List Command) → commands_of s ≡ Some cs → Batch cs
  commands_of_batch cs e =
      let read = commands_of-read s cs e in
      record { valid = valid_all cs (commands_of_valid s bytes cs e); few = omega (arith, commands_from_few s 0 cs read.1, read.0) }
