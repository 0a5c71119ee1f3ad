-- The commands of a batch that questions 3 and 4 let through: it is short and has room for its answers. Assumes nothing.
use Rattle.std.specs.Prelude.{◌≡◌, List, [], ℕ, ◌≤◌, length, Option, None, Some}
use Rattle.std.proofs.Common.{sym, ◌∙◌, arith}
use Rattle.std.proofs.Math.Path.{ap}
use Rattle.layout.specs.Layout.{most_batch_bytes}
use Rattle.command.specs.declared.Command.{Command}
use Rattle.command.specs.Batch.{commands_from, commands_of, room_for_all}
use Rattle.command.specs.BatchLaws.{commands_of-read}

-- The commands of a batch; none are said of one that is not valid.
abbrev pub list_or : Option (List Command) → List Command
list_or None = []
list_or (Some cs) = cs

unfoldable pub commands_in : List ℕ → List Command
commands_in batch = list_or (commands_from batch 0)

-- What questions 3 and 4 leave: a batch that is short enough, valid, and has room for its answers.
pub record Fits (batch : List ℕ) (bytes : ℕ) : Type 0 where
  pub short : length batch ≤ most_batch_bytes
  pub valid : commands_from batch 0 ≡ Some (commands_in batch)
  pub room : room_for_all (commands_in batch) ≤ bytes

module _ (batch : List ℕ) where
  -- by question 3: commands that are valid are those here
  module _ (cs : List Command) (e : commands_of batch ≡ Some cs) where
    pub commands_in-is : commands_in batch ≡ cs
    unfolding commands_in
    commands_in-is = ap list_or (commands_of-read batch cs e).1

    pub valid_fits : (bytes : ℕ) → room_for_all cs ≤ bytes → Fits batch bytes
    valid_fits bytes r =
        record {
          short = (commands_of-read batch cs e).0;
          valid = (commands_of-read batch cs e).1 ∙ ap Some (sym commands_in-is);
          room = omega (arith, r, ap room_for_all commands_in-is);
        }
