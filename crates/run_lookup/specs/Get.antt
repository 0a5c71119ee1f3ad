-- LOOK UP (document 01, command 01; "Every command reads the nodes from root to leaf"). Assumes nothing.
use Rattle.std.specs.Prelude.{List, ℕ}
use Rattle.layout.specs.Layout.{node_limit, most_blocks}
use Rattle.account.specs.declared.Tariff.{Tariff}
use Rattle.command.specs.declared.Answer.TheVariants.{Got}
use Rattle.command.specs.Answer.{value_or}
use Rattle.flash_rows.specs.Worktable.{Worktable}
use Rattle.flash_allocate.specs.World.{World, Kept}
use Rattle.run_serve.specs.Step.{Answered, AnsweredAs}
use Rattle.run_path.specs.Descend.{descent}
use Rattle.run_lookup.specs.Value.{value_in}

-- What the code of a get leaves: the nodes from root to leaf read, what that is charged, and "answer 81 with the card word", or 80.
abbrev pub GotAs : ℕ → ℕ → List (List ℕ) → Worktable → Answered → Tariff → ℕ → World → Type 0
GotAs pool_length table_length pages table r t k w =
    AnsweredAs Kept pool_length table_length pages table r w.state (node_limit most_blocks) (descent t k w).now (descent t k w).charge
    (value_or Got (value_in t k w))
