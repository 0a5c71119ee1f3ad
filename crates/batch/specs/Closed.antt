-- What is left where a call ends: refused for what is lent; refused for its pool, with the table zero; or closed, with the checkpoint written
-- too. Assumes nothing.
use Rattle.std.specs.Prelude.{◌≡◌, List, ℕ, length, replicate}
use Rattle.account.specs.declared.Tariff.{Tariff}
use Rattle.model.specs.Pool.{blocks_of}
use Rattle.model.specs.Outcome.{table_after}
use Rattle.flash_rows.specs.Worktable.{Worktable}
use Rattle.flash_blocks.specs.Pages.{pages_of}
use Rattle.flash_allocate.specs.declared.state.State.{State}
use Rattle.flash_allocate.specs.World.{world, world_in}
use Rattle.flash_checkpoint.specs.CheckpointPages.{checkpoint, Ended}
use Rattle.run.specs.Session.{Ran}
use Rattle.batch.specs.Left.{Outcome, refused_with}

-- What is told of a call that was run.
abbrev pub done_with : Ran → Outcome
done_with p = record { number = 0; length = p.at }

abbrev pub zeros : ℕ → List ℕ
zeros n = replicate n 0

pub record Refused (pool table table' : List ℕ) (number : ℕ) (r : Outcome) : Type 0 where
  pub says : r ≡ refused_with number
  pub left : table' ≡ table_after number (blocks_of pool) table

pub record Unopened (table table' : List ℕ) (number : ℕ) (r : Outcome) : Type 0 where
  pub says : r ≡ refused_with number
  pub zero : table' ≡ zeros (length table)

-- The rows and the state behind the checkpoint are of no more use.
pub record Closed (pool pool' table table' : List ℕ) (done : Ran) (t : Tariff) (r : Outcome) : Type 0 where
  pub says : r ≡ done_with done
  pub zero : table' ≡ zeros (length table)
  pub sizes : ℕ × ℕ
  pub rows : Worktable
  pub state : State
  pub ended : Ended sizes.0 sizes.1 done.state (world (pages_of pool') rows state) (checkpoint t (world_in pool table done.state))
