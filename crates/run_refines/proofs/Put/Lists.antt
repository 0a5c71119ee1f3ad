-- A LIST OF NODE REQUESTS that fits a state, and what is left of it by code and model. Assumes nothing.
use Rattle.std.specs.Prelude.{ℕ, ◌+◌, ◌*◌, ◌<◌, length, List}
use Rattle.laws.specs.Every.{Every}
use Rattle.layout.specs.Layout.{node_limit, bound32}
use Rattle.account.specs.declared.Tariff.{Tariff}
use Rattle.tree.specs.NodeRequest.{NodeRequest}
use Rattle.tree.specs.Narrow.{NarrowRequest}
use Rattle.tree.specs.Fit.{Fits}
use Rattle.store_laws.specs.Numbers.{last}
use Rattle.model.specs.State.{State, book_of}
use Rattle.flash_allocate.specs.World.{World}
use Rattle.run_refines.specs.Commands.Lists.{Runs, Ran}
use Rattle.run_refines.proofs.Commands.Lists.{list_runs}

-- A list of requests fits a state: its table, 32-bit numbers, and the sequence numbers that are left.
pub record Suits (B : ℕ) (rs : List NodeRequest) (s : State) (final : ℕ) : Type 0 where
  pub fits : Fits (node_limit B) rs (book_of s).table (book_of s).count final
  pub narrow : Every NarrowRequest rs
  pub number : 1 + (4 * length rs + last s.run) < bound32

pub served_together : (t : Tariff) {B : ℕ} (rs : List NodeRequest) (s : State) (w : World) (final : ℕ) → Runs B w s → Suits B rs s final → Ran B t rs w s
served_together t rs s w final k f = list_runs t rs final k f.fits f.narrow f.number
