-- A LIST OF NODE REQUESTS served by the code: the world after it, what it is charged, and what it is that it agrees with the model's. Assumes nothing.
use Rattle.std.specs.Prelude.{◌≡◌, List, [], ◌∷◌, ℕ, ◌+◌, ◌*◌, ◌≤◌, length}
use Rattle.layout.specs.Layout.{most_blocks}
use Rattle.account.specs.declared.Tariff.{Tariff}
use Rattle.tree.specs.NodeRequest.{NodeRequest}
use Rattle.store_laws.specs.Numbers.{last}
use Rattle.store_laws.specs.StoreFits.{RunFits}
use Rattle.model.specs.State.{State, serve_all, charges}
use Rattle.demands.specs.Says.{Sound}
use Rattle.flash_allocate.specs.World.{World}
use Rattle.run_refines.specs.Requests.Requests.{Agrees, served, charged}

-- The world after requests served in order, and what they are charged.
abbrev pub served_all : Tariff → List NodeRequest → World → World
served_all t [] w = w
served_all t (r ∷ rs) w = served_all t rs (served t r w)

abbrev pub charged_all : Tariff → List NodeRequest → World → ℕ
charged_all t [] w = 0
charged_all t (r ∷ rs) w = charged t r w + charged_all t rs (served t r w)

-- What is known between requests: pages, rows and state agree with a state whose store holds what it says and fits in bytes.
pub record Runs (blocks : ℕ) (w : World) (s : State) : Type 0 where
  pub few : blocks ≤ most_blocks
  pub agrees : Agrees w s
  pub sound : Sound blocks s
  pub fits : RunFits s.run

-- THE LIST
pub record Ran (blocks : ℕ) (t : Tariff) (rs : List NodeRequest) (w : World) (s : State) : Type 0 where
  pub runs : Runs blocks (served_all t rs w) (serve_all t rs s)
  pub charge : charged_all t rs w ≡ charges t rs s
  pub number : last (serve_all t rs s).run ≤ 4 * length rs + last s.run
