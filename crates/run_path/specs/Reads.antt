-- Nodes read in order, each a node request (document 01, "Account serves them in order").
use Rattle.std.specs.Prelude.{List, [], ◌∷◌, ℕ, ◌+◌}
use Rattle.account.specs.declared.Tariff.{Tariff}
use Rattle.flash_rows.specs.Worktable.{Worktable}
use Rattle.store.specs.Serve.{read}
use Rattle.flash_allocate.specs.World.{World, Kept}
use Rattle.run_serve.specs.Serve.{serve, charge}
use Rattle.run_serve.specs.Step.{Charged, ChargedAs}

-- The world after reads of these nodes, and what they are charged.
abbrev pub read_all : Tariff → List ℕ → World → World
read_all t [] w = w
read_all t (n ∷ ns) w = read_all t ns (serve t n read w)

abbrev pub read_charges : Tariff → List ℕ → World → ℕ
read_charges t [] w = 0
read_charges t (n ∷ ns) w = charge t n read w + read_charges t ns (serve t n read w)

-- What the code of reads leaves: this world, and these charges, of at most so many requests.
abbrev pub ReadAs : ℕ → ℕ → List (List ℕ) → Worktable → Charged → Tariff → ℕ → List ℕ → World → Type 0
ReadAs pool_length table_length pages table r t requests ns w =
    ChargedAs Kept pool_length table_length pages table r w.state requests (read_all t ns w) (read_charges t ns w)
