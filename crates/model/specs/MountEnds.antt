-- How a mount ends, by the number of the first no: it refuses with that number, or opens where there is none. Assumes nothing.
use Rattle.std.specs.Prelude.{◌≡◌, List, ℕ, ◌≤◌}
use Rattle.account.specs.declared.Tariff.{Tariff}
use Rattle.model.specs.State.{State}
use Rattle.model.specs.Mount.{Mounted, refused, opened}
use Rattle.model.specs.Questions.{first_no, of_pool}

pub data MountEnds : ℕ → Mounted → Type 0 where
  unopened : (n : ℕ) → 5 ≤ n → n ≤ 8 → MountEnds n (refused n)
  mounted : (t : Tariff) (s : State) → MountEnds 0 (opened t s)

pub record FirstNo (pool : List ℕ) (n : ℕ) : Type 0 where
  pub first : first_no (of_pool pool) ≡ n
  pub least : 5 ≤ n
  pub most : n ≤ 8
