-- The value that a get and a delete find. Assumes nothing.
use Rattle.std.specs.Prelude.{Option, ℕ}
use Rattle.account.specs.declared.Tariff.{Tariff}
use Rattle.pairs.specs.Pairs.{lookup}
use Rattle.node.specs.Node.{pairs_of}
use Rattle.flash_allocate.specs.World.{World}
use Rattle.run_path.specs.Descend.{descent}

-- The value at a key in the node in hand where the walk down to it ends.
abbrev pub value_in : Tariff → ℕ → World → Option ℕ
value_in t k w = lookup k (pairs_of (descent t k w).node)
