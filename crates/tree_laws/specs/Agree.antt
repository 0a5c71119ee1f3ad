-- Two tables that agree below a count: the same nodes, or neither a node that a sound tree may have. Assumes nothing.
use Rattle.std.specs.Prelude.{◌≡◌, ◌⊎◌, ℕ, ◌<◌}
use Rattle.tree.specs.Table.{Table}
use Rattle.tree_laws.specs.Standing.{Proper}

-- Two tables have the same nodes below a count.
abbrev pub Agree : ℕ → Table → Table → Type 0
Agree count table table' = (i : ℕ) → i < count → table i ≡ table' i

-- They have the same, or neither has there a node that a sound tree may have.
abbrev pub AgreeProper : ℕ → Table → Table → Type 0
AgreeProper count table table' = (i : ℕ) → i < count → (table i ≡ table' i) ⊎ ((Proper (table i) → ⊥) × (Proper (table' i) → ⊥))
