-- A pool whose tree is not sound is refused whatever stands for a node that is none: where one table has no node for a node that is not neat,
-- the test says the same of both. Assumes nothing.
use Rattle.std.specs.Prelude.{◌≡◌, refl, ◌⊎◌, ℕ, ◌<◌}
use Rattle.std.proofs.Common.{inl, inr, arith}
use Rattle.node.specs.Node.{Neat}
use Rattle.store.specs.Store.{no_node}
use Rattle.tree.specs.Table.{Table}
use Rattle.tree.specs.Sound.{sound}
use Rattle.tree_laws.specs.Standing.{Proper}
use Rattle.tree_laws.proofs.Agree.{sound_proper}

-- A branch without a key is in no sound tree.
pub no_node_improper : Proper no_node → ⊥
no_node_improper p = omega (arith, p.keyed refl)

-- Two tables have the same nodes below a count, but that the second has no node where the first has one that is not neat.
abbrev pub SameNeat : ℕ → Table → Table → Type 0
SameNeat count table table' = (i : ℕ) → i < count → (table i ≡ table' i) ⊎ ((Neat (table i) → ⊥) × (table' i ≡ no_node))

pub sound_neat : (limit count : ℕ) (table table' : Table) → SameNeat count table table' → sound limit count table ≡ sound limit count table'
sound_neat limit count table table' e = sound_proper limit count table table' (λ i l. go i (e i l))
  where
    go : (i : ℕ) → (table i ≡ table' i) ⊎ ((Neat (table i) → ⊥) × (table' i ≡ no_node)) →
        (table i ≡ table' i) ⊎ ((Proper (table i) → ⊥) × (Proper (table' i) → ⊥))
    go i (inl f) = inl f
    go i (inr f) = inr (λ p. f.0 p.neat, λ p. no_node_improper (rw f.1 at p))
