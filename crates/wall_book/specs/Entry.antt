-- The numbers that a batch answers, as the definitions take them. Assumes nothing.
use Rattle.std.specs.Prelude.{ℕ}
use Rattle.batch.specs.Left.{Outcome}

-- What a batch answers, in two places.
abbrev pub outcome : ℕ → ℕ → Outcome
outcome number length = record { number = number; length = length }
