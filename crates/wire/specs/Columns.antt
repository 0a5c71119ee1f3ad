-- Sixteen columns that a page is summed by, row by row: each column keeps the sum of its bytes (low) and the sum of its earlier sums (high).
-- Assumes nothing.
use Rattle.std.specs.Prelude.{◌≡◌, List, ℕ, ◌+◌, ◌*◌, ◌≤◌, length}
use Rattle.wire.specs.declared.sum.Sums.{Sums}
use Rattle.wire.specs.Sum.{total, running}

-- What the columns of so many rows add up to.
abbrev pub column_sums : List ℕ → List ℕ → ℕ → Sums
column_sums low high rows = record { a = 1 + total low; b = 16 * (rows + total high) + running 0 low }

-- The columns of so many rows are sixteen, and small: a row adds at most 16 * 255 to the lows, and the lows of at most 255 rows to the highs.
pub record Few (rows : ℕ) (low high : List ℕ) : Type 0 where
  pub lows : length low ≡ 16
  pub highs : length high ≡ 16
  pub low_sum : total low ≤ 4080 * rows
  pub high_sum : total high ≤ 1040400 * rows
