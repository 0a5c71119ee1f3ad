-- "Scores below the limit": asked of the rows once they are restored. Assumes nothing.
use Rattle.std.specs.Prelude.{Bool, List, ℕ, ltb, get_or}
use Rattle.flash_rows.specs.Row.{no_row}
use Rattle.flash_rows.specs.declared.Row.{Row}

-- Whether a node's score is below a limit.
unfoldable pub is_below : ℕ → List Row → ℕ → Bool
is_below limit rows n = ltb (get_or rows n no_row).score limit
