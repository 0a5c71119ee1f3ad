-- The scores of the nodes as the rows hold them, by ascending id, and their records of 6 bytes (document 01, "Closing pages").
use Rattle.std.specs.Prelude.{List, [], ◌∷◌, ◌++◌, ℕ, zero, suc, ◌+◌, get_or}
use Rattle.flash_rows.specs.Row.{no_row}
use Rattle.flash_rows.specs.declared.Row.{Row}
use Rattle.page.specs.Page.{Score}
use Rattle.page.specs.Image.{score_bytes}
use Rattle.page_checkpoint.specs.Checkpoint.{scored}

-- The scores of n nodes from one on.
unfoldable pub scores_of : List Row → ℕ → ℕ → List Score
scores_of rows from zero = []
scores_of rows from (suc n) = scored from (get_or rows from no_row).score ∷ scores_of rows (from + 1) n

-- Their records, one behind another.
unfoldable pub scores_bytes : List Score → List ℕ
scores_bytes [] = []
scores_bytes (s ∷ ss) = score_bytes s ++ scores_bytes ss
