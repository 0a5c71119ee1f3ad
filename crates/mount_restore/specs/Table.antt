-- The rows restored from a pool: from an empty table, the scores of the checkpoint, then the version, the mode and the pages of each node.
-- Assumes nothing.
use Rattle.std.specs.Prelude.{◌≡◌, Bool, List, ℕ, ◌-◌, ◌*◌, replicate}
use Rattle.layout.specs.Layout.{pages_in_block, table_bytes}
use Rattle.flash_rows.specs.Row.{rows_of}
use Rattle.flash_rows.specs.declared.Row.{Row}
use Rattle.flash_rows.specs.Worktable.{Worktable, worktable, rows_at, buffer_bytes}
use Rattle.mount_rows.specs.Fill.{filled, within_three}
use Rattle.mount_checkpoint.specs.Scores.{take_pages}

-- The rows of an empty table.
unfoldable pub empty_rows : ℕ → List Row
empty_rows blocks = rows_of (replicate (table_bytes blocks - rows_at) 0)

-- With the scores that the pages from a number on have.
unfoldable pub scored_rows : ℕ → ℕ → ℕ → List (List ℕ) → List Row
scored_rows blocks nodes since pages = take_pages pages (pages_in_block * blocks) since nodes (empty_rows blocks)

-- And with what all pages say of each node.
unfoldable pub restored_rows : ℕ → ℕ → ℕ → List (List ℕ) → List Row
restored_rows blocks nodes since pages = filled blocks nodes pages (scored_rows blocks nodes since pages)

-- The work table then: no entry in the buffer, and these rows.
abbrev pub restored_table : ℕ → ℕ → ℕ → List (List ℕ) → Worktable
restored_table blocks nodes since pages = worktable (replicate buffer_bytes 0) (restored_rows blocks nodes since pages)

-- What restoring it leaves, and whether no node lies on more than three pages.
pub record Restored (blocks nodes since : ℕ) (pages : List (List ℕ)) (after : Worktable) (answer : Bool) : Type 0 where
  pub table : after ≡ restored_table blocks nodes since pages
  pub three : answer ≡ within_three nodes after.rows
