-- The rows filled from all pages, in order of place, and the question "at most three pages a log node" (document 01, "Nodes and tree").
use Rattle.std.specs.Prelude.{◌≡◌, Bool, true, ◌&&◌, List, ℕ, zero, suc, ◌*◌, leb, get_or}
use Rattle.laws.specs.Loops.{steps}
use Rattle.layout.specs.Layout.{pages_in_block, most_entries, most_log_pages}
use Rattle.flash_rows.specs.Row.{no_row}
use Rattle.flash_rows.specs.declared.Row.{Row}
use Rattle.flash_blocks.specs.Pages.{page_at}
use Rattle.mount_rows.specs.Pieces.{seen_run, seen_node}

-- The pieces on the page at a place.
unfoldable pub seen_page : ℕ → List (List ℕ) → ℕ → List Row → List Row
seen_page nodes pages q rows = seen_node nodes q (page_at pages q) (seen_run nodes q most_entries (page_at pages q) 7 rows)

-- The pieces on all pages.
unfoldable pub filled : ℕ → ℕ → List (List ℕ) → List Row → List Row
filled blocks nodes pages rows = steps (seen_page nodes pages) (pages_in_block * blocks) 0 rows

-- "At most three pages": of the first rows.
unfoldable pub within_three : ℕ → List Row → Bool
within_three zero rows = true
within_three (suc n) rows = leb (get_or rows n no_row).pages most_log_pages && within_three n rows

-- What filling the rows leaves and answers.
pub record Filled (blocks nodes : ℕ) (pages : List (List ℕ)) (before after : List Row) (answer : Bool) : Type 0 where
  pub rows : after ≡ filled blocks nodes pages before
  pub three : answer ≡ within_three nodes after
