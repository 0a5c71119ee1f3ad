-- Compaction: "copy the live pages of the written block with fewest live pages, unchanged and in order, into the blank one, erase the old"
-- (document 01, "Pages", its last paragraph). The rows then name the copies.
use Rattle.std.specs.Prelude.{List, ℕ, ◌+◌, ◌*◌, eqb, get_or, set, replicate}
use Rattle.laws.specs.Tests.{choose}
use Rattle.laws.specs.Loops.{steps}
use Rattle.layout.specs.Layout.{pages_in_block}
use Rattle.flash_rows.specs.Row.{no_row}
use Rattle.flash_rows.specs.Step.{moved}
use Rattle.flash_rows.specs.declared.Row.{Row}
use Rattle.flash_blocks.specs.Pages.{copied, erased}
use Rattle.flash_live.specs.Live.{live_map}
use Rattle.flash_live.specs.Choose.{victim}

-- The pages while a block is copied, where each page of the block went, and how many went.
pub record Copying : Type 0 where
  pub pages : List (List ℕ)
  pub places : List ℕ
  pub fill : ℕ

abbrev pub copying : List (List ℕ) → List ℕ → ℕ → Copying
copying pages places fill = record { pages = pages; places = places; fill = fill }

-- Page k of the block at `base` copied behind the pages that went before it, in the block at `first`.
unfoldable pub copy_page : ℕ → ℕ → ℕ → Copying → Copying
copy_page base first k w =
    copying (copied (base + k) (first + w.fill) w.pages) (set w.places k (first + w.fill)) (w.fill + 1)

-- Page k copied where it is live.
unfoldable pub copy_live : List ℕ → ℕ → ℕ → ℕ → Copying → Copying
copy_live live base first k w = choose (eqb (get_or live (base + k) 0) 0) w (copy_page base first k w)

-- The live pages of a block copied, by place in the block.
unfoldable pub copy_block : List ℕ → ℕ → ℕ → Copying → Copying
copy_block live base first w = steps (copy_live live base first) pages_in_block 0 w

-- Row n with the new places of its pages.
unfoldable pub rename_row : ℕ → List ℕ → ℕ → List Row → List Row
rename_row base places n rows = set rows n (moved base places (get_or rows n no_row))

-- The rows in use with the new places of their pages, each row once.
unfoldable pub rename_rows : ℕ → ℕ → List ℕ → List Row → List Row
rename_rows used base places rows = steps (rename_row base places) used 0 rows

-- What a compaction leaves: pages, rows, and how many pages are in the block that was blank.
pub record Compacted : Type 0 where
  pub pages : List (List ℕ)
  pub rows : List Row
  pub fill : ℕ

abbrev pub compacted : List (List ℕ) → List Row → ℕ → Compacted
compacted pages rows fill = record { pages = pages; rows = rows; fill = fill }

-- The rows renamed after the copies, and the old block erased last.
unfoldable pub emptied : ℕ → ℕ → List Row → Copying → Compacted
emptied used block rows w =
    compacted (erased block w.pages) (rename_rows used (pages_in_block * block) w.places rows) w.fill

-- A block moved to the blank block `to`, with the live pages known.
unfoldable pub move_block : List ℕ → ℕ → ℕ → ℕ → List (List ℕ) → List Row → Compacted
move_block live used block to pages rows =
    emptied used block rows (copy_block live (pages_in_block * block) (pages_in_block * to) (copying pages (replicate 32 0) 0))

-- The block with fewest live pages moved to the blank block `to`.
unfoldable pub compact : ℕ → ℕ → ℕ → List (List ℕ) → List Row → Compacted
compact used blocks to pages rows =
    move_block (live_map used rows) used (victim blocks pages (live_map used rows)) to pages rows
