-- Live pages, read from the rows: a page is live if some node, or the checkpoint being written, lies there (document 01, "Pages").
-- No page is parsed for it.
use Rattle.std.specs.Prelude.{Bool, not, List, ℕ, ◌+◌, ◌*◌, eqb, ltb, get_or, set, replicate}
use Rattle.laws.specs.Tests.{choose}
use Rattle.laws.specs.Counts.{bit}
use Rattle.laws.specs.Loops.{steps, sum_from}
use Rattle.layout.specs.Layout.{pages_in_block}
use Rattle.flash_rows.specs.Row.{no_row}
use Rattle.flash_rows.specs.declared.Row.{Row}

-- The pages of the largest pool: 64 blocks of 32.
abbrev pub most_pages : ℕ
most_pages = 2048

-- The map with the page of slot k marked, where the slot is in use and the map has the page.
unfoldable pub mark_slot : ℕ → ℕ → ℕ → List ℕ → List ℕ
mark_slot k pages slot live = choose (ltb k pages) (choose (ltb slot most_pages) (set live slot 1) live) live

-- The map with the pages of a row marked.
unfoldable pub mark_row : Row → List ℕ → List ℕ
mark_row r live = mark_slot 2 r.pages r.third (mark_slot 1 r.pages r.second (mark_slot 0 r.pages r.first live))

-- The map with the pages of row n marked.
unfoldable pub mark_nth : List Row → ℕ → List ℕ → List ℕ
mark_nth rows n live = mark_row (get_or rows n no_row) live

-- The live pages by the first rows: 1 at each, else 0.
unfoldable pub live_map : ℕ → List Row → List ℕ
live_map used rows = steps (mark_nth rows) used 0 (replicate most_pages 0)

-- Whether a mark is set.
abbrev pub marked : ℕ → Bool
marked mark = not (eqb mark 0)

-- 1 where page k of a block is live.
unfoldable pub live_bit : List ℕ → ℕ → ℕ → ℕ
live_bit live block k = bit (marked (get_or live (pages_in_block * block + k) 0))

-- How many pages of a block are live.
unfoldable pub live_in : List ℕ → ℕ → ℕ
live_in live block = sum_from (live_bit live block) pages_in_block 0
