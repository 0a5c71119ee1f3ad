-- The pool's bytes: 512 for each cell, the image of its page or all FF; and the cells that bytes spell, where every page of them checks
-- by itself (document 01, "Pool and buffers", "Pages", and the part of question 5 that is about one page). Assumes nothing.
use Rattle.std.specs.Prelude.{List, [], ◌∷◌, ◌++◌, ℕ, zero, suc, ◌/◌, length, take, drop, Option, None, Some}
use Rattle.layout.specs.Layout.{page_bytes}
use Rattle.page.specs.Page.{Page}
use Rattle.page.specs.Image.{image, blank_bytes}
use Rattle.page.specs.Decode.{Decoded, blank, written, bad, decode}
use Rattle.store.specs.Reopen.{Cells}

-- The bytes of a cell: a page's image; "a blank page is 512 bytes of hexadecimal FF".
abbrev pub cell_bytes : Option Page → List ℕ
cell_bytes None = blank_bytes
cell_bytes (Some p) = image p

-- The bytes of a pool: cell after cell.
abbrev pub bytes_of : Cells → List ℕ
bytes_of [] = []
bytes_of (c ∷ cs) = cell_bytes c ++ bytes_of cs

-- What bytes that were judged as a page are as a cell; bytes that do not check are none.
abbrev pub cell_from : Decoded → Option (Option Page)
cell_from blank = Some None
cell_from (written p) = Some (Some p)
cell_from bad = None

-- A cell in front of others, where neither is bad.
abbrev pub joined : Option (Option Page) → Option Cells → Option Cells
joined None rest = None
joined (Some c) None = None
joined (Some c) (Some cs) = Some (c ∷ cs)

-- So many cells of so many bytes each.
unfoldable pub cells_from : ℕ → ℕ → List ℕ → Option Cells
cells_from width zero bs = Some []
cells_from width (suc k) bs = joined (cell_from (decode (take width bs))) (cells_from width k (drop width bs))

-- The cells of a pool's bytes; none, where a page does not check.
unfoldable pub cells_of : List ℕ → Option Cells
cells_of bs = cells_from page_bytes (length bs / page_bytes) bs
