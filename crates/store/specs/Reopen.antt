-- The pool as it lies, cell by cell, a cell holding a page or nothing; the store that such cells spell; and the tests that document
-- 01 makes of all pages together (its question 5). Assumes nothing.
use Rattle.std.specs.Prelude.{Bool, true, false, ◌&&◌, ◌||◌, List, [], ◌∷◌, ◌++◌, ℕ, zero, suc, ◌+◌, ◌*◌, max, eqb, leb, ltb, length, take, drop, Option, None, Some}
use Rattle.laws.specs.Counts.{count, tally, empty}
use Rattle.layout.specs.Layout.{pages_in_block}
use Rattle.page.specs.Page.{Entry, Page, page, log, whole, checkpoint, sequence}
use Rattle.store.specs.Pool.{Blocks, numbered}
use Rattle.store.specs.Allocate.{blanks}
use Rattle.store.specs.Store.{Store}

abbrev pub Cells : Type 0
Cells = List (Option Page)

-- The cells of a block of some width: what is written, then blank.
unfoldable pub cells_in : ℕ → List Page → Cells
cells_in zero b = []
cells_in (suc k) [] = None ∷ cells_in k []
cells_in (suc k) (p ∷ b) = Some p ∷ cells_in k b

abbrev pub cells : ℕ → Blocks → Cells
cells width [] = []
cells width (b ∷ bs) = cells_in width b ++ cells width bs

-- And back: the written pages up to the first blank cell; so many blocks of so many cells.
abbrev pub block_in : Cells → List Page
block_in [] = []
block_in (None ∷ c) = []
block_in (Some p ∷ c) = p ∷ block_in c

abbrev pub blocks_in : ℕ → ℕ → Cells → Blocks
blocks_in width zero c = []
blocks_in width (suc k) c = block_in (take width c) ∷ blocks_in width k (drop width c)

-- The greatest sequence number.
abbrev pub greatest_of : List Page → ℕ
greatest_of [] = 0
greatest_of (p ∷ b) = max (sequence p) (greatest_of b)

abbrev pub newest : Blocks → ℕ
newest [] = 0
newest (b ∷ bs) = max (greatest_of b) (newest bs)

-- The block of a sequence number.
abbrev pub here_or_next : Bool → ℕ → ℕ
here_or_next true i = 0
here_or_next false i = suc i

abbrev pub block_of : ℕ → Blocks → ℕ
block_of s [] = 0
block_of s (b ∷ bs) = here_or_next (ltb 0 (count (numbered s) b)) (block_of s bs)

-- The store that blocks spell between calls: the buffer is empty, the greatest stamp is the last, its block the current one.
abbrev pub store_of : Blocks → Store
store_of bs = record { blocks = bs; current = block_of (newest bs) bs; buffer = []; last = newest bs }

unfoldable pub reopened : ℕ → Cells → Store
reopened blocks c = store_of (blocks_in pages_in_block blocks c)

-- The pool of a store.
abbrev pub pool_of : Store → Cells
pool_of st = cells pages_in_block st.blocks

-- "In a block blank pages follow written ones."
abbrev pub blank : Cells → Bool
blank [] = true
blank (None ∷ c) = blank c
blank (Some p ∷ c) = false

abbrev pub filled : Cells → Bool
filled [] = true
filled (None ∷ c) = blank c
filled (Some p ∷ c) = filled c

abbrev pub all_filled : ℕ → ℕ → Cells → Bool
all_filled width zero c = true
all_filled width (suc k) c = filled (take width c) && all_filled width k (drop width c)

-- "Page stamps all differ."
abbrev pub differ_in : List Page → Blocks → Bool
differ_in [] bs = true
differ_in (p ∷ b) bs = eqb (count (numbered (sequence p)) b + tally (numbered (sequence p)) bs) 0 && differ_in b bs

abbrev pub differ : Blocks → Bool
differ [] = true
differ (b ∷ bs) = differ_in b bs && differ bs

-- "At most one is partly written, and it holds the greatest stamp": each block is blank, or full, or holds it.
abbrev pub full_or : ℕ → ℕ → List Page → Bool
full_or width s b = empty b || (eqb (length b) width || ltb 0 (count (numbered s) b))

abbrev pub full_or_all : ℕ → ℕ → Blocks → Bool
full_or_all width s [] = true
full_or_all width s (b ∷ bs) = full_or width s b && full_or_all width s bs

-- The block rules, "at least one block is wholly blank" among them.
unfoldable pub blocks_pass : ℕ → ℕ → Cells → Bool
blocks_pass width k c =
    let bs = blocks_in width k c in
    eqb (length c) (width * k) && (all_filled width k c && (differ bs && (leb 1 (blanks bs) && full_or_all width (newest bs) bs)))

-- "A version is the stamp of the node's fresh start and is below the page's stamp", stamps are "from 1", and no page's stamp "is
-- the version of a log entry".
abbrev pub version_passes : ℕ → Blocks → Entry → Bool
version_passes s bs e = leb 1 e.version && (ltb e.version s && eqb (tally (numbered e.version) bs) 0)

abbrev pub versions_pass : ℕ → Blocks → List Entry → Bool
versions_pass s bs [] = true
versions_pass s bs (e ∷ es) = version_passes s bs e && versions_pass s bs es

abbrev pub page_passes : Blocks → Page → Bool
page_passes bs (page s (log es)) = leb 1 s && versions_pass s bs es
page_passes bs (page s (whole n x)) = leb 1 s
page_passes bs (page s (checkpoint t scores n)) = leb 1 s

abbrev pub every : (Page → Bool) → List Page → Bool
every f [] = true
every f (p ∷ b) = f p && every f b

abbrev pub every_page : (Page → Bool) → Blocks → Bool
every_page f [] = true
every_page f (b ∷ bs) = every f b && every_page f bs

-- All of them, of a pool of so many blocks.
unfoldable pub pages_pass : ℕ → Cells → Bool
pages_pass blocks c =
    let bs = blocks_in pages_in_block blocks c in
    blocks_pass pages_in_block blocks c && every_page (page_passes bs) bs
