-- The rules of blocks on the pages as they lie (document 01, "Pages"): "In a block blank pages follow written ones. At least one block is
-- wholly blank; at most one is partly written, and it holds the greatest stamp."
use Rattle.std.specs.Prelude.{Bool, not, ◌&&◌, ◌||◌, List, ℕ, ◌+◌, ◌-◌, ◌*◌, eqb, leb, ltb}
use Rattle.laws.specs.BigEndian.{number_at}
use Rattle.laws.specs.Loops.{first_from, all_from}
use Rattle.layout.specs.Layout.{pages_in_block}
use Rattle.flash_blocks.specs.Pages.{page_at, is_blank}
use Rattle.flash_blocks.specs.Blank.{blank_blocks}

-- The sequence number in a written page's field 10, which stands behind a tag and a length.
unfoldable pub sequence_on : List (List ℕ) → ℕ → ℕ
sequence_on pages q = number_at 4 (page_at pages q) 3

unfoldable pub blank_at : List (List ℕ) → ℕ → Bool
blank_at pages q = is_blank (page_at pages q)

unfoldable pub written_at : List (List ℕ) → ℕ → Bool
written_at pages q = not (blank_at pages q)

unfoldable pub numbered_at : List (List ℕ) → ℕ → ℕ → Bool
numbered_at pages s q = eqb (sequence_on pages q) s

-- The first page of a block, and the page behind it.
abbrev pub start_of : ℕ → ℕ
start_of block = pages_in_block * block

abbrev pub end_of : ℕ → ℕ
end_of block = pages_in_block * block + pages_in_block

-- The first blank page of a block, or the page behind the block; and how many written pages are before it.
unfoldable pub first_blank : List (List ℕ) → ℕ → ℕ
first_blank pages block = first_from (blank_at pages) (end_of block - start_of block) (start_of block)

unfoldable pub fill_of : List (List ℕ) → ℕ → ℕ
fill_of pages block = first_blank pages block - start_of block

-- No written page follows the first blank one.
unfoldable pub rest_blank : List (List ℕ) → ℕ → Bool
rest_blank pages block = eqb (first_from (written_at pages) (end_of block - first_blank pages block) (first_blank pages block)) (end_of block)

-- One of the pages before it has this number.
unfoldable pub holds : List (List ℕ) → ℕ → ℕ → Bool
holds pages s block = ltb (first_from (numbered_at pages s) (first_blank pages block - start_of block) (start_of block)) (first_blank pages block)

-- A block's own rules: filled from its first page up; blank, full, or with the greatest number.
unfoldable pub block_passes : List (List ℕ) → ℕ → ℕ → Bool
block_passes pages newest block =
    rest_blank pages block &&
    (eqb (fill_of pages block) 0 || (eqb (fill_of pages block) pages_in_block || holds pages newest block))

-- All of them, and a blank block.
unfoldable pub blocks_pass : ℕ → List (List ℕ) → ℕ → Bool
blocks_pass blocks pages newest = all_from (block_passes pages newest) blocks 0 && leb 1 (blank_blocks blocks pages)

-- The block of a number, or the number of blocks.
unfoldable pub block_of : ℕ → List (List ℕ) → ℕ → ℕ
block_of blocks pages s = first_from (holds pages s) blocks 0
