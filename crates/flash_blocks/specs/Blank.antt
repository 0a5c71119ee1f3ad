-- Blank blocks, and "the next blank one upwards and round" (document 01, "Pages", its last paragraph).
use Rattle.std.specs.Prelude.{◌≡◌, refl, Bool, true, false, List, ℕ, ◌+◌, ◌-◌, ◌*◌, ltb}
use Rattle.std.specs.Int.{from_bool}
use Rattle.laws.specs.Tests.{choose}
use Rattle.laws.specs.Counts.{bit}
use Rattle.laws.specs.Loops.{sum_from, first_from}
use Rattle.layout.specs.Layout.{pages_in_block}
use Rattle.flash_blocks.specs.Pages.{page_at, is_blank}

-- Whether a block is blank: "each block fills from its first page up".
unfoldable pub blank_block : List (List ℕ) → ℕ → Bool
blank_block pages block = is_blank (page_at pages (pages_in_block * block))

-- 1 for a blank block, 0 for a written one.
unfoldable pub blank_bit : List (List ℕ) → ℕ → ℕ
blank_bit pages block = bit (blank_block pages block)

-- The library's number for a test is that bit.
pub from_bool-bit : (b : Bool) → from_bool b ≡ bit b
from_bool-bit true = refl
from_bool-bit false = refl

-- How many blocks are blank.
unfoldable pub blank_blocks : ℕ → List (List ℕ) → ℕ
blank_blocks blocks pages = sum_from (blank_bit pages) blocks 0

-- The first blank block at or above one, or the number of blocks.
unfoldable pub blank_from : ℕ → ℕ → List (List ℕ) → ℕ
blank_from blocks from pages = first_from (blank_block pages) (blocks - from) from

-- The first of two numbers that is below a bound, or 0.
abbrev pub first_below : ℕ → ℕ → ℕ → ℕ
first_below bound a b = choose (ltb a bound) a (choose (ltb b bound) b 0)

-- The next blank block, counted from the one behind the current one; block 0 where none is blank.
unfoldable pub next_blank : ℕ → ℕ → List (List ℕ) → ℕ
next_blank blocks current pages = first_below blocks (blank_from blocks (current + 1) pages) (blank_from blocks 0 pages)
