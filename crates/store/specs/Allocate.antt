-- Where the next page goes (document 01, "Pages", its last three sentences). Assumes nothing.
use Rattle.std.specs.Prelude.{Bool, true, false, [], ◌∷◌, ℕ, zero, suc, ◌+◌, leb, ltb, length, set, Option, None, Some}
use Rattle.laws.specs.Counts.{bit, count, filter, empty}
use Rattle.page.specs.Page.{Page}
use Rattle.store.specs.Pool.{Blocks, block}

-- How many blocks are blank.
abbrev pub blanks : Blocks → ℕ
blanks [] = 0
blanks (b ∷ bs) = bit (empty b) + blanks bs

-- "The next blank one upwards and round": the first blank block above the current one, else the first of all.
abbrev pub later : Option ℕ → Option ℕ
later None = None
later (Some i) = Some (suc i)

abbrev pub here_or : Bool → Option ℕ → Option ℕ
here_or true found = Some 0
here_or false found = later found

abbrev pub blank_from : ℕ → Blocks → Option ℕ
blank_from k [] = None
blank_from zero (b ∷ bs) = here_or (empty b) (blank_from zero bs)
blank_from (suc k) (b ∷ bs) = later (blank_from k bs)

abbrev pub first_of : Option ℕ → Option ℕ → ℕ
first_of (Some i) other = i
first_of None (Some i) = i
first_of None None = 0

abbrev pub next_blank : Blocks → ℕ → ℕ
next_blank bs current = first_of (blank_from (suc current) bs) (blank_from 0 bs)

-- "The written block with fewest live pages (lowest number on a tie)": its number and how many live pages it has.
pub data Choice : Type 0 where
  nothing : Choice
  taken : ℕ → ℕ → Choice

abbrev pub better : Bool → ℕ → ℕ → ℕ → Choice
better true few i fewest = taken 0 few
better false few i fewest = taken (suc i) fewest

abbrev pub compare : Bool → ℕ → Choice → Choice
compare true few nothing = nothing
compare true few (taken i fewest) = taken (suc i) fewest
compare false few nothing = taken 0 few
compare false few (taken i fewest) = better (leb few fewest) few i fewest

abbrev pub fewest : (Page → Bool) → Blocks → Choice
fewest live [] = nothing
fewest live (b ∷ bs) = compare (empty b) (count live b) (fewest live bs)

abbrev pub block_taken : Choice → ℕ
block_taken nothing = 0
block_taken (taken i few) = i

abbrev pub victim : (Page → Bool) → Blocks → ℕ
victim live bs = block_taken (fewest live bs)

-- Compaction: "copy the live pages .. unchanged and in order, into the blank one, erase the old".
abbrev pub copied : (Page → Bool) → Blocks → ℕ → ℕ → Blocks
copied live bs from to = set bs to (filter live (block bs from))

abbrev pub compact : (Page → Bool) → Blocks → ℕ → ℕ → Blocks
compact live bs from to = set (copied live bs from to) from []

-- The blocks, compacted where that was needed, and the block in which the next page goes behind what is written.
pub record Spot : Type 0 where
  pub blocks : Blocks
  pub current : ℕ

-- The current block while it has room; "if two or more blocks are blank, take the next blank one"; otherwise compact "and go
-- on behind the copies".
abbrev pub spot_by : Bool → Bool → (Page → Bool) → Blocks → ℕ → Spot
spot_by true two live bs current = record { blocks = bs; current = current }
spot_by false true live bs current = record { blocks = bs; current = next_blank bs current }
spot_by false false live bs current =
    record { blocks = compact live bs (victim live bs) (next_blank bs current); current = next_blank bs current }

-- with `width` pages in a block
unfoldable pub spot : ℕ → (Page → Bool) → Blocks → ℕ → Spot
spot width live bs current = spot_by (ltb (length (block bs current)) width) (leb 2 (blanks bs)) live bs current
