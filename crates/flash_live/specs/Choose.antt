-- "The written block with fewest live pages (lowest number on a tie)" (document 01, "Pages", its last paragraph).
use Rattle.std.specs.Prelude.{List, ◌≡◌, ℕ, ◌≤◌, max, ltb}
use Rattle.laws.specs.Tests.{choose}
use Rattle.laws.specs.Loops.{steps}
use Rattle.flash_blocks.specs.Blank.{blank_block}
use Rattle.flash_live.specs.Live.{live_in}
use Rattle.flash_live.specs.declared.Choice.{Choice}

abbrev pub choice : ℕ → ℕ → Choice
choice block live = record { block = block; live = live }

-- The better of a block and the best so far: a blank block is none, and a tie keeps the lower one.
unfoldable pub weigh : List (List ℕ) → List ℕ → ℕ → Choice → Choice
weigh pages live block best =
    choose (blank_block pages block) best (choose (ltb (live_in live block) best.live) (choice block (live_in live block)) best)

-- The best of all blocks; no block has 33 live pages.
unfoldable pub best : ℕ → List (List ℕ) → List ℕ → Choice
best blocks pages live = steps (weigh pages live) blocks 0 (choice 0 33)

-- The block to compact.
unfoldable pub victim : ℕ → List (List ℕ) → List ℕ → ℕ
victim blocks pages live = (best blocks pages live).block

-- The choice after a block was weighed; it is the block or the one before it.
pub record Weighed (right : Choice) (block : ℕ) (best r : Choice) : Type 0 where
  pub is : r ≡ right
  pub inside : r.block ≤ max block best.block
