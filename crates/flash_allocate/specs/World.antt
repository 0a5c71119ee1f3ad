-- What the code of a batch works on, one level above the bytes: the pages, what the work table holds, and the state that goes by value.
use Rattle.std.specs.Prelude.{◌≡◌, List, ℕ, ◌+◌, ◌*◌, ◌≤◌, ◌<◌, length}
use Rattle.layout.specs.Layout.{fewest_blocks, most_blocks, block_bytes, table_bytes, pages_in_block, most_entries}
use Rattle.flash_allocate.specs.declared.state.State.{State}
use Rattle.flash_blocks.specs.Pages.{pages_of}
use Rattle.flash_rows.specs.Worktable.{Worktable, table_from, rows_for}

pub record World : Type 0 where
  pub pages : List (List ℕ)
  pub table : Worktable
  pub state : State

abbrev pub world : List (List ℕ) → Worktable → State → World
world pages table state = record { pages = pages; table = table; state = state }

-- The world of a pool and a table, as bytes, and a state.
abbrev pub world_in : List ℕ → List ℕ → State → World
world_in pool table state = world (pages_of pool) (table_from table) state

-- The rows in use: one a node, then one for each checkpoint page being written.
abbrev pub used : State → ℕ
used s = s.nodes + s.checkpoint

-- The page that is written next, where the current block has room.
abbrev pub spot : State → ℕ
spot s = pages_in_block * s.current + s.fill

-- What every step keeps: a pool and a table of these lengths are those of the state's blocks, and its numbers are in range.
pub record Good (pool_length table_length : ℕ) (s : State) : Type 0 where
  pub few : fewest_blocks ≤ s.blocks
  pub most : s.blocks ≤ most_blocks
  pub pool : pool_length ≡ block_bytes * s.blocks
  pub table : table_bytes s.blocks ≤ table_length
  pub inside : s.current < s.blocks
  pub full : s.fill ≤ pages_in_block
  pub used : s.nodes + s.checkpoint ≤ rows_for s.blocks
  pub entries : s.entries ≤ most_entries

-- A step's result: the world asked for, still good.
pub record Made (pool_length table_length : ℕ) (made right : World) : Type 0 where
  pub is : made ≡ right
  pub good : Good pool_length table_length made.state

-- The same of a pool and a table, as bytes.
abbrev pub MadeIn : List ℕ → List ℕ → State → World → Type 0
MadeIn pool table r right = Made (length pool) (length table) (world_in pool table r) right

-- How a step leaves a pool and a table of these lengths: the state before it, the world that it made, the world asked for.
abbrev pub Leaves : Type 1
Leaves = ℕ → ℕ → State → World → World → Type 0

-- The same of a pool and a table, as bytes, and a state.
abbrev pub LeftIn : Leaves → List ℕ → List ℕ → State → State → World → Type 0
LeftIn step pool table before r right = step (length pool) (length table) before (world_in pool table r) right

-- How a number goes on from before a step to behind it: it stays, it is one more, it is one more at most, or nothing is said.
abbrev pub Stays : ℕ → ℕ → Type 0
Stays before behind = behind ≡ before

abbrev pub OneMore : ℕ → ℕ → Type 0
OneMore before behind = behind ≡ before + 1

abbrev pub OneMoreAtMost : ℕ → ℕ → Type 0
OneMoreAtMost before behind = behind ≤ before + 1

abbrev pub Unsaid : ℕ → ℕ → Type 0
Unsaid before behind = Unit {0}

-- A step's result beside the world asked for: still good, with the same blocks, and how its nodes and its checkpoint pages go on.
pub record Left (nodes_go pages_go : ℕ → ℕ → Type 0) (pool_length table_length : ℕ) (before : State) (made right : World) : Type 0 where
  pub is : made ≡ right
  pub good : Good pool_length table_length made.state
  pub blocks : made.state.blocks ≡ before.blocks
  pub nodes : nodes_go before.nodes made.state.nodes
  pub checkpoint : pages_go before.checkpoint made.state.checkpoint

-- A step that makes no node and no checkpoint page.
abbrev pub Kept : Leaves
Kept = Left Stays Stays
