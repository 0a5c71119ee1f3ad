-- THE PLAN OF THE WORK TABLE while a batch runs (document 01, "Pool and buffers": "at least 1,024 × B bytes"), the one place where it is written down:
--
--   from 0         the log buffer: 27 entries of 15 bytes, filled up to whole rows
--   from 416       the rows: one a node, then one for each checkpoint page being written, eleven a block at most
--   behind them    free
--
-- The tree check of a mount has its stack and its marks behind the rows of the nodes, where the rows of a checkpoint will stand: none is written before
-- a batch ends, and what it leaves there is zeroed.
-- The buffer stands first, so that its place is a number and not a product with B.
use Rattle.std.specs.Prelude.{List, ℕ, ◌+◌, ◌*◌, ◌≤◌, set, take, drop}
use Rattle.std.proofs.Common.{arith}
use Rattle.layout.specs.Layout.{entry_size, most_entries, fewest_blocks, node_limit, table_bytes, work_bytes}
use Rattle.flash_rows.specs.declared.Row.{Row}
use Rattle.flash_rows.specs.Row.{rows_of, row_bytes}

abbrev pub buffer_bytes : ℕ
buffer_bytes = entry_size * most_entries

abbrev pub rows_at : ℕ
rows_at = 416

-- The rows that a pool of so many blocks needs: 10 × (B − 2) nodes, and a checkpoint page for the first 50 of them and for each 54 more.
abbrev pub rows_for : ℕ → ℕ
rows_for blocks = 11 * blocks

-- Where what is free begins.
abbrev pub free_at : ℕ → ℕ
free_at blocks = rows_at + row_bytes * rows_for blocks

-- What the table holds.
pub record Worktable : Type 0 where
  pub buffer : List ℕ
  pub rows : List Row

abbrev pub worktable : List ℕ → List Row → Worktable
worktable buffer rows = record { buffer = buffer; rows = rows }

unfoldable pub buffer_of : List ℕ → List ℕ
buffer_of table = take buffer_bytes table

unfoldable pub rows_in : List ℕ → List Row
rows_in table = rows_of (drop rows_at table)

abbrev pub table_from : List ℕ → Worktable
table_from table = worktable (buffer_of table) (rows_in table)

-- The same with other rows, with one other row, with another buffer.
abbrev pub with_rows : List Row → Worktable → Worktable
with_rows rows w = worktable w.buffer rows

abbrev pub with_row : ℕ → Row → Worktable → Worktable
with_row n r w = with_rows (set w.rows n r) w

abbrev pub with_buffer : List ℕ → Worktable → Worktable
with_buffer buffer w = worktable buffer w.rows

-- It fits for every B from 4, with room for the tree check behind all rows even; with a buffer of 1,695 bytes too, as pages of 2,048 bytes need it.
pub plan_fits : (blocks : ℕ) → fewest_blocks ≤ blocks → free_at blocks + work_bytes (node_limit blocks) ≤ table_bytes blocks
plan_fits blocks few = omega arith

pub plan_fits_wide : (blocks : ℕ) → fewest_blocks ≤ blocks → 1696 + (row_bytes * rows_for blocks + work_bytes (node_limit blocks)) ≤ table_bytes blocks
plan_fits_wide blocks few = omega arith
