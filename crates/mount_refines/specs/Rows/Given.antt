-- What the rows are filled from: a pool that passes question 5, and rows with the nodes' scores; and what its tests say of the blocks that it
-- spells. Assumes nothing.
use Rattle.std.specs.Prelude.{◌≡◌, true, List, ℕ, ◌*◌, ◌≤◌, ◌<◌, length, Some}
use Rattle.std.proofs.Common.{arith}
use Rattle.laws.specs.Tests.{and_left, and_right}
use Rattle.laws.specs.BigEndian.{Bytes}
use Rattle.layout.specs.Layout.{block_bytes, node_limit, pages_in_block}
use Rattle.store.specs.Pool.{Blocks}
use Rattle.store.specs.Reopen.{Cells, cells, blocks_in, blocks_pass, page_passes, every_page, pages_pass}
use Rattle.store_laws.specs.CellLaws.{cells-blocks_in, length-blocks_in, block-blocks_in}
use Rattle.store_laws.specs.BlockTests.{Passing, passing, differ_once}
use Rattle.store_laws.specs.PageTests.{passing_numbers}
use Rattle.model.specs.Bytes.{cells_of}
use Rattle.demands.specs.PoolBytes.{IsPool, cells_of-is}
use Rattle.flash_rows.specs.declared.Row.{Row}
use Rattle.flash_rows.specs.Worktable.{rows_for}
use Rattle.flash_refines.specs.Store.Mirror.{row_at}
use Rattle.mount_refines.specs.Rows.Places.{Orderly}
use Rattle.mount_refines.specs.Rows.Cells.{Unmet}

-- A pool whose pages check, each by itself and all together, and a table with a row for each node: the node's score, and nothing else yet.
pub record Given (blocks nodes : ℕ) (score : ℕ → ℕ) (pool : List ℕ) (c : Cells) (rows : List Row) : Type 0 where
  pub bytes : Bytes pool
  pub size : length pool ≡ block_bytes * blocks
  pub spelled : cells_of pool ≡ Some c
  pub pass : pages_pass blocks c ≡ true
  pub table : rows_for blocks ≤ length rows
  pub limit : nodes ≤ node_limit blocks
  pub unmet : (n : ℕ) → n < nodes → Unmet (row_at rows n)
  pub scores : (n : ℕ) → n < nodes → (row_at rows n).score ≡ score n

module _ {blocks nodes : ℕ} {score : ℕ → ℕ} {pool : List ℕ} {c : Cells} {rows : List Row} (g : Given blocks nodes score pool c rows) where
  abbrev bs : Blocks
  bs = blocks_in pages_in_block blocks c

  pub sized : Passing pages_in_block blocks c
  unfolding pages_pass
  sized = passing pages_in_block blocks c (and_left (blocks_pass pages_in_block blocks c) (every_page (page_passes bs) bs) g.pass)

  pub checked : every_page (page_passes bs) bs ≡ true
  unfolding pages_pass
  checked = and_right (blocks_pass pages_in_block blocks c) (every_page (page_passes bs) bs) g.pass

  pub orderly : Orderly bs
  orderly = record { most = block-blocks_in 32 blocks c; from_one = passing_numbers bs checked; once = differ_once bs sized.differ }

  pub same_cells : cells 32 bs ≡ c
  same_cells = cells-blocks_in 32 blocks c (omega (arith, sized.size)) sized.filled

  pub count-blocks : length bs ≡ blocks
  count-blocks = length-blocks_in 32 blocks c

  pub is-pool : IsPool pool c
  is-pool = cells_of-is pool g.bytes (32 * blocks) (omega (arith, g.size)) c g.spelled
