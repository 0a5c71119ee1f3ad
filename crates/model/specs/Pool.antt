-- The bytes of a pool, as a call takes them: how many blocks they are, and what they open as. Assumes nothing.
use Rattle.std.specs.Prelude.{Bool, ◌&&◌, List, ℕ, ◌*◌, ◌/◌, eqb, leb, length, Option, None, Some}
use Rattle.layout.specs.Layout.{block_bytes, fewest_blocks, most_blocks}
use Rattle.store.specs.Reopen.{Cells}
use Rattle.model.specs.Mount.{Mounted, refused, mount_cells}
use Rattle.model.specs.Bytes.{cells_of}

-- "Pool: B blocks of 16,384 bytes, B from 4 to 64": the number of blocks, and question 1.
abbrev pub blocks_of : List ℕ → ℕ
blocks_of pool = length pool / block_bytes

unfoldable pub pool_length : List ℕ → Bool
pool_length pool =
    leb fewest_blocks (blocks_of pool) && (leb (blocks_of pool) most_blocks && eqb (block_bytes * blocks_of pool) (length pool))

-- Questions 5 to 8 of a pool's bytes: 5 too, where a page does not check by itself.
abbrev pub mount_by : ℕ → Option Cells → Mounted
mount_by blocks None = refused 5
mount_by blocks (Some c) = mount_cells blocks c

unfoldable pub mount_of : List ℕ → Mounted
mount_of pool = mount_by (blocks_of pool) (cells_of pool)
