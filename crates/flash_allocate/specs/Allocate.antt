-- "Page needed and the current block full: if two or more blocks are blank, take the next blank one upwards and round. Otherwise" compact into the
-- blank one "and go on behind the copies" (document 01, "Pages", its last paragraph).
use Rattle.std.specs.Prelude.{ℕ, ltb, leb}
use Rattle.laws.specs.Tests.{choose}
use Rattle.layout.specs.Layout.{pages_in_block}
use Rattle.flash_rows.specs.Worktable.{Worktable, with_rows}
use Rattle.flash_blocks.specs.Blank.{blank_blocks, next_blank}
use Rattle.flash_allocate.specs.Compact.{Compacted, compact}
use Rattle.flash_allocate.specs.World.{World, world, used}
use Rattle.flash_allocate.specs.declared.state.State.{State}
use Rattle.flash_allocate.specs.State.{in_block}

-- Going on behind the copies of a compaction.
abbrev pub behind : ℕ → Worktable → State → Compacted → World
behind to t s c = world c.pages (with_rows c.rows t) (in_block to c.fill s)

-- A block to go on in, `to` being the next blank one.
unfoldable pub next_block : World → ℕ → World
next_block w to =
    choose (leb 2 (blank_blocks w.state.blocks w.pages))
    (world w.pages w.table (in_block to 0 w.state))
    (behind to w.table w.state (compact (used w.state) w.state.blocks to w.pages w.table.rows))

-- The world with a current block that has room for a page.
unfoldable pub allocate : World → World
allocate w =
    choose (ltb w.state.fill pages_in_block) w (next_block w (next_blank w.state.blocks w.state.current w.pages))
