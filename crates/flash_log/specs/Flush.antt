-- The buffer "written as one page when the next group does not fit" (document 01, "Nodes and tree").
use Rattle.std.specs.Prelude.{ℕ, ◌+◌, ltb, set}
use Rattle.laws.specs.Tests.{choose}
use Rattle.layout.specs.Layout.{pages_in_block, most_entries}
use Rattle.flash_allocate.specs.World.{World, world, spot}
use Rattle.flash_allocate.specs.Allocate.{allocate}
use Rattle.page_write.specs.Pages.{log_image}
use Rattle.flash_log.specs.Claim.{claimed}
use Rattle.flash_allocate.specs.State.{next_sequence, advanced, without_entries}

-- The buffer as the page written next, and its rows' claims on it.
unfoldable pub write_buffer : World → World
write_buffer w =
    world
    (set w.pages (spot w.state) (log_image (next_sequence w.state.last) w.state.entries w.table.buffer))
    (claimed w.state.nodes (spot w.state) w.state.entries w.table)
    (without_entries (advanced (next_sequence w.state.last) w.state))

-- A step where the current block has room, as it has after an allocation.
unfoldable pub if_room : (World → World) → World → World
if_room step w = choose (ltb w.state.fill pages_in_block) (step w) w

-- A place for the page, then the page.
unfoldable pub flush : World → World
flush w = if_room write_buffer (allocate w)

-- Room for k entries: the buffer is written out where they do not fit.
unfoldable pub room : ℕ → World → World
room k w = choose (ltb most_entries (k + w.state.entries)) (flush w) w
