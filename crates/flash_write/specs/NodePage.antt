-- "In disk mode every change, and a switch to disk, writes a new disk page" (document 01, "Nodes and tree").
use Rattle.std.specs.Prelude.{List, ℕ, get_or, set}
use Rattle.account.specs.declared.Mode.TheVariants.{Disk}
use Rattle.flash_rows.specs.Row.{no_row}
use Rattle.flash_rows.specs.Step.{fresh, noted}
use Rattle.flash_rows.specs.declared.Row.{Row}
use Rattle.flash_rows.specs.Worktable.{Worktable, with_rows}
use Rattle.node.specs.Node.{Node}
use Rattle.page.specs.Page.{page, whole}
use Rattle.page.specs.Image.{image}
use Rattle.flash_allocate.specs.World.{World, world, spot}
use Rattle.flash_allocate.specs.Allocate.{allocate}
use Rattle.flash_log.specs.Flush.{if_room}
use Rattle.flash_allocate.specs.State.{next_sequence, advanced}

-- The rows once node n lies whole on one page: "its version is its stamp".
unfoldable pub disk_row : ℕ → ℕ → ℕ → List Row → List Row
disk_row n number at rows = set rows n (noted at (fresh number Disk (get_or rows n no_row)))

-- The work table then.
abbrev pub on_page : ℕ → ℕ → ℕ → Worktable → Worktable
on_page n number at t = with_rows (disk_row n number at t.rows) t

-- The node as the page written next.
unfoldable pub write_node : ℕ → Node → World → World
write_node n x w =
    world
    (set w.pages (spot w.state) (image (page (next_sequence w.state.last) (whole n x))))
    (on_page n (next_sequence w.state.last) (spot w.state) w.table)
    (advanced (next_sequence w.state.last) w.state)

-- A place for the page, then the page. While the place is found, the node's row is the old one.
unfoldable pub node_page : ℕ → Node → World → World
node_page n x w = if_room (write_node n x) (allocate w)
