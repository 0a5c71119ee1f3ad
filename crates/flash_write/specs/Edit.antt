-- "An edit is one entry. .. An edit of a node with three pages, counted after any page the edit forces out, writes the whole edited content
-- instead" (document 01, "Nodes and tree").
use Rattle.std.specs.Prelude.{ℕ, ltb, get_or}
use Rattle.laws.specs.Tests.{choose}
use Rattle.layout.specs.Layout.{most_log_pages}
use Rattle.flash_rows.specs.Row.{no_row}
use Rattle.flash_rows.specs.declared.Row.{Row}
use Rattle.node.specs.Node.{Node}
use Rattle.node.specs.Change.{Change}
use Rattle.flash_allocate.specs.World.{World}
use Rattle.flash_log.specs.Entry.{logged, besides, append}
use Rattle.flash_log.specs.Flush.{room}
use Rattle.flash_write.specs.Group.{group}

-- One entry under the row's version, or the whole edited content x, by the pages that the row names.
unfoldable pub edit_by : Row → ℕ → Change → Node → World → World
edit_by row n c x w =
    choose (ltb row.pages most_log_pages) (besides w.pages (append n row.version c (logged w.table w.state))) (group n x w)

-- The row is read once there is room for the entry.
abbrev pub edit_in : ℕ → Change → Node → World → World
edit_in n c x w = edit_by (get_or w.table.rows n no_row) n c x w

unfoldable pub edit : ℕ → Change → Node → World → World
edit n c x w = edit_in n c x (room 1 w)
