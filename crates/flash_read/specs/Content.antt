-- "A node's content is that of its greatest version, entries taken by page stamp, then by position, those in the buffer last" (document 01, "Pages"). The row
-- holds the greatest version and names the pages.
use Rattle.std.specs.Prelude.{List, [], ℕ, eqb, get_or}
use Rattle.laws.specs.Tests.{choose}
use Rattle.node.specs.Replay.{Draft, unlinked}
use Rattle.flash_rows.specs.Row.{no_row}
use Rattle.flash_rows.specs.Step.{by_mode}
use Rattle.flash_rows.specs.declared.Row.{Row}
use Rattle.flash_rows.specs.Worktable.{Worktable}
use Rattle.flash_allocate.specs.declared.state.State.{State}
use Rattle.flash_read.specs.Replay.{redo_buffer}
use Rattle.flash_read.specs.Slots.{slot_at, redo_at, redo_two, redo_three}
use Rattle.flash_read.specs.NodePage.{node_page_at}

-- The entries of node n on the pages that its row names: none, one, two or three.
unfoldable pub redo_pages : List (List ℕ) → Row → ℕ → Draft → Draft
redo_pages pages row n d =
    choose (eqb row.pages 0) d
    (choose (eqb row.pages 1)
    (redo_at pages row.first n row.version d)
    (choose (eqb row.pages 2)
    (redo_two pages (slot_at pages row.first) (slot_at pages row.second) n row.version d)
    (redo_three pages (slot_at pages row.first) (slot_at pages row.second) (slot_at pages row.third) n row.version d)))

-- Node n replayed from nothing: the pages, then the entries of the buffer.
unfoldable pub log_content : List (List ℕ) → List ℕ → ℕ → Row → ℕ → Draft
log_content pages buffer entries row n = redo_buffer n row.version buffer entries (redo_pages pages row n (unlinked []))

-- Node n by its row: replayed in log mode, whole from its one page in disk mode.
unfoldable pub content_by : List (List ℕ) → List ℕ → ℕ → Row → ℕ → Draft
content_by pages buffer entries row n = by_mode row.mode (log_content pages buffer entries row n) (node_page_at pages row.first)

-- The content of node n.
unfoldable pub content : List (List ℕ) → Worktable → State → ℕ → Draft
content pages t s n = content_by pages t.buffer s.entries (get_or t.rows n no_row) n
