-- A node's row while pieces of the node are met on pages, in any order (document 01, "Pages"): "a node's content is that of its greatest
-- version", and it "lies on the log pages .. that have an entry of its greatest version"; a node page is one page.
use Rattle.std.specs.Prelude.{Bool, not, ◌&&◌, List, ℕ, eqb, ltb, get_or, set}
use Rattle.laws.specs.Tests.{choose}
use Rattle.layout.specs.Layout.{most_log_pages}
use Rattle.account.specs.declared.Mode.{Mode}
use Rattle.flash_rows.specs.Row.{no_row}
use Rattle.flash_rows.specs.Step.{names, noted, fresh}
use Rattle.flash_rows.specs.declared.Row.{Row}

-- More than three pages: a row has no slot for them, and 4 as their number says so. A greater version may still start it afresh.
unfoldable pub crowded : Row → Row
crowded r =
    record { version = r.version; score = r.score; mode = r.mode; pages = 4; first = r.first; second = r.second; third = r.third }

-- The row with one page more.
unfoldable pub one_more : ℕ → Row → Row
one_more page r = choose (ltb r.pages most_log_pages) (noted page r) (crowded r)

-- Whether a piece of a version lies on a page that the row lacks.
unfoldable pub lacks : ℕ → ℕ → Row → Bool
lacks version page r = eqb r.version version && not (names page r)

-- The row after a piece of a version, of a node in this mode, was met on a page: a greater version is a fresh start, an older one says
-- nothing, and a page is noted once.
unfoldable pub seen : ℕ → Mode → ℕ → Row → Row
seen version mode page r =
    choose (ltb r.version version) (noted page (fresh version mode r)) (choose (lacks version page r) (one_more page r) r)

-- The rows after that. "Entries and disk pages of ids at or above the node count mean nothing."
unfoldable pub seen_at : ℕ → ℕ → ℕ → Mode → ℕ → List Row → List Row
seen_at nodes id version mode page rows =
    choose (ltb id nodes) (set rows id (seen version mode page (get_or rows id no_row))) rows
