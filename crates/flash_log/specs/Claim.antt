-- The rows once a log page stands in its place: "a log node lies on the log pages that have an entry of its greatest version"
-- (document 01, "What demand 3 compares"), so each row that an entry of the page concerns names the page, once.
use Rattle.std.specs.Prelude.{List, ℕ, ◌+◌, ◌*◌, ltb, get_or}
use Rattle.laws.specs.Tests.{choose}
use Rattle.laws.specs.Loops.{steps}
use Rattle.laws.specs.BigEndian.{number_at}
use Rattle.flash_rows.specs.Row.{no_row}
use Rattle.flash_rows.specs.Step.{claim, settled}
use Rattle.flash_rows.specs.declared.Row.{Row}
use Rattle.flash_rows.specs.Worktable.{Worktable, with_rows}

-- The node and the version of entry k of a buffer.
abbrev pub id_at : List ℕ → ℕ → ℕ
id_at buffer k = number_at 2 buffer (15 * k)

abbrev pub version_at : List ℕ → ℕ → ℕ
version_at buffer k = number_at 4 buffer (15 * k + 2)

-- The row of a node after an entry of a version was written on the page.
unfoldable pub claim_row : ℕ → ℕ → ℕ → List Row → List Row
claim_row id version page rows = settled (claim version page (get_or rows id no_row)) id rows

-- Entry k claims the page for its node. "Entries of ids at or above the node count mean nothing."
unfoldable pub claim_entry : List ℕ → ℕ → ℕ → ℕ → List Row → List Row
claim_entry buffer nodes page k rows =
    choose (ltb (id_at buffer k) nodes) (claim_row (id_at buffer k) (version_at buffer k) page rows) rows

-- The first n entries, in order.
unfoldable pub claim_entries : List ℕ → ℕ → ℕ → ℕ → List Row → List Row
claim_entries buffer nodes page n rows = steps (claim_entry buffer nodes page) n 0 rows

-- The work table after one of its buffer's entries, and after the first n.
abbrev pub claim_one : ℕ → ℕ → ℕ → Worktable → Worktable
claim_one nodes page k t = with_rows (claim_entry t.buffer nodes page k t.rows) t

abbrev pub claimed : ℕ → ℕ → ℕ → Worktable → Worktable
claimed nodes page n t = with_rows (claim_entries t.buffer nodes page n t.rows) t
