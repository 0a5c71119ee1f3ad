-- Entries in the log buffer: "entries go to a buffer of 27" (document 01, "Nodes and tree"), 15 bytes each, one behind another.
use Rattle.std.specs.Prelude.{List, [], ◌∷◌, ℕ, ◌+◌, ◌*◌, ltb}
use Rattle.laws.specs.Tests.{choose}
use Rattle.laws.specs.Lay.{lay}
use Rattle.layout.specs.Layout.{most_entries}
use Rattle.node.specs.Change.{Change}
use Rattle.page.specs.Page.{Entry}
use Rattle.page.specs.Image.{entry_bytes}
use Rattle.flash_rows.specs.Worktable.{Worktable, with_buffer}
use Rattle.flash_allocate.specs.declared.state.State.{State}
use Rattle.flash_allocate.specs.State.{with_entries}
use Rattle.flash_allocate.specs.World.{World, world}

-- The entry that says a change of a node under a version.
abbrev pub entry_of : ℕ → ℕ → Change → Entry
entry_of id version change = record { id = id; version = version; change = change }

-- What an entry changes: the work table, which has the buffer, and the state, which counts its entries.
pub record Logged : Type 0 where
  pub table : Worktable
  pub state : State

abbrev pub logged : Worktable → State → Logged
logged table state = record { table = table; state = state }

-- The world with these pages.
abbrev pub besides : List (List ℕ) → Logged → World
besides pages l = world pages l.table l.state

-- The bytes of an entry behind the first n of the buffer.
abbrev pub laid_at : ℕ → List ℕ → Worktable → Worktable
laid_at n bytes t = with_buffer (lay t.buffer (15 * n) bytes) t

-- The same behind those that it has.
unfoldable pub entered : List ℕ → Logged → Logged
entered bytes l = logged (laid_at l.state.entries bytes l.table) (with_entries (l.state.entries + 1) l.state)

-- One entry more, where the buffer has room.
unfoldable pub append : ℕ → ℕ → Change → Logged → Logged
append id version change l = choose (ltb l.state.entries most_entries) (entered (entry_bytes (entry_of id version change)) l) l

-- Entries of one node and one version, one after another.
unfoldable pub append_all : ℕ → ℕ → List Change → Logged → Logged
append_all id version [] l = l
append_all id version (c ∷ cs) l = append_all id version cs (append id version c l)
