-- "Rewrite, create, and switch to log write the whole content: pairs ascending, link last, under a new version. A page forced out takes its
-- stamp before the new group's version." (document 01, "Nodes and tree".)
use Rattle.std.specs.Prelude.{ℕ, ◌+◌, length, get_or}
use Rattle.account.specs.declared.Mode.TheVariants.{Log}
use Rattle.flash_rows.specs.Row.{no_row}
use Rattle.flash_rows.specs.Step.{fresh}
use Rattle.flash_rows.specs.declared.Row.{Row}
use Rattle.flash_rows.specs.Worktable.{Worktable, with_row}
use Rattle.node.specs.Node.{Node, pairs_of}
use Rattle.node.specs.Change.{changes_of}
use Rattle.flash_allocate.specs.World.{World, world, Leaves, Left, OneMore, Stays}
use Rattle.flash_allocate.specs.declared.state.State.{State}
use Rattle.flash_log.specs.Entry.{Logged, logged, besides, append_all}
use Rattle.flash_log.specs.Flush.{room}
use Rattle.flash_allocate.specs.State.{next_sequence, with_sequence, with_nodes}

-- The work table and the state at a fresh start of node n, whose row was this: a new version, the sequence number taken last, on no page yet.
abbrev pub begun : ℕ → Row → ℕ → Worktable → State → Logged
begun n row version t s = logged (with_row n (fresh version Log row) t) (with_sequence version s)

-- The same once the entries of the whole content are in the buffer.
abbrev pub started : ℕ → Row → ℕ → Node → Worktable → State → Logged
started n row version x t s = append_all n version (changes_of x) (begun n row version t s)

-- A fresh start of node n with a content, whose row was this.
unfoldable pub start : ℕ → Row → Node → World → World
start n row x w = besides w.pages (started n row (next_sequence w.state.last) x w.table w.state)

-- Room for all entries of a content: one a pair, and the link's.
abbrev pub room_for : Node → World → World
room_for x w = room (length (pairs_of x) + 1) w

-- The fresh start of a node that has a row.
abbrev pub restart : ℕ → Node → World → World
restart n x w = start n (get_or w.table.rows n no_row) x w

-- The whole content of a node under a new version.
unfoldable pub group : ℕ → Node → World → World
group n x w = restart n x (room_for x w)

-- The fresh start of a node more; "new nodes start in log mode, score 0".
abbrev pub start_next : Node → World → World
start_next x w =
    let made = start w.state.nodes no_row x w in
    world made.pages made.table (with_nodes (w.state.nodes + 1) made.state)

-- A create: the node exists once the page that it forces out is written.
unfoldable pub create : Node → World → World
create x w = start_next x (room_for x w)

-- A create's result: the world asked for, still good, with one node more.
abbrev pub Grown : Leaves
Grown = Left OneMore Stays
