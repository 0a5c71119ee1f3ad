-- The table of nodes: of each id below the count the content that its row, the pages and the buffer say. Assumes nothing.
use Rattle.std.specs.Prelude.{◌≡◌, List, ℕ, ◌+◌, ◌*◌, ◌≤◌, ◌<◌, ltb, length}
use Rattle.std.proofs.Common.{lt-ltb, le-ltb}
use Rattle.laws.specs.Tests.{choose}
use Rattle.layout.specs.Layout.{most_entries, most_blocks, node_limit}
use Rattle.node.specs.Node.{Node}
use Rattle.store.specs.Store.{node_in, no_node}
use Rattle.flash_rows.specs.Row.{row_bytes}
use Rattle.flash_rows.specs.Worktable.{Worktable, rows_at}
use Rattle.flash_allocate.specs.declared.state.State.{State}
use Rattle.flash_read.specs.Content.{content}

-- "Ids run from 0 without gaps" (document 01, "Nodes and tree"): behind the count there is no node.
unfoldable pub table_of : List (List ℕ) → Worktable → State → ℕ → Node
table_of pages t s n = choose (ltb n s.nodes) (node_in (content pages t s n)) no_node

module _ (pages : List (List ℕ)) (t : Worktable) (s : State) (n : ℕ) where
  pub table_of_in : n < s.nodes → table_of pages t s n ≡ node_in (content pages t s n)
  unfolding table_of
  table_of_in l = rw (lt-ltb n s.nodes l)

  pub table_of_out : s.nodes ≤ n → table_of pages t s n ≡ no_node
  unfolding table_of
  table_of_out l = rw (le-ltb n s.nodes l)

-- What a read of the nodes asks: a buffer of at most 27 entries, and a row for each node.
pub record Readable (s : State) (table : List ℕ) : Type 0 where
  pub entries : s.entries ≤ most_entries
  pub nodes : s.nodes ≤ node_limit most_blocks
  pub rows : rows_at + row_bytes * s.nodes ≤ length table
