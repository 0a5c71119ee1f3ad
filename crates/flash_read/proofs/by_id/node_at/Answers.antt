-- `node_at` meets its contract: a node that is there is read, and behind the count there is none. Assumes nothing.
use Rattle.flash_blocks.specs.Pages.{pages_of}
use Rattle.flash_rows.specs.Worktable.{table_from}
use Rattle.flash_read.specs.NodeTable.{table_of_in, table_of_out}
use Rattle.flash_read.proofs.by_id.node_at.Goals as goal

pub returns-then-n-state : goal.returns-then-n-state
returns-then-n-state c =
    let a = c.args in
    rw (table_of_in (pages_of a.pool.now) (table_from a.table.now) a.state a.n c.if-n-state.true, ← c.content.ensures.is)
    c.node_in.ensures

pub returns-else-n-state : goal.returns-else-n-state
returns-else-n-state c =
    let a = c.args in
    rw (table_of_out (pages_of a.pool.now) (table_from a.table.now) a.state a.n c.if-n-state.false) c.empty_node.ensures
