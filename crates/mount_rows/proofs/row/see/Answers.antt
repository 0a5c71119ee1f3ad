-- `row::see` meets its contract: the row of a node that exists. Assumes nothing.
use Rattle.flash_rows.specs.Row.{rows_of}
use Rattle.mount_rows.proofs.Laws.{at_in, at_out}
use Rattle.mount_rows.proofs.row.see.Goals as goal

pub returns-then-id-nodes : goal.returns-then-id-nodes
returns-then-id-nodes c =
    let a = c.args in
    at_in a.nodes a.id a.version a.mode a.page (rows_of a.table.now) (rows_of c.see_row.new.table) c.if-id-nodes.true c.see_row.ensures

pub returns-else-id-nodes : goal.returns-else-id-nodes
returns-else-id-nodes c = let a = c.args in
    at_out a.nodes a.id a.version a.mode a.page (rows_of a.table.now) c.if-id-nodes.false
