-- `pieces::see_node` meets its contract: no node, or one whose version is the page's sequence number. Assumes nothing.
use Rattle.flash_rows.specs.Row.{rows_of}
use Rattle.mount_rows.proofs.Laws.{node_none, node_seen}
use Rattle.mount_rows.proofs.pieces.see_node.Goals as goal

pub returns-then-p-lt7 : goal.returns-then-p-lt7
returns-then-p-lt7 c = let a = c.args in
    let p = c.payload-p in
    node_none a.nodes a.page a.bytes.now p.result.now (rows_of a.table.now) p.ensures c.if-p-lt7.true

pub returns : goal.returns
returns c =
    let a = c.args in
    let p = c.payload-p in
    let i = c.read16-id in
    let s = c.sequence-version in
    node_seen a.nodes a.page a.bytes.now p.result.now (rows_of a.table.now)
    (rows_of c.see.new.table) i.result s.result p.ensures c.if-p-lt7.false i.ensures.is s.ensures
    c.see.ensures
