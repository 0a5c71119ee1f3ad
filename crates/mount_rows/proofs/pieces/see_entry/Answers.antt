-- `pieces::see_entry` meets its contract: id and version read from the entry. Assumes nothing.
use Rattle.flash_rows.specs.Row.{rows_of}
use Rattle.mount_rows.proofs.Laws.{entry_seen}
use Rattle.mount_rows.proofs.pieces.see_entry.Goals as goal

pub returns : goal.returns
returns c =
    let a = c.args in
    let i = c.read16-id in
    let v = c.read32-version in
    entry_seen a.nodes a.page a.entry.now (rows_of a.table.now) (rows_of c.see.new.table) i.result
    v.result i.ensures.is v.ensures.is c.see.ensures
