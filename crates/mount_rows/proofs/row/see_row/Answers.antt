-- `row::see_row` meets its contract: an older version says nothing; else a fresh start, one page more, or the row as it was, which is then not stored.
-- Assumes nothing.
use Rattle.flash_rows.specs.Row.{rows_of}
use Rattle.mount_rows.proofs.Laws.{seen-fresh, seen_more, seen_same, seen_older}
use Rattle.mount_rows.proofs.row.see_row.Goals as goal

pub returns-then-version-version_of : goal.returns-then-version-version_of
returns-then-version-version_of c =
    let a = c.args in
    let v = c.version_of in
    seen_older (rows_of a.table.now) a.id a.version a.mode a.page v.result v.ensures c.if-version-version_of.true

pub returns-then-row-version : goal.returns-then-row-version
returns-then-row-version c =
    let a = c.args in
    let l = c.read_row-row in
    seen-fresh (rows_of a.table.now) (rows_of c.write_row.new.table) a.id a.version a.mode a.page
    l.result l.ensures c.fresh.result c.note.result c.if-row-version.true c.fresh.ensures
    c.note.ensures c.write_row.ensures

pub returns-then-lacks : goal.returns-then-lacks
returns-then-lacks c =
    let a = c.args in
    let l = c.read_row-row in
    seen_more (rows_of a.table.now) (rows_of c.write_row-then-lacks.new.table) a.id a.version a.mode a.page
    l.result l.ensures c.if-row-version.false c.one_more.result c.lacks.result c.lacks.ensures
    c.if-lacks.true c.one_more.ensures c.write_row-then-lacks.ensures

pub returns-else-lacks : goal.returns-else-lacks
returns-else-lacks c =
    let a = c.args in
    let l = c.read_row-row in
    seen_same (rows_of a.table.now) (rows_of a.table.now) a.id a.version a.mode a.page l.result
    l.ensures c.if-row-version.false c.lacks.result c.lacks.ensures c.if-lacks.false
