-- `table::restore_rows` meets its contract: the three steps in order, each lent the rows as the last one left them. Assumes nothing.
use Rattle.flash_blocks.specs.Pages.{pages_of}
use Rattle.mount_restore.proofs.Laws.{rows_restored}
use Rattle.mount_restore.proofs.table.restore_rows.Goals as goal

pub returns : goal.returns
returns c =
    let a = c.args in
    let p = c.requires in
    let s = c.take_scores in
    let f = c.fill_rows in
    rows_restored a.blocks a.nodes a.since (pages_of a.pool.now) a.table.now c.fill.new.dst p.0 p.3 c.fill.ensures
    s.new.table s.auto.table s.ensures f.new.table f.result f.auto.table f.ensures
