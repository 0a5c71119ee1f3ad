-- `fill::see_page` meets its contract: the page's entries and then its node. Assumes nothing.
use Rattle.flash_blocks.specs.Pages.{pages_of}
use Rattle.flash_rows.specs.Row.{rows_of}
use Rattle.mount_rows.proofs.Laws.{page_seen}
use Rattle.mount_rows.proofs.fill.see_page.Goals as goal

pub returns : goal.returns
returns c =
    let a = c.args in
    page_seen a.nodes (pages_of a.pool.now) a.page c.page_part-bytes.result.now (rows_of a.table.now)
    (rows_of c.see_entries.new.table) (rows_of c.see_node.new.table)
    c.page_part-bytes.ensures.0 c.see_entries.ensures c.see_node.ensures
