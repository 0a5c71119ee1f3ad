-- `content::outline_by` meets its contract: each mode is one case. Assumes nothing.
use Rattle.flash_blocks.specs.Pages.{pages_of}
use Rattle.flash_read.proofs.Laws.{content_log, content_disk}
use Rattle.flash_read.proofs.content.outline_by.Goals as goal

pub returns-in-Log : goal.returns-in-Log
returns-in-Log c =
    let a = c.args in
    rw (← content_log (pages_of a.pool.now) a.buffer.now a.entries a.row a.n c.in-Log.is) c.log_outline.ensures

pub returns-in-Disk : goal.returns-in-Disk
returns-in-Disk c =
    let a = c.args in
    rw (← content_disk (pages_of a.pool.now) a.buffer.now a.entries a.row a.n c.in-Disk.is) c.node_page_at.ensures
