-- `marks::window` meets its contract: the marks begin blank, and are those of all pages then. Assumes nothing.
use lib.ListN.{length}
use Rattle.flash_blocks.specs.Pages.{pages_of}
use Rattle.mount_checkpoint.proofs.Laws.{window-is}
use Rattle.mount_checkpoint.proofs.marks.window.Goals as goal

pub returns : goal.returns
returns c =
    let a = c.args in
    window-is (pages_of a.pool.now) a.pages a.since a.start a.size (length a.marks.now)
    c.fill.new.dst c.mark_pages.new.marks
    c.fill.ensures
    c.mark_pages.ensures c.all_set.result c.all_set.ensures
