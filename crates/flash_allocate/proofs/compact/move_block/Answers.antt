-- `compact::move_block` meets its contract: its three calls are the three steps of the definition. Assumes nothing.
use Rattle.flash_rows.specs.Row.{rows_of}
use Rattle.flash_blocks.specs.Pages.{pages_of}
use Rattle.flash_live.specs.Bits.{marks_in}
use Rattle.flash_allocate.proofs.Laws.{move_steps}
use Rattle.flash_allocate.proofs.compact.move_block.Goals as goal

pub returns : goal.returns
returns c =
    let a = c.args in
    let k = c.copy_block-fill in
    let r = c.rename_rows in
    let e = c.erase_block in (
      move_steps (marks_in a.live.now) a.used a.block a.to (pages_of a.pool.now) (rows_of a.table.now)
          (pages_of k.new.pool) k.new.places k.result k.ensures.0
          (rows_of r.new.table) r.ensures (pages_of e.new.pool) e.ensures.0,
      k.ensures.1,
    )
