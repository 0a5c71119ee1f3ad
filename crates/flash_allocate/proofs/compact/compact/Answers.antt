-- `compact::compact` meets its contract: the live map and the choice, then the move. Assumes nothing.
use mathlib.Core.Path.{◌∙◌}
use Rattle.flash_rows.specs.Row.{rows_of}
use Rattle.flash_blocks.specs.Pages.{pages_of}
use Rattle.flash_live.specs.Bits.{marks_in}
use Rattle.flash_allocate.proofs.Laws.{compact-steps}
use Rattle.flash_allocate.proofs.compact.compact.Goals as goal

pub returns : goal.returns
returns c =
    let a = c.args in
    let m = c.live_map-live in
    let v = c.victim-block in
    let o = c.move_block in (
      o.ensures.0 ∙
          compact-steps a.used a.blocks a.to (pages_of a.pool.now) (rows_of a.table.now) (marks_in m.result) v.result
          m.ensures v.ensures.0,
      o.ensures.1,
    )
