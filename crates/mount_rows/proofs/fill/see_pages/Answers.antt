-- `fill::see_pages` meets its contract. The invariant: the pages left, met from here, give them all. Assumes nothing.
use mathlib.Core.Path.{sym, ◌∙◌}
use Prim.Native.Nat.{◌*◌}
use native.Mathlib.Omega.{arith}
use Rattle.laws.specs.Loops.{steps-begin, steps_more, steps-done}
use Rattle.flash_rows.specs.Row.{rows_of}
use Rattle.flash_blocks.specs.Pages.{pages_of}
use Rattle.mount_rows.specs.Fill.{seen_page, filled}
use Rattle.mount_rows.proofs.fill.see_pages.Goals as goal

pub loop-page-init : goal.loop-page-init
loop-page-init c = let a = c.args in
    (steps-begin (seen_page a.nodes (pages_of a.pool.now)) (32 * a.blocks) (rows_of a.table.now))

pub loop-page-preserved : goal.loop-page-preserved
loop-page-preserved c = let a = c.args in
    let l = c.loop-page in (
    rw c.see_page.ensures
    (steps_more (seen_page a.nodes (pages_of a.pool.now)) (32 * a.blocks) l.page (rows_of l.table)
    (omega arith) ∙ l.invariant)
    )

pub returns : goal.returns
unfolding filled
returns c = let a = c.args in
    let l = c.loop-page in
    sym (steps-done (seen_page a.nodes (pages_of a.pool.now)) (32 * a.blocks) l.page (rows_of l.table) (omega arith)) ∙ l.invariant
