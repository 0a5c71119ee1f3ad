use mathlib.Core.Path.{◌≡◌}
use Prim.Native.Nat.{◌-◌, ◌*◌}
use Rattle.laws.specs.Loops.{steps}
use Rattle.flash_rows.specs.Row.{rows_of}
use Rattle.flash_blocks.specs.Pages.{pages_of}
use Rattle.mount_rows.specs.Fill.{seen_page}
use Rattle.mount_rows.proofs.fill.see_pages.Given as goal

abbrev pub invariant-loop-page : goal.invariant-loop-page
invariant-loop-page l = (steps (seen_page l.nodes (pages_of l.pool)) (32 * l.blocks - l.page) l.page (rows_of l.table) ≡ steps
    (seen_page l.nodes (pages_of l.pool)) (32 * l.blocks) 0 (rows_of l.initial.table))
