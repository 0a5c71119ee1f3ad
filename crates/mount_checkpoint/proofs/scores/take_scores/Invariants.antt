use mathlib.Core.Path.{◌≡◌}
use Prim.Native.Nat.{◌-◌, ◌*◌}
use Rattle.laws.specs.Loops.{steps}
use Rattle.flash_rows.specs.Row.{rows_of}
use Rattle.flash_blocks.specs.Pages.{pages_of, page_at}
use Rattle.mount_checkpoint.specs.Scores.{take_page, take_pages}
use Rattle.mount_checkpoint.proofs.scores.take_scores.Given as goal

abbrev pub invariant-loop-page : goal.invariant-loop-page
invariant-loop-page l = (steps (λ i. take_page l.since l.nodes (page_at (pages_of l.pool) i)) (32 * l.blocks - l.page) l.page (rows_of l.table) ≡ take_pages
    (pages_of l.pool) (32 * l.blocks) l.since l.nodes (rows_of l.initial.table))
