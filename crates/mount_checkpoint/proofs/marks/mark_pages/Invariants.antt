use mathlib.Core.Path.{◌≡◌}
use Prim.Native.Nat.{◌-◌}
use Rattle.laws.specs.Loops.{steps}
use Rattle.flash_blocks.specs.Pages.{pages_of, page_at}
use Rattle.mount_checkpoint.specs.Marks.{mark_page, mark_pages}
use Rattle.mount_checkpoint.proofs.marks.mark_pages.Given as goal

abbrev pub invariant-loop-page : goal.invariant-loop-page
invariant-loop-page l = (steps (λ i. mark_page l.since l.start (page_at (pages_of l.pool) i)) (l.pages - l.page) l.page l.marks ≡ mark_pages (pages_of l.pool) l.pages
    l.since l.start l.initial.marks)
