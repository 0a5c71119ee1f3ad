use mathlib.Core.Path.{◌≡◌}
use Prim.Native.Nat.{◌-◌}
use Rattle.laws.specs.Loops.{steps}
use Rattle.flash_blocks.specs.Pages.{pages_of, page_at}
use Rattle.mount_checkpoint_pages.specs.Totals.{add_page, totals_of, Few}
use Rattle.mount_checkpoint_pages.proofs.totals.sum_pages.Given as goal

abbrev pub invariant-loop-page : goal.invariant-loop-page
invariant-loop-page l = (Few l.page l.t) × (steps (λ i. add_page l.since l.newest (page_at (pages_of l.pool) i))
    (l.pages - l.page) l.page l.t ≡ totals_of (pages_of l.pool) l.pages l.since l.newest)
