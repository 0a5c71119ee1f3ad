use mathlib.Core.Path.{◌≡◌}
use Prim.Native.Nat.{◌-◌, ◌<◌}
use Rattle.laws.specs.Loops.{steps}
use Rattle.flash_blocks.specs.Pages.{pages_of, page_at}
use Rattle.mount_checkpoint_pages.specs.Extent.{extended, extent_of}
use Rattle.mount_checkpoint_pages.proofs.extent.extent_of.Given as goal

abbrev pub invariant-loop-page : goal.invariant-loop-page
invariant-loop-page l = (l.e.place < l.pages) × (steps (λ i. extended i (page_at (pages_of l.pool) i))
    (l.pages - l.page) l.page l.e ≡ extent_of (pages_of l.pool) l.pages)
