-- "The pages of greatest stamp, back to the newest field 13" (document 01, question 6): the greatest sequence number of all, and the greatest
-- of a page that has the tariff. No order of pages is needed. Assumes nothing.
use Rattle.std.specs.Prelude.{◌≡◌, ◌&&◌, List, ℕ, ◌<◌, max, ltb}
use Rattle.laws.specs.Tests.{choose}
use Rattle.laws.specs.Loops.{steps}
use Rattle.flash_blocks.specs.Pages.{page_at}
use Rattle.mount_checkpoint_pages.specs.CheckpointPage.{number_of, has_tariff}
use Rattle.mount_checkpoint_pages.specs.declared.extent.Extent.{Extent}

-- One page more.
unfoldable pub extended : ℕ → List ℕ → Extent → Extent
extended q b e =
    choose (has_tariff b && ltb e.since (number_of b))
    (record { newest = max e.newest (number_of b); since = number_of b; place = q })
    (record { newest = max e.newest (number_of b); since = e.since; place = e.place })

unfoldable pub no_extent : Extent
no_extent = record { newest = 0; since = 0; place = 0 }

-- The first n pages.
unfoldable pub extent_of : List (List ℕ) → ℕ → Extent
extent_of ps n = steps (λ q. extended q (page_at ps q)) n 0 no_extent

pub record Reach (ps : List (List ℕ)) (n : ℕ) (r : Extent) : Type 0 where
  pub is : r ≡ extent_of ps n
  pub inside : r.place < n
