-- The pages numbered at or above the first, added up. Assumes nothing.
use Rattle.std.specs.Prelude.{◌≡◌, Bool, not, List, ℕ, ◌+◌, ◌*◌, ◌≤◌, ltb, unwrap_or}
use Rattle.std.specs.Option.{is_some}
use Rattle.laws.specs.Tests.{choose}
use Rattle.laws.specs.Counts.{bit}
use Rattle.laws.specs.Loops.{steps}
use Rattle.flash_blocks.specs.Pages.{page_at}
use Rattle.mount_checkpoint_pages.specs.CheckpointPage.{number_of, checkpoint_page_of, fits_in}
use Rattle.mount_checkpoint_pages.specs.declared.checkpoint_page.CheckpointPage.{CheckpointPage}
use Rattle.mount_checkpoint_pages.specs.declared.totals.Totals.{Totals}

-- A checkpoint page more, which fits or not.
unfoldable pub plus : Bool → CheckpointPage → Totals → Totals
plus fit s t =
    record { misfits = t.misfits + bit (not fit); scores = t.scores + s.scores; nodes = t.nodes + unwrap_or s.nodes 0 }

unfoldable pub add_page : ℕ → ℕ → List ℕ → Totals → Totals
add_page since newest b t =
    choose (ltb (number_of b) since) t (plus (fits_in newest (is_some (checkpoint_page_of b).nodes) b) (checkpoint_page_of b) t)

unfoldable pub nothing : Totals
nothing = record { misfits = 0; scores = 0; nodes = 0 }

-- The first n pages.
unfoldable pub totals_of : List (List ℕ) → ℕ → ℕ → ℕ → Totals
totals_of ps n since newest = steps (λ q. add_page since newest (page_at ps q)) n 0 nothing

-- What so many pages add up to at most.
pub record Few (pages : ℕ) (t : Totals) : Type 0 where
  pub misfits : t.misfits ≤ pages
  pub scores : t.scores ≤ 54 * pages
  pub nodes : t.nodes ≤ 65535 * pages

pub record Added (since newest : ℕ) (b : List ℕ) (t r : Totals) : Type 0 where
  pub is : r ≡ add_page since newest b t
  pub misfits : r.misfits ≤ t.misfits + 1
  pub scores : r.scores ≤ t.scores + 54
  pub nodes : r.nodes ≤ t.nodes + 65535

pub record Summed (ps : List (List ℕ)) (n since newest : ℕ) (r : Totals) : Type 0 where
  pub is : r ≡ totals_of ps n since newest
  pub few : Few n r
