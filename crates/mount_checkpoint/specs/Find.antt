-- Question 6 of document 01 over the pages' bytes: "Do the pages of greatest stamp, back to the newest field 13, form a complete closing
-- set, each id below its count once?" Assumes nothing.
use Rattle.std.specs.Prelude.{◌≡◌, Bool, ◌&&◌, List, ℕ, ◌*◌, eqb, leb, length, Option, Some, None}
use Rattle.laws.specs.Tests.{choose}
use Rattle.layout.specs.Layout.{pages_in_block}
use Rattle.account.specs.declared.Tariff.{Tariff}
use Rattle.wire.specs.Field.{payload_at}
use Rattle.flash_blocks.specs.Pages.{page_at}
use Rattle.page.specs.Decode.{tariff_of}
use Rattle.mount_checkpoint_pages.specs.Extent.{extent_of}
use Rattle.mount_checkpoint_pages.specs.Totals.{totals_of}
use Rattle.mount_checkpoint_pages.specs.declared.extent.Extent.{Extent}
use Rattle.mount_checkpoint_pages.specs.declared.totals.Totals.{Totals}
use Rattle.mount_checkpoint.specs.Marks.{covers_of, marks_left}
use Rattle.mount_checkpoint.specs.declared.find.Checkpoint.{Checkpoint}

unfoldable pub tariff_at : List (List ℕ) → ℕ → Tariff
tariff_at ps q = tariff_of (payload_at (page_at ps q) 7 0x13)

-- There is a page with the tariff; every page from there on fits; as many scores stand on them as the node count says.
unfoldable pub adds_up : Extent → Totals → Bool
adds_up e t = leb 1 e.since && (eqb t.misfits 0 && eqb t.scores t.nodes)

-- A checkpoint that is complete.
abbrev pub complete_as : Tariff → ℕ → ℕ → Option Checkpoint
complete_as t nodes since = Some (record { tariff = t; nodes = nodes; since = since })

-- The checkpoint of n pages, with scratch of a width.
unfoldable pub found_by : List (List ℕ) → ℕ → ℕ → Extent → Totals → Option Checkpoint
found_by ps n width e t =
    choose (adds_up e t && covers_of ps n e.since t.nodes width) (complete_as (tariff_at ps e.place) t.nodes e.since) None

-- What the scratch has then.
unfoldable pub scratch_by : List (List ℕ) → ℕ → List ℕ → Extent → Totals → List ℕ
scratch_by ps n scratch e t = choose (adds_up e t) (marks_left ps n e.since t.nodes (length scratch)) scratch

unfoldable pub totals_in : List (List ℕ) → ℕ → Extent → Totals
totals_in ps n e = totals_of ps n e.since e.newest

-- The checkpoint of a pool of so many blocks, and what is left in the scratch.
unfoldable pub checkpoint_in : List (List ℕ) → ℕ → ℕ → Option Checkpoint
checkpoint_in ps blocks width =
    let n = pages_in_block * blocks in
    found_by ps n width (extent_of ps n) (totals_in ps n (extent_of ps n))

unfoldable pub scratch_left : List (List ℕ) → ℕ → List ℕ → List ℕ
scratch_left ps blocks scratch =
    let n = pages_in_block * blocks in
    scratch_by ps n scratch (extent_of ps n) (totals_in ps n (extent_of ps n))

pub record Found (ps : List (List ℕ)) (blocks : ℕ) (scratch left : List ℕ) (r : Option Checkpoint) : Type 0 where
  pub is : r ≡ checkpoint_in ps blocks (length scratch)
  pub scratch_is : left ≡ scratch_left ps blocks scratch
