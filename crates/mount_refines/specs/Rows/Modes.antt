-- Each piece of a pool that passes stands for the mode that its page gives a node: no page has an entry's version for its number, and a node
-- page is found by its own. Assumes nothing.
use Rattle.std.specs.Prelude.{◌≡◌, true, List, [], ◌∷◌, map, ℕ, Some}
use Rattle.std.proofs.Common.{ap, ◌∙◌, subst}
use Rattle.laws.specs.Tests.{and_left, and_right}
use Rattle.laws.specs.Counts.{tally}
use Rattle.laws.specs.Every.{Every, none, both}
use Rattle.account.specs.declared.Mode.{Mode}
use Rattle.account.specs.declared.Mode.TheVariants.{Log, Disk}
use Rattle.node.specs.Node.{Node}
use Rattle.page.specs.Page.{Entry, Page, page, log, whole, checkpoint, sequence}
use Rattle.store.specs.Item.{entry_item}
use Rattle.store.specs.Pool.{Blocks, numbered, find}
use Rattle.store.specs.Reopen.{cells, version_passes, versions_pass, page_passes, every_page}
use Rattle.store_laws.specs.PageTests.{version-fits, page_versions, Passes, find-passes}
use Rattle.mount_refines.specs.Rows.Cells.{CellRight}
use Rattle.mount_refines.specs.Rows.Places.{Orderly, find-here, cells-every}

module _ (bs : Blocks) (n : ℕ) where
  -- a version that is a log node's, or a node page's number
  abbrev pub StandsFor : ℕ → Mode → Type 0
  StandsFor v Log = tally (numbered v) bs ≡ 0
  StandsFor v Disk = (x : Node) × (find v bs ≡ Some (page v (whole n x)))

  entries-right : (s : ℕ) (es : List Entry) → versions_pass s bs es ≡ true → Every (λ x. x.id ≡ n → StandsFor x.version Log) (map entry_item es)
  entries-right s [] h = none
  entries-right s (e ∷ es) h =
      both (λ z. (version-fits s bs e (and_left (version_passes s bs e) (versions_pass s bs es) h)).apart)
      (entries-right s es (and_right (version_passes s bs e) (versions_pass s bs es) h))

  page_right : (p : Page) → find (sequence p) bs ≡ Some p → page_passes bs p ≡ true → CellRight n StandsFor (Some p)
  page_right (page s (log es)) found pass = entries-right s es (page_versions bs s es pass)
  page_right (page s (whole m x)) found pass =
      both (λ e. (x, found ∙ ap (λ (k : ℕ). Some (page s (whole k x))) e)) none
  page_right (page s (checkpoint t ss k)) found pass = none

  pub cells_stand : Orderly bs → every_page (page_passes bs) bs ≡ true → Every (CellRight n StandsFor) (cells 32 bs)
  cells_stand o pass =
      cells-every (CellRight n StandsFor) tt bs
      (λ i q p e.
      let found = find-here o i q p e in
      page_right p found (subst (Passes (page_passes bs) (sequence p)) found (find-passes (page_passes bs) (sequence p) bs pass)).0)
