-- Each row, once all pages were met, says what the store says of its node: version, mode and pages, the latter up to three. Assumes nothing.
use Rattle.std.specs.Prelude.{◌≡◌, List, ℕ, ◌+◌, ◌*◌, ◌≤◌, ◌<◌, get_or, None, slice_get}
use Rattle.std.proofs.Common.{sym, ap, ◌∙◌, subst, arith}
use Rattle.laws.specs.Counts.{count}
use Rattle.laws.specs.Every.{Every}
use Rattle.laws.specs.Options.{test}
use Rattle.layout.specs.Layout.{pages_in_block}
use Rattle.account.specs.declared.Mode.{Mode}
use Rattle.account.specs.declared.Mode.TheVariants.{Log, Disk}
use Rattle.store.specs.View.{greatest, pages}
use Rattle.store.specs.Pool.{Blocks, block}
use Rattle.store.specs.Store.{Store, view}
use Rattle.store.specs.Live.{carries}
use Rattle.store.specs.Reopen.{Cells, blocks_in, store_of}
use Rattle.flash_rows.specs.declared.Row.{Row}
use Rattle.flash_rows.specs.Step.{names}
use Rattle.flash_blocks.specs.Pages.{pages_of}
use Rattle.flash_refines.specs.Store.Mirror.{row_at, RowMode}
use Rattle.flash_refines.specs.Store.Cells.{cell_at}
use Rattle.mount_rows.specs.Fill.{filled}
use Rattle.mount_refines.specs.Rows.Given.{Given, sized, checked, orderly, same_cells, count-blocks, is-pool}
use Rattle.mount_refines.specs.Rows.Pieces.{cap}
use Rattle.mount_refines.specs.Rows.Cells.{has_cell, greatest_cell, CellRight, Told, cells_tell, cells_right}
use Rattle.mount_refines.specs.Rows.Pages.{Carried, filled_carried}
use Rattle.mount_refines.specs.Rows.Greatest.{greatest-is}
use Rattle.mount_refines.specs.Rows.PageCount.{cell_carries, pages-is}
use Rattle.mount_refines.specs.Rows.Modes.{StandsFor, cells_stand}
use Rattle.mount_refines.specs.Rows.PoolPages.{page_cell}

module _ {blocks nodes : ℕ} {score : ℕ → ℕ} {pool : List ℕ} {c : Cells} {rows : List Row} (g : Given blocks nodes score pool c rows) where
  abbrev bs : Blocks
  bs = blocks_in pages_in_block blocks c

  abbrev st : Store
  st = store_of bs

  abbrev after : List Row
  after = filled blocks nodes (pages_of pool) rows

  pub carried : Carried nodes (pages_of pool) 0 c rows after
  carried =
      filled_carried nodes (pages_of pool) blocks c rows (omega (arith, g.table, g.limit)) (sized g).size (is-pool g).fits
      (λ j l. page_cell (is-pool g) j l)

  module _ (n : ℕ) (l : n < nodes) where
    pub told : Told n c (row_at rows n) (row_at after n)
    told = subst (Told n c (row_at rows n)) (sym (carried.row n l)) (cells_tell n c (row_at rows n) (g.unmet n l))

    greatest_cell_lem : greatest_cell n c ≡ greatest (view st) n
    greatest_cell_lem = ap (greatest_cell n) (sym (same_cells g)) ∙ greatest-is (orderly g) n

    pub row-version : (row_at after n).version ≡ greatest (view st) n
    row-version = told.version ∙ greatest_cell_lem

    pub row-pages : (row_at after n).pages ≡ cap (pages (view st) n)
    row-pages =
        told.pages ∙
        ap (λ (v : ℕ). cap (count (has_cell n v) c)) greatest_cell_lem ∙
        ap (λ (x : Cells). cap (count (has_cell n (greatest (view st) n)) x)) (sym (same_cells g)) ∙
        ap cap (pages-is bs n (orderly g))

    pub row-names : (row_at after n).pages ≤ 3 → (i q : ℕ) → i < blocks → q < 32 →
        names (32 * i + q) (row_at after n) ≡ test (carries (view st) n) (slice_get (block bs i) q)
    row-names few i q li lq =
        told.names few (32 * i + q) ∙
        ap (λ (v : ℕ). has_cell n v (get_or c (32 * i + q) None)) greatest_cell_lem ∙
        ap (λ (x : Cells). has_cell n (greatest (view st) n) (get_or x (32 * i + q) None)) (sym (same_cells g)) ∙
        ap (has_cell n (greatest (view st) n)) (cell_at bs i q (omega (arith, count-blocks g)) lq) ∙
        cell_carries bs n (slice_get (block bs i) q)

    pub row_mode : RowMode (row_at after n).mode st n
    row_mode = modes (row_at after n).mode stands
      where
        unmet : StandsFor bs n (row_at rows n).version (row_at rows n).mode
        unmet = rw ((g.unmet n l).version, (g.unmet n l).mode) (orderly g).from_one

        stands : StandsFor bs n (greatest (view st) n) (row_at after n).mode
        stands =
            subst (λ (v : ℕ). StandsFor bs n v (row_at after n).mode) row-version
            (subst (λ (r : Row). StandsFor bs n r.version r.mode) (sym (carried.row n l))
            (cells_right n (StandsFor bs n) 0 c (row_at rows n) (omega (arith, (g.unmet n l).pages))
            (subst (Every (CellRight n (StandsFor bs n))) (same_cells g) (cells_stand bs n (orderly g) (checked g))) unmet))

        modes : (m : Mode) → StandsFor bs n (greatest (view st) n) m → RowMode m st n
        modes Log h = h
        modes Disk h = record { node = h.0; page = h.1 }
