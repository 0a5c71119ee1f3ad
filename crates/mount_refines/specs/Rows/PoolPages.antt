-- The pages of a pool that spells cells are the images of those cells, one by one; so they stand for the blocks that the cells spell.
-- Assumes nothing.
use Rattle.std.specs.Prelude.{◌≡◌, refl, ℕ, zero, suc, ◌+◌, ◌*◌, ◌≤◌, ◌<◌, length, get_or, drop, Option, None, Some}
use Rattle.std.proofs.Common.{sym, ◌∙◌, le_of_suc-le-suc, arith, take_at}
use Rattle.std.proofs.Math.Path.{ap}
use mathlib.Core.List.{List, [], ◌∷◌}
use Rattle.std.proofs.Math.ListN.{take}
use Rattle.std.proofs.Math.Seq.{drop-append-add}
use Rattle.laws.specs.Every.{Every, none, both}
use Rattle.laws.specs.Lay.{part}
use Rattle.layout.specs.Layout.{page_bytes}
use Rattle.page.specs.Page.{Page}
use Rattle.page.specs.Image.{image, blank_bytes}
use Rattle.page.proofs.Sizes.{length-image}
use Rattle.store.specs.Pool.{Blocks, block}
use Rattle.store.specs.Reopen.{Cells, cells}
use Rattle.model.specs.Bytes.{cell_bytes, bytes_of}
use Rattle.demands.specs.PoolBytes.{CellFits, IsPool, length-bytes_of}
use Rattle.flash_blocks.specs.Pages.{pages_of, blank_page, page_at}
use Rattle.flash_blocks.proofs.Laws.{page_at-part, length-pages}
use Rattle.flash_refines.specs.Store.Mirror.{image_at, PagesAre}
use Rattle.flash_refines.specs.Store.Cells.{cell_at}

cell_image : (c : Option Page) → cell_bytes c ≡ image_at image c
unfolding blank_bytes blank_page
cell_image None = refl
cell_image (Some p) = refl

length_cell : (c : Option Page) → CellFits c → length (cell_bytes c) ≡ page_bytes
unfolding blank_bytes
length_cell None f = refl
length_cell (Some p) f = length-image p f

cell_part : (c : Cells) → Every CellFits c → (j : ℕ) → j < length c → take 512 (drop (512 * j) (bytes_of c)) ≡ cell_bytes (get_or c j None)
cell_part [] none j l = absurd (omega arith)
cell_part (x ∷ c) (both f fs) zero l = take_at (cell_bytes x) (bytes_of c) 512 (length_cell x f)
cell_part (x ∷ c) (both f fs) (suc j) l =
    let at : 512 * suc j ≡ length (cell_bytes x) + 512 * j = omega (arith, length_cell x f) in
    ap (take 512) (ap (λ (k : ℕ). drop k (bytes_of (x ∷ c))) at ∙ drop-append-add (cell_bytes x) (bytes_of c) (512 * j)) ∙
    cell_part c fs j (le_of_suc-le-suc l)

module _ {pool : List ℕ} {c : Cells} (is : IsPool pool c) where
  pub length-pool : length pool ≡ page_bytes * length c
  length-pool = ap length is.is ∙ length-bytes_of c is.fits

  -- the page at a place is the image of the cell there
  pub page_cell : (j : ℕ) → j < length c → page_at (pages_of pool) j ≡ image_at image (get_or c j None)
  unfolding part
  page_cell j l =
      page_at-part pool j (omega (arith, length-pool)) ∙
      ap (λ (s : List ℕ). take 512 (drop (512 * j) s)) is.is ∙
      cell_part c is.fits j l ∙
      cell_image (get_or c j None)

  -- THE PAGES stand for the blocks of these cells
  pub pages_stand : (bs : Blocks) → cells 32 bs ≡ c → length c ≡ 32 * length bs → ((i : ℕ) → length (block bs i) ≤ 32) →
      PagesAre (length bs) image (pages_of pool) bs
  pages_stand bs e size most =
      record {
        size = refl;
        long = length-pages pool ∙ omega (arith, length-pool);
        most = most;
        each =
            λ i q li lq.
            page_cell (32 * i + q) (omega arith) ∙
            ap (λ (x : Cells). image_at image (get_or x (32 * i + q) None)) (sym e) ∙
            ap (image_at image) (cell_at bs i q li lq);
      }
