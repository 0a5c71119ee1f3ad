-- Pages that are images of the model's are the cells of the model's pool, read one by one; so a pool decoded cell by cell stands for
-- the blocks that its cells spell. Assumes nothing.
use Rattle.std.specs.Prelude.{◌≡◌, refl, List, [], ◌∷◌, ◌++◌, map, ℕ, zero, suc, ◌+◌, ◌*◌, ◌/◌, ◌%◌, ◌<◌, length, None, slice_get}
use Rattle.std.proofs.Math.Path.{sym, ap}
use Rattle.std.proofs.Common.{◌∙◌, not-suc-le-zero, le_of_suc-le-suc, arith, get_or-append-add}
use Rattle.std.proofs.Math.ListN.{get_or, length-map, get_or-map, get_or-append}
use Rattle.std.proofs.Math.Seq.{ext_get_or}
use Rattle.page.specs.Page.{Page}
use Rattle.store.specs.Pool.{Blocks, block}
use Rattle.store.specs.Reopen.{cells_in, cells}
use Rattle.store_laws.specs.CellLaws.{length-cells_in, length-cells}
use Rattle.flash_blocks.specs.Pages.{blank_page, page_at}
use Rattle.flash_refines.specs.Store.Mirror.{image_at, PagesAre}

cell_block : (k : ℕ) (b : List Page) (q : ℕ) → q < k → get_or (cells_in k b) q None ≡ slice_get b q
unfolding cells_in
cell_block zero b q l = absurd (not-suc-le-zero l)
cell_block (suc k) [] zero l = refl
cell_block (suc k) [] (suc q) l = cell_block k [] q (le_of_suc-le-suc l)
cell_block (suc k) (p ∷ b) zero l = refl
cell_block (suc k) (p ∷ b) (suc q) l = cell_block k b q (le_of_suc-le-suc l)

-- The cell at place q of block i.
pub cell_at : (bs : Blocks) (i q : ℕ) → i < length bs → q < 32 → get_or (cells 32 bs) (32 * i + q) None ≡ slice_get (block bs i) q
cell_at [] i q l h = absurd (not-suc-le-zero l)
cell_at (b ∷ bs) zero q l h =
    let e : 32 * 0 + q ≡ q = omega arith in
    ap (λ (n : ℕ). get_or (cells_in 32 b ++ cells 32 bs) n None) e ∙
    get_or-append (cells_in 32 b) (cells 32 bs) None q (omega (arith, length-cells_in 32 b)) ∙
    cell_block 32 b q h
cell_at (b ∷ bs) (suc i) q l h =
    let e : 32 * suc i + q ≡ length (cells_in 32 b) + (32 * i + q) = omega (arith, length-cells_in 32 b) in
    ap (λ (n : ℕ). get_or (cells_in 32 b ++ cells 32 bs) n None) e ∙
    get_or-append-add (cells_in 32 b) (cells 32 bs) (32 * i + q) None ∙
    cell_at bs i q (le_of_suc-le-suc l) h

module _ (image : Page → List ℕ) (bs : Blocks) where
  image-at : (n : ℕ) → get_or (map (image_at image) (cells 32 bs)) n blank_page ≡ image_at image (get_or (cells 32 bs) n None)
  image-at n = get_or-map (image_at image) (cells 32 bs) n None

  -- pages that stand for the blocks are the cells' images
  pub are_images : {B : ℕ} {ps : List (List ℕ)} → PagesAre B image ps bs → ps ≡ map (image_at image) (cells 32 bs)
  unfolding page_at
  are_images {B} {ps} r =
      ext_get_or blank_page ps (map (image_at image) (cells 32 bs))
      (omega (arith, r.long, r.size, length-map (cells 32 bs) (image_at image), length-cells 32 bs))
      (λ n l. each n (n / 32) (n % 32) (omega arith) (omega (arith, r.long)) (omega arith))
    where
      each : (n i q : ℕ) → n ≡ 32 * i + q → i < B → q < 32 → get_or ps n blank_page ≡ get_or (map (image_at image) (cells 32 bs)) n blank_page
      each n i q e li lq =
          rw e (r.each i q li lq ∙ sym (image-at (32 * i + q) ∙ ap (image_at image) (cell_at bs i q (omega (arith, r.size)) lq)))
