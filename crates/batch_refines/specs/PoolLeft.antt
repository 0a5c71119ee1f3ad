-- A pool whose pages are the images of a store's blocks is the bytes of that store's pool. Assumes nothing.
use Rattle.std.specs.Prelude.{◌≡◌, refl, List, [], ◌∷◌, ◌++◌, map, ℕ, zero, suc, ◌*◌, ◌/◌, length, take, drop, None, Some}
use Rattle.std.proofs.Common.{sym, ap, ◌∙◌, arith, length-drop, take-append-drop}
use Rattle.laws.specs.Lay.{part}
use Rattle.laws.specs.Chunks.{first_chunks, chunks}
use Rattle.laws.specs.Lists.{length-zero}
use Rattle.layout.specs.Layout.{page_bytes, pages_in_block, block_bytes}
use Rattle.page.specs.Image.{image, blank_bytes}
use Rattle.store.specs.Pool.{Blocks}
use Rattle.store.specs.Reopen.{Cells, cells}
use Rattle.model.specs.Bytes.{bytes_of}
use Rattle.flash_blocks.specs.Pages.{pages_of, blank_page}
use Rattle.flash_refines.specs.Store.Mirror.{image_at, PagesAre}
use Rattle.flash_refines.specs.Store.Cells.{are_images}

-- Pages one behind another.
abbrev joined : List (List ℕ) → List ℕ
joined [] = []
joined (p ∷ ps) = p ++ joined ps

-- A buffer of whole chunks is its chunks joined.
joined-chunks : (n : ℕ) (s : List ℕ) → length s ≡ page_bytes * n → joined (first_chunks page_bytes n s) ≡ s
unfolding first_chunks part
joined-chunks zero s e = sym (length-zero s (omega arith))
joined-chunks (suc n) s e =
    ap (take page_bytes s ++◌) (joined-chunks n (drop page_bytes s) (omega (arith, length-drop page_bytes s))) ∙ take-append-drop page_bytes s

joined_images : (c : Cells) → joined (map (image_at image) c) ≡ bytes_of c
unfolding blank_page blank_bytes
joined_images [] = refl
joined_images (None ∷ c) = ap (blank_bytes ++◌) (joined_images c)
joined_images (Some p ∷ c) = ap (image p ++◌) (joined_images c)

-- THE POOL
pub pool-is : (blocks : ℕ) (pool : List ℕ) (bs : Blocks) → length pool ≡ block_bytes * blocks → PagesAre blocks image (pages_of pool) bs →
    pool ≡ bytes_of (cells pages_in_block bs)
unfolding pages_of chunks
pool-is blocks pool bs l h =
    let n : length pool / page_bytes ≡ 32 * blocks = omega arith in
    sym (joined-chunks (length pool / page_bytes) pool (omega arith)) ∙ ap joined (are_images image bs h) ∙ joined_images (cells pages_in_block bs)
