-- Pages in bytes, by the laws of chunks, and the cases of the next blank block. Assumes nothing.
use mathlib.Core.Path.{◌≡◌, refl, sym, ap, ◌∙◌}
use mathlib.Core.Bool.{true}
use mathlib.Core.List.{List}
use Prim.Native.Nat.{ℕ, ◌+◌, ◌-◌, ◌*◌, ◌/◌, ◌≤◌, ◌<◌}
use native.Mathlib.Omega.{arith}
use lib.Dec.{ltb}
use lib.ListN.{length, set, take, drop, replicate}
use borrow.Author.Tests.{lt-ltb, le-ltb, ltb-true}
use borrow.Rule.Slice.PartMut.{put_mid}
use Rattle.laws.specs.Lay.{lay, part, length_part, lay-lent}
use Rattle.laws.specs.Chunks.{chunks, length-chunks, get-chunks, lay-chunks, lay-run}
use Rattle.flash_blocks.specs.Pages.{pages_of, blank_page, page_at, erased_bytes, erased}
use Rattle.flash_blocks.specs.Blank.{blank_from, next_blank}

pub length-pages : (pool : List ℕ) → length (pages_of pool) ≡ length pool / 512
unfolding pages_of
length-pages pool = length-chunks 512 pool

-- A page that lies in the pool.
pub page_inside : (pool : List ℕ) (q : ℕ) → ltb q (length (pages_of pool)) ≡ true → 512 * q + 512 ≤ length pool
page_inside pool q e = omega (arith, ltb-true q (length (pages_of pool)) e, length-pages pool)

module _ (pool : List ℕ) (q : ℕ) (h : 512 * q + 512 ≤ length pool) where
  pub page_at-part : page_at (pages_of pool) q ≡ part pool (512 * q) 512
  unfolding pages_of page_at
  page_at-part = get-chunks 512 pool q blank_page (omega arith)

  -- a page lent as a part of the pool, and its length
  pub page_part : (n : ℕ) → n ≡ 512 → take n (drop (512 * q) pool) ≡ page_at (pages_of pool) q
  unfolding part
  page_part n e = ap (λ (k : ℕ). take k (drop (512 * q) pool)) e ∙ sym page_at-part

  pub length_page : length (page_at (pages_of pool) q) ≡ 512
  length_page = ap length page_at-part ∙ length_part pool (512 * q) 512 h

  -- a page laid in its place is an element set
  pub lay-pages : (bytes : List ℕ) → length bytes ≡ 512 → pages_of (lay pool (512 * q) bytes) ≡ set (pages_of pool) q bytes
  unfolding pages_of
  lay-pages bytes e = lay-chunks 512 pool q bytes e (omega arith) h

  -- its part of the pool that was lent, and came back as an image
  pub lent_page : (bytes image : List ℕ) → bytes ≡ image → length image ≡ 512 → (to : ℕ) → to ≡ 512 * q + 512 →
      put_mid (512 * q) (to - 512 * q) pool bytes ≡ lay pool (512 * q) image
  lent_page bytes image is e to f = rw is (lay-lent (512 * q) to pool image (omega arith) (omega arith))

-- A block filled with FF: its bytes, and its pages.
module _ (pool : List ℕ) (block to : ℕ) (e : to ≡ 16384 * block + 16384) where
  pub erase_bytes : lay pool (16384 * block) (replicate (to - 16384 * block) 255) ≡ lay pool (16384 * block) erased_bytes
  unfolding erased_bytes
  erase_bytes =
      let whole : to - 16384 * block ≡ 16384 = omega arith in
      ap (λ (k : ℕ). lay pool (16384 * block) (replicate k 255)) whole

  pub erase_pages : to ≤ length pool → pages_of (lay pool (16384 * block) (replicate (to - 16384 * block) 255)) ≡ erased block (pages_of pool)
  unfolding pages_of erased blank_page
  erase_pages h =
      ap (λ (k : ℕ). chunks 512 (lay pool (16384 * block) (replicate k 255))) pages ∙
      ap (λ (k : ℕ). chunks 512 (lay pool k (replicate (512 * 32) 255))) at ∙
      lay-run 512 32 pool (32 * block) 255 (omega arith) (omega arith)
    where
      pages : to - 16384 * block ≡ 512 * 32
      pages = omega arith

      at : 16384 * block ≡ 512 * (32 * block)
      at = omega arith

-- The next blank block: above the current one, else the lowest, else none.
module _ (blocks current : ℕ) (pages : List (List ℕ)) (above : ℕ) (e : above ≡ blank_from blocks (current + 1) pages) where
  pub next-above : above < blocks → above ≡ next_blank blocks current pages
  unfolding next_blank
  next-above h = rw (← e, lt-ltb above blocks h) refl

  module _ (lowest : ℕ) (f : lowest ≡ blank_from blocks 0 pages) (h : blocks ≤ above) where
    pub next-lowest : lowest < blocks → lowest ≡ next_blank blocks current pages
    unfolding next_blank
    next-lowest k = rw (← e, le-ltb above blocks h, ← f, lt-ltb lowest blocks k) refl

    pub next-none : blocks ≤ lowest → 0 ≡ next_blank blocks current pages
    unfolding next_blank
    next-none k = rw (← e, le-ltb above blocks h, ← f, le-ltb lowest blocks k) refl
