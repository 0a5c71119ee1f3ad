-- A pool of which question 5 was answered yes: its pages in bytes, each with the headers of its cell, and in the store, each found by its
-- number. Assumes nothing.
use Rattle.std.specs.Prelude.{◌≡◌, refl, true, ◌⊎◌, List, [], ◌∷◌, ℕ, zero, suc, ◌*◌, ◌/◌, ◌≤◌, ◌<◌, length, get_or, take, drop, Option, None, Some}
use Rattle.std.proofs.Common.{inl, inr, arith}
use Rattle.laws.specs.Tests.{and_left}
use Rattle.laws.specs.Lay.{part}
use Rattle.laws.specs.Counts.{count}
use Rattle.laws.specs.Chunks.{first_chunks, chunks}
use Rattle.layout.specs.Layout.{page_bytes, pages_in_block, block_bytes}
use Rattle.page.specs.Page.{Page}
use Rattle.page.specs.Decode.{decode}
use Rattle.store.specs.Pool.{numbered, page_in, find}
use Rattle.store.specs.Reopen.{Cells, blocks_in, greatest_of, reopened, every_page, page_passes, blocks_pass, pages_pass}
use Rattle.store_laws.specs.BlockTests.{Passing, passing, differ_once}
use Rattle.model.specs.Bytes.{cell_from, joined, cells_from, cells_of}
use Rattle.flash_blocks.specs.Pages.{pages_of, page_at, blank_page}
use Rattle.store_laws.specs.WrittenPages.{pages_in}
use Rattle.flash_blocks.proofs.Laws.{length_page}
use Rattle.mount_refines.specs.Checkpoint.Header.{number_in, Header, header}
use Rattle.mount_refines.specs.Checkpoint.Written.{find-pages, tally-pages, newest-pages, page_in-number}

pub record Judged (pool : List ℕ) (blocks : ℕ) (c : Cells) : Type 0 where
  pub size : length pool ≡ block_bytes * blocks
  pub reads : cells_of pool ≡ Some c
  pub pass : pages_pass blocks c ≡ true

-- ---- each cell is what its page's bytes spell

joined-first : (x : Option (Option Page)) (y : Option Cells) (o : Option Page) (d : Cells) → joined x y ≡ Some (o ∷ d) → (x ≡ Some o) × (y ≡ Some d)
joined-first None y o d e = absurd (let z : ◌≡◌ {A = ℕ} 0 1 = cc in omega arith)
joined-first (Some p) None o d e = absurd (let z : ◌≡◌ {A = ℕ} 0 1 = cc in omega arith)
joined-first (Some p) (Some q) o d e = (cc, cc)

joined_some : (x : Option (Option Page)) (y : Option Cells) → joined x y ≡ Some [] → ⊥
joined_some None y e = let z : ◌≡◌ {A = ℕ} 0 1 = cc in omega arith
joined_some (Some p) None e = let z : ◌≡◌ {A = ℕ} 0 1 = cc in omega arith
joined_some (Some p) (Some q) e = let z : ◌≡◌ {A = ℕ} 0 1 = cc in omega arith

cell_reads : (width k : ℕ) (s : List ℕ) (c : Cells) (d : List ℕ) → cells_from width k s ≡ Some c → (q : ℕ) → q < k →
    cell_from (decode (get_or (first_chunks width k s) q d)) ≡ Some (get_or c q None)
unfolding cells_from first_chunks part
cell_reads width zero s c d e q l = absurd (omega arith)
cell_reads width (suc k) s c d e q l = go c q e l (λ o i h f. cell_reads width k (drop width s) o d f i h)
  where
    go : (x : Cells) (i : ℕ) → cells_from width (suc k) s ≡ Some x → i < suc k →
        ((o : Cells) (i : ℕ) → i < k → cells_from width k (drop width s) ≡ Some o →
        cell_from (decode (get_or (first_chunks width k (drop width s)) i d)) ≡ Some (get_or o i None)) →
        cell_from (decode (get_or (first_chunks width (suc k) s) i d)) ≡ Some (get_or x i None)
    go [] i f h r = absurd (joined_some (cell_from (decode (take width s))) (cells_from width k (drop width s)) f)
    go (o ∷ x) zero f h r = (joined-first (cell_from (decode (take width s))) (cells_from width k (drop width s)) o x f).0
    go (o ∷ x) (suc i) f h r =
        r x i (omega arith) (joined-first (cell_from (decode (take width s))) (cells_from width k (drop width s)) o x f).1

module _ {pool : List ℕ} {blocks : ℕ} {c : Cells} (j : Judged pool blocks c) where
  passing_blocks : Passing pages_in_block blocks c
  unfolding pages_pass
  passing_blocks =
      passing pages_in_block blocks c
      (and_left (blocks_pass pages_in_block blocks c) (every_page (page_passes (blocks_in pages_in_block blocks c)) (blocks_in pages_in_block blocks c))
      j.pass)

  pub length-cells : length c ≡ pages_in_block * blocks
  length-cells = passing_blocks.size

  reads_at : (q : ℕ) → q < 32 * blocks → cell_from (decode (page_at (pages_of pool) q)) ≡ Some (get_or c q None)
  unfolding page_at pages_of chunks cells_of
  reads_at q l = cell_reads page_bytes (length pool / page_bytes) pool c blank_page j.reads q (omega (arith, j.size))

  -- THE HEADERS of every page are its cell's.
  pub headers : (q : ℕ) → q < 32 * blocks → Header (page_at (pages_of pool) q) (get_or c q None)
  headers q l = header (page_at (pages_of pool) q) (length_page pool q (omega (arith, j.size))) (get_or c q None) (reads_at q l)

  -- Each number has one page at most, and the greatest is the store's last.
  pub once : (s : ℕ) → count (numbered s) (pages_in c) ≤ 1
  once s =
      omega (
        arith,
        differ_once (blocks_in pages_in_block blocks c) passing_blocks.differ s,
        tally-pages pages_in_block blocks c passing_blocks.size passing_blocks.filled (numbered s),
      )

  pub last-is : (reopened blocks c).last ≡ greatest_of (pages_in c)
  unfolding reopened
  last-is = newest-pages pages_in_block blocks c passing_blocks.size passing_blocks.filled

  pub find-is : (s : ℕ) → find s (reopened blocks c).blocks ≡ page_in s (pages_in c)
  unfolding reopened
  find-is s = find-pages pages_in_block blocks c passing_blocks.size passing_blocks.filled s

-- A page that is found has the number that it was looked for by.
pub own-number : (c : Cells) (s : ℕ) → (page_in s (pages_in c) ≡ None) ⊎ (number_in (page_in s (pages_in c)) ≡ s)
own-number c s = go (page_in s (pages_in c)) refl
  where
    go : (x : Option Page) → page_in s (pages_in c) ≡ x → (x ≡ None) ⊎ (number_in x ≡ s)
    go None e = inl refl
    go (Some p) e = inr (page_in-number s (pages_in c) p e)
