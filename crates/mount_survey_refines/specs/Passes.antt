-- QUESTION 5: the tests that the survey makes of pages and sequence numbers are the model's of cells (document 01: "Do all pages check, as
-- under Pages?"). Assumes nothing.
use Rattle.std.specs.Prelude.{◌≡◌, Bool, ◌⊎◌, ℕ, suc, ◌+◌, ◌*◌, ◌≤◌, ◌<◌, eqb, leb, ltb, get_or, Option, None, Some}
use Rattle.std.proofs.Math.Path.{refl, ap, ap₂}
use Rattle.std.proofs.Common.{sym, ◌∙◌, inl, inr, suc-le-suc, add-zero, arith}
use Rattle.std.proofs.Math.Bool.{true, false, ◌&&◌}
use mathlib.Core.List.{List, [], ◌∷◌, map}
use Rattle.std.proofs.Math.ListN.{length, get_or-eq_default}
use borrow.Author.Tests.{eq-eqb, lt-ltb, le-ltb}
use Rattle.laws.specs.Tests.{choose, and_left}
use Rattle.laws.specs.Order.{le_or}
use Rattle.laws.specs.Counts.{count, tally}
use Rattle.laws.specs.BigEndian.{Bytes}
use Rattle.laws.specs.Loops.{all_from}
use Rattle.page.specs.Page.{Page, sequence}
use Rattle.store.specs.Pool.{Blocks, block, numbered}
use Rattle.store.specs.Allocate.{blanks}
use Rattle.store.specs.Reopen.{Cells, blocks_in, newest, all_filled, differ, full_or_all, page_passes, every, every_page, pages_pass}
use Rattle.store.specs.Reopen as Model
use Rattle.store_laws.specs.CellLaws.{length-blocks_in}
use Rattle.store_laws.specs.BlockTests.{passing}
use Rattle.model.specs.Bytes.{cells_of}
use Rattle.flash_blocks.specs.Pages.{pages_of, page_at, blank_page}
use Rattle.mount_sequences.specs.Digits.{greatest}
use Rattle.mount_sequences.specs.Strict.{is}
use Rattle.mount_sequences.specs.Differ.{differs}
use Rattle.mount_blocks.specs.Rules.{sequence_on, blank_at, blocks_pass, block_of, fill_of}
use Rattle.store_laws.specs.WrittenPages.{pages_in, pages_over, pages_in-blocks, pages_over-tally}
use Rattle.mount_pages.specs.Versions.{page_apart, pages_apart}
use Rattle.mount_survey_refines.specs.Written.{sequences_in, every-pages, count_sequences}
use Rattle.mount_survey_refines.specs.Written.{greatest-pages, differs-pages}
use Rattle.mount_survey_refines.specs.Cells.{Spells, no_page, one_page, Spelled, length-pool, pool-spelled}
use Rattle.mount_survey_refines.specs.PageCells.{blank-read, sequence-read, cell_passes, apart_read}
use Rattle.mount_survey_refines.specs.BlockCells.{Stretch, blocks_pass_lem, block_of_lem, fill_of_lem}

-- What a pool's pages pass, by their sequence numbers: these all differ and none is a version, and the blocks keep their rules.
unfoldable pub numbers_pass : ℕ → List (List ℕ) → List ℕ → Bool
numbers_pass blocks pages sequences = differs sequences && pages_apart sequences (32 * blocks) pages

unfoldable pub all_pass : ℕ → List (List ℕ) → List ℕ → Bool
all_pass blocks pages sequences = numbers_pass blocks pages sequences && blocks_pass blocks pages (greatest sequences)

-- How far a block is filled; a block behind the last has no page.
unfoldable pub fill_in : ℕ → List (List ℕ) → ℕ → ℕ
fill_in blocks pages block = choose (ltb block blocks) (fill_of pages block) 0

-- ---- what is read of a pool's pages

read_stretch : (pages : List (List ℕ)) (c : Cells) → Spelled pages c → Stretch pages 0 c
unfolding blank_at sequence_on page_at
read_stretch pages c s =
    record {
      blank = λ j l. ap (blank_at pages) (omega arith) ∙ blank-read (get_or pages j blank_page) (s.each j l);
      number = λ j p l e. ap (sequence_on pages) (omega arith) ∙ number j p e (s.each j l);
    }
  where
    number : (j : ℕ) (p : Page) → get_or c j None ≡ Some p → Spells (get_or pages j blank_page) (get_or c j None) → sequence_on pages j ≡ sequence p
    number j p e h = go (get_or c j None) e h
      where
        go : (o : Option Page) → o ≡ Some p → Spells (get_or pages j blank_page) o → sequence_on pages j ≡ sequence p
        go o e (no_page b) = absurd (let z : ◌≡◌ {A = ℕ} 0 1 = cc in omega arith)
        go o e (one_page {p = q} b f) = sequence-read (get_or pages j blank_page) q b f ∙ (let same : q ≡ p = cc in ap sequence same)

-- The test of every page, cell by cell.
module _ (sequences : List ℕ) (bs : Blocks) (same : (v : ℕ) → count (is v) sequences ≡ tally (numbered v) bs) (f : ℕ → Bool) where
  each_page : (d : Cells) (at : ℕ) → ((j : ℕ) → j < length d → f (at + j) ≡ cell_passes sequences bs same (get_or d j None)) →
      all_from f (length d) at ≡ every (page_passes bs) (pages_in d)
  unfolding all_from
  each_page [] at h = refl
  each_page (o ∷ d) at h =
      ap₂ ◌&&◌ (ap f (sym (add-zero at)) ∙ h 0 (omega arith)) (each_page d (at + 1) (λ j l. ap f (omega arith) ∙ h (suc j) (suc-le-suc l))) ∙
      go o
    where
      go : (o : Option Page) → (cell_passes sequences bs same o && every (page_passes bs) (pages_in d)) ≡ every (page_passes bs) (pages_in (o ∷ d))
      go None = refl
      go (Some p) = refl

pages_apart_lem : (pages : List (List ℕ)) (c : Cells) → Spelled pages c → (n : ℕ) → length c ≡ n → (bs : Blocks) → pages_in c ≡ pages_over bs →
    pages_apart (sequences_in c) n pages ≡ every_page (page_passes bs) bs
unfolding pages_apart page_apart page_at
pages_apart_lem pages c s n e bs w =
    ap (λ (k : ℕ). all_from (page_apart (sequences_in c) pages) k 0) (sym e) ∙
    each_page (sequences_in c) bs same (page_apart (sequences_in c) pages) c 0
    (λ j l. ap (page_apart (sequences_in c) pages) (omega arith) ∙ apart_read (sequences_in c) bs same (get_or pages j blank_page) (s.each j l)) ∙
    ap (every (page_passes bs)) w ∙
    every-pages (page_passes bs) bs
  where
    same : (v : ℕ) → count (is v) (sequences_in c) ≡ tally (numbered v) bs
    same v = count_sequences v (pages_in c) ∙ ap (count (numbered v)) w ∙ pages_over-tally (numbered v) bs

-- ---- a pool whose pages check one by one

module _ (pool : List ℕ) (bytes : Bytes pool) (blocks : ℕ) (size : length pool ≡ 16384 * blocks) (c : Cells) (is : cells_of pool ≡ Some c) where
  abbrev pages : List (List ℕ)
  pages = pages_of pool

  abbrev bs : Blocks
  bs = blocks_in 32 blocks c

  spelled : Spelled pages c
  spelled = pool-spelled pool bytes c is

  length-cells : length c ≡ 32 * blocks
  length-cells = spelled.size ∙ length-pool pool (32 * blocks) (omega arith)

  stretch : Stretch pages 0 c
  stretch = read_stretch pages c spelled

  rearranged : (a f o d e : Bool) → a ≡ true → ((d && e) && ((a && f) && o)) ≡ ((a && (d && (o && f))) && e)
  rearranged a true true true true q = rw q
  rearranged a true true true false q = rw q
  rearranged a true true false e q = rw q
  rearranged a true false true true q = rw q
  rearranged a true false true false q = rw q
  rearranged a true false false e q = rw q
  rearranged a false true true true q = rw q
  rearranged a false true true false q = rw q
  rearranged a false true false e q = rw q
  rearranged a false false true true q = rw q
  rearranged a false false true false q = rw q
  rearranged a false false false e q = rw q

  -- in a pool whose blocks are not filled from their first pages up nothing passes
  never_filled : (x y z u : Bool) → (x && ((false && y) && z)) ≡ (false && u)
  never_filled true y z u = refl
  never_filled false y z u = refl

  module _ (f : all_filled 32 blocks c ≡ true) where
    written_is : pages_in c ≡ pages_over bs
    written_is = pages_in-blocks 32 blocks c length-cells f

    greatest-is : greatest (sequences_in c) ≡ newest bs
    greatest-is = ap (λ (l : List Page). greatest (map sequence l)) written_is ∙ greatest-pages bs

    differs-is : differs (sequences_in c) ≡ differ bs
    differs-is = ap (λ (l : List Page). differs (map sequence l)) written_is ∙ differs-pages bs

  -- THE TESTS ARE THE MODEL'S
  pub all_pass_lem : all_pass blocks pages (sequences_in c) ≡ pages_pass blocks c
  unfolding all_pass numbers_pass pages_pass Model.blocks_pass
  all_pass_lem = go (all_filled 32 blocks c) refl
    where
      go : (t : Bool) → all_filled 32 blocks c ≡ t →
          ((differs (sequences_in c) && pages_apart (sequences_in c) (32 * blocks) pages) && blocks_pass blocks pages (greatest (sequences_in c))) ≡
          ((eqb (length c) (32 * blocks) && (all_filled 32 blocks c &&
          (differ bs && (leb 1 (blanks bs) && full_or_all 32 (newest bs) bs)))) && every_page (page_passes bs) bs)
      go true t =
          rw (
            blocks_pass_lem pages c blocks length-cells stretch (greatest (sequences_in c)),
            greatest-is t,
            differs-is t,
            pages_apart_lem pages c spelled (32 * blocks) length-cells bs (written_is t),
            eq-eqb (length c) (32 * blocks) length-cells,
          )
          (rearranged (all_filled 32 blocks c) (full_or_all 32 (newest bs) bs) (leb 1 (blanks bs)) (differ bs) (every_page (page_passes bs) bs) t)
      go false t =
          rw (
            blocks_pass_lem pages c blocks length-cells stretch (greatest (sequences_in c)),
            eq-eqb (length c) (32 * blocks) length-cells,
            t,
          )
          (never_filled (differs (sequences_in c) && pages_apart (sequences_in c) (32 * blocks) pages) (full_or_all 32 (greatest (sequences_in c)) bs)
          (leb 1 (blanks bs)) (every_page (page_passes bs) bs))

  -- AND WHERE THEY PASS, the newest page, its block, and how far that is filled
  module _ (passed : pages_pass blocks c ≡ true) where
    blocks_passed : Model.blocks_pass 32 blocks c ≡ true
    unfolding pages_pass
    blocks_passed = and_left (Model.blocks_pass 32 blocks c) (every_page (page_passes bs) bs) passed

    pub newest-is : greatest (sequences_in c) ≡ newest bs
    newest-is = greatest-is (passing 32 blocks c blocks_passed).filled

    pub current_is : block_of blocks pages (greatest (sequences_in c)) ≡ Model.block_of (newest bs) bs
    current_is = block_of_lem pages c blocks length-cells stretch (greatest (sequences_in c)) ∙ ap (λ (s : ℕ). Model.block_of s bs) newest-is

  pub fill_is : (i : ℕ) → fill_in blocks pages i ≡ length (block bs i)
  unfolding fill_in
  fill_is i = go (le_or blocks i)
    where
      go : (blocks ≤ i) ⊎ (i < blocks) → choose (ltb i blocks) (fill_of pages i) 0 ≡ length (block bs i)
      go (inl l) =
          rw (le-ltb i blocks l) (sym (ap length (get_or-eq_default bs [] (omega (arith, length-blocks_in 32 blocks c)))))
      go (inr l) = rw (lt-ltb i blocks l) (fill_of_lem pages c blocks length-cells stretch i l)
