-- The rules of blocks as the survey asks them of pages are the model's of cells. Assumes nothing.
use Rattle.std.specs.Prelude.{◌≡◌, Bool, get_or, take, Option, None, Some}
use Rattle.std.proofs.Math.Path.{refl, sym, ap, ap₂}
use Rattle.std.proofs.Common.{◌∙◌, le_of_suc-le-suc, not-suc-le-zero, length-drop, length-take-le, get_or-take, get_or-drop, drop-drop}
use Rattle.std.proofs.Math.Bool.{true, false, not, ◌&&◌}
use mathlib.Core.List.{List, [], ◌∷◌}
use Prim.Native.Nat.{ℕ, zero, suc, ◌+◌, ◌-◌, ◌*◌, ◌<◌, suc-le-suc}
use Rattle.std.proofs.Math.Nat.{add-zero, sub-zero}
use native.Mathlib.Omega.{arith}
use Rattle.std.proofs.Math.Dec.{eqb, leb, ltb}
use Rattle.std.proofs.Math.ListN.{length, drop}
use borrow.Author.Tests.{eq-eqb, ne_eqb, lt-ltb, le-ltb}
use Rattle.laws.specs.Tests.{choose, and_swap}
use Rattle.laws.specs.Counts.{bit, count, empty, empty-length}
use Rattle.laws.specs.Loops.{first_from, all_from}
use Rattle.page.specs.Page.{Page, sequence}
use Rattle.store.specs.Pool.{block, numbered}
use Rattle.store.specs.Allocate.{blanks}
use Rattle.store.specs.Reopen.{Cells, block_in, blocks_in, here_or_next, blank, filled, all_filled, full_or, full_or_all}
use Rattle.store.specs.Reopen as Model
use Rattle.store_laws.specs.CellLaws.{length-blocks_in}
use Rattle.flash_blocks.specs.Blank.{blank_block, blank_blocks}
use Rattle.flash_refines.specs.Store.Blank.{blank_blocks-is}
use Rattle.mount_blocks.specs.Rules.{sequence_on, blank_at, written_at, numbered_at, first_blank, fill_of, rest_blank, holds, block_passes, blocks_pass, block_of}
use Rattle.mount_survey_refines.specs.PageCells.{vacant}

-- ---- a stretch of cells from a place on

-- What is read at the places of a stretch is what its cells hold.
pub record Stretch (pages : List (List ℕ)) (at : ℕ) (d : Cells) : Type 0 where
  pub blank : (j : ℕ) → j < length d → blank_at pages (at + j) ≡ vacant (get_or d j None)
  pub number : (j : ℕ) (p : Page) → j < length d → get_or d j None ≡ Some p → sequence_on pages (at + j) ≡ sequence p

module _ (pages : List (List ℕ)) where
  rest_stretch : (at : ℕ) (x : Option Page) (d : Cells) → Stretch pages at (x ∷ d) → Stretch pages (at + 1) d
  rest_stretch at x d r =
      record {
        blank = λ j l. ap (blank_at pages) (omega arith) ∙ r.blank (suc j) (suc-le-suc l);
        number = λ j p l e. ap (sequence_on pages) (omega arith) ∙ r.number (suc j) p (suc-le-suc l) e;
      }

  first-blank : (at : ℕ) (x : Option Page) (d : Cells) → Stretch pages at (x ∷ d) → blank_at pages at ≡ vacant x
  first-blank at x d r = ap (blank_at pages) (sym (add-zero at)) ∙ r.blank 0 (omega arith)

  first-written : (at : ℕ) (x : Option Page) (d : Cells) → Stretch pages at (x ∷ d) → written_at pages at ≡ not (vacant x)
  unfolding written_at
  first-written at x d r = ap not (first-blank at x d r)

  first-number : (s at : ℕ) (p : Page) (d : Cells) → Stretch pages at (Some p ∷ d) → numbered_at pages s at ≡ numbered s p
  unfolding numbered_at
  first-number s at p d r =
      ap (λ (n : ℕ). eqb n s) (ap (sequence_on pages) (sym (add-zero at)) ∙ r.number 0 p (omega arith) refl)

  -- the first blank page stands behind the written ones
  blank-first : (d : Cells) (at : ℕ) → Stretch pages at d → first_from (blank_at pages) (length d) at ≡ at + length (block_in d)
  unfolding first_from
  blank-first [] at r = sym (add-zero at)
  blank-first (None ∷ d) at r = rw (first-blank at None d r) (sym (add-zero at))
  blank-first (Some p ∷ d) at r =
      rw (first-blank at (Some p) d r) (blank-first d (at + 1) (rest_stretch at (Some p) d r) ∙ omega arith)

  -- all are blank
  blank-all : (d : Cells) (at : ℕ) → Stretch pages at d → eqb (first_from (written_at pages) (length d) at) (at + length d) ≡ blank d
  unfolding first_from
  blank-all [] at r = eq-eqb at (at + 0) (sym (add-zero at))
  blank-all (None ∷ d) at r =
      let e : at + suc (length d) ≡ at + 1 + length d = omega arith in
      rw (first-written at None d r, e) (blank-all d (at + 1) (rest_stretch at None d r))
  blank-all (Some p ∷ d) at r = rw (first-written at (Some p) d r) (ne_eqb at (at + suc (length d)) (λ q. omega arith))

  -- blank ones follow written ones
  rest-filled : (d : Cells) (at : ℕ) → Stretch pages at d →
      eqb (first_from (written_at pages) (length d - length (block_in d)) (at + length (block_in d))) (at + length d) ≡ filled d
  unfolding first_from
  rest-filled [] at r = rw (add-zero at) (eq-eqb at at refl)
  rest-filled (None ∷ d) at r = rw (sub-zero (suc (length d)), add-zero at) (blank-all (None ∷ d) at r)
  rest-filled (Some p ∷ d) at r =
      let e : at + suc (length (block_in d)) ≡ at + 1 + length (block_in d) = omega arith in
      let f : at + suc (length d) ≡ at + 1 + length d = omega arith in
      let g : suc (length d) - suc (length (block_in d)) ≡ length d - length (block_in d) = omega arith in
      rw (g, e, f) (rest-filled d (at + 1) (rest_stretch at (Some p) d r))

  -- one of the written ones has a number
  number_held : (s : ℕ) (d : Cells) (at : ℕ) → Stretch pages at d →
      ltb (first_from (numbered_at pages s) (length (block_in d)) at) (at + length (block_in d)) ≡ ltb 0 (count (numbered s) (block_in d))
  unfolding first_from
  number_held s [] at r = le-ltb at (at + 0) (omega arith)
  number_held s (None ∷ d) at r = le-ltb at (at + 0) (omega arith)
  number_held s (Some p ∷ d) at r =
      ap (λ (t : Bool). ltb (choose t at (first_from (numbered_at pages s) (length (block_in d)) (at + 1))) (at + suc (length (block_in d))))
      (first-number s at p d r) ∙
      go (numbered s p) (number_held s d (at + 1) (rest_stretch at (Some p) d r))
    where
      go : (t : Bool) → ltb (first_from (numbered_at pages s) (length (block_in d)) (at + 1)) (at + 1 + length (block_in d)) ≡ ltb 0
          (count (numbered s) (block_in d)) →
          ltb (choose t at (first_from (numbered_at pages s) (length (block_in d)) (at + 1))) (at + suc (length (block_in d))) ≡ ltb 0
          (bit t + count (numbered s) (block_in d))
      go true ih = lt-ltb at (at + suc (length (block_in d))) (omega arith) ∙ sym (lt-ltb 0 (1 + count (numbered s) (block_in d)) (omega arith))
      go false ih =
          let e : at + suc (length (block_in d)) ≡ at + 1 + length (block_in d) = omega arith in
          let f : 0 + count (numbered s) (block_in d) ≡ count (numbered s) (block_in d) = omega arith in
          rw (e, f) ih

empty-vacant : (d : Cells) → 0 < length d → empty (block_in d) ≡ vacant (get_or d 0 None)
empty-vacant [] l = absurd (not-suc-le-zero l)
empty-vacant (None ∷ d) l = refl
empty-vacant (Some p ∷ d) l = refl

-- ---- the blocks of a pool

-- The cells of block i.
abbrev pub cells_at : Cells → ℕ → Cells
cells_at c i = take 32 (drop (32 * i) c)

drop-next : (c : Cells) (i : ℕ) → drop 32 (drop (32 * i) c) ≡ drop (32 * (i + 1)) c
drop-next c i =
    let e : 32 * i + 32 ≡ 32 * (i + 1) = omega arith in
    drop-drop 32 (32 * i) c ∙ ap (λ (k : ℕ). drop k c) e

block_at : (k : ℕ) (c : Cells) (i : ℕ) → i < k → block (blocks_in 32 k c) i ≡ block_in (cells_at c i)
block_at zero c i l = absurd (not-suc-le-zero l)
block_at (suc k) c zero l = refl
block_at (suc k) c (suc i) l =
    let e : 32 + 32 * i ≡ 32 * suc i = omega arith in
    block_at k (drop 32 c) i (le_of_suc-le-suc l) ∙
    ap (λ (x : Cells). block_in (take 32 x)) (drop-drop (32 * i) 32 c ∙ ap (λ (n : ℕ). drop n c) e)

module _ (pages : List (List ℕ)) (c : Cells) (B : ℕ) (size : length c ≡ 32 * B) (whole : Stretch pages 0 c) where
  length_at : (i : ℕ) → i < B → length (cells_at c i) ≡ 32
  length_at i l = length-take-le 32 (drop (32 * i) c) (omega (arith, length-drop (32 * i) c))

  cell_at : (i j : ℕ) → j < 32 → get_or (cells_at c i) j None ≡ get_or c (32 * i + j) None
  cell_at i j l = get_or-take 32 (drop (32 * i) c) j None l ∙ get_or-drop (32 * i) c j None

  block_stretch : (i : ℕ) → i < B → Stretch pages (32 * i) (cells_at c i)
  block_stretch i l =
      record {
        blank =
            λ j k.
            ap (blank_at pages) (omega arith) ∙
            whole.blank (32 * i + j) (omega (arith, length_at i l)) ∙
            ap vacant (sym (cell_at i j (omega (arith, length_at i l))));
        number =
            λ j p k e.
            ap (sequence_on pages) (omega arith) ∙
            whole.number (32 * i + j) p (omega (arith, length_at i l)) (sym (cell_at i j (omega (arith, length_at i l))) ∙ e);
      }

  -- ONE BLOCK
  module _ (i : ℕ) (l : i < B) where
    abbrev own : List Page
    own = block_in (cells_at c i)

    first-is : first_blank pages i ≡ 32 * i + length own
    unfolding first_blank
    first-is =
        ap (λ (k : ℕ). first_from (blank_at pages) k (32 * i)) (omega (arith, length_at i l)) ∙
        blank-first pages (cells_at c i) (32 * i) (block_stretch i l)

    pub fill_is : fill_of pages i ≡ length own
    unfolding fill_of
    fill_is = omega (arith, first-is)

    rest-is : rest_blank pages i ≡ filled (cells_at c i)
    unfolding rest_blank
    rest-is =
        let n : 32 * i + 32 ≡ 32 * i + length (cells_at c i) = omega (arith, length_at i l) in
        let k : 32 * i + length (cells_at c i) - (32 * i + length own) ≡ length (cells_at c i) - length own = omega arith in
        rw (first-is, n, k) (rest-filled pages (cells_at c i) (32 * i) (block_stretch i l))

    pub holds-is : (s : ℕ) → holds pages s i ≡ ltb 0 (count (numbered s) own)
    unfolding holds
    holds-is s =
        let k : 32 * i + length own - 32 * i ≡ length own = omega arith in
        rw (first-is, k) (number_held pages s (cells_at c i) (32 * i) (block_stretch i l))

    passes-is : (newest : ℕ) → block_passes pages newest i ≡ (filled (cells_at c i) && full_or 32 newest own)
    unfolding block_passes
    passes-is newest = rw (rest-is, fill_is, holds-is newest, empty-length own) refl

    blank-is : blank_block pages i ≡ empty own
    unfolding blank_block blank_at
    blank-is =
        ap (blank_at pages) (sym (add-zero (32 * i))) ∙
        (block_stretch i l).blank 0 (omega (arith, length_at i l)) ∙
        sym (empty-vacant (cells_at c i) (omega (arith, length_at i l)))

  -- ALL BLOCKS, from one on
  each_is : (newest k i : ℕ) → i + k ≡ B →
      all_from (block_passes pages newest) k i ≡ (all_filled 32 k (drop (32 * i) c) && full_or_all 32 newest (blocks_in 32 k (drop (32 * i) c)))
  unfolding all_from
  each_is newest zero i e = refl
  each_is newest (suc k) i e =
      let rest = drop (32 * (i + 1)) c in
      ap₂ ◌&&◌ (passes-is i (omega arith) newest) (each_is newest k (i + 1) (omega arith)) ∙
      and_swap (filled (cells_at c i)) (full_or 32 newest (block_in (cells_at c i))) (all_filled 32 k rest) (full_or_all 32 newest (blocks_in 32 k rest)) ∙
      ap (λ (d : Cells). (filled (cells_at c i) && all_filled 32 k d) &&
      (full_or 32 newest (block_in (cells_at c i)) && full_or_all 32 newest (blocks_in 32 k d))) (sym (drop-next c i))

  of_number : (s k i : ℕ) → i + k ≡ B → first_from (holds pages s) k i ≡ i + Model.block_of s (blocks_in 32 k (drop (32 * i) c))
  unfolding first_from
  of_number s zero i e = sym (add-zero i)
  of_number s (suc k) i e =
      ap₂ (λ (t : Bool) (n : ℕ). choose t i n) (holds-is i (omega arith) s) (of_number s k (i + 1) (omega arith)) ∙
      go (ltb 0 (count (numbered s) (block_in (cells_at c i)))) ∙
      ap (λ (d : Cells). i + here_or_next (ltb 0 (count (numbered s) (block_in (cells_at c i)))) (Model.block_of s (blocks_in 32 k d))) (sym (drop-next c i))
    where
      go : (t : Bool) → choose t i (i + 1 + Model.block_of s (blocks_in 32 k (drop (32 * (i + 1)) c))) ≡ i + here_or_next t
          (Model.block_of s (blocks_in 32 k (drop (32 * (i + 1)) c)))
      go true = sym (add-zero i)
      go false = omega arith

  -- THE RULES, the block of a number, and how far a block is filled
  blanks-is : blank_blocks B pages ≡ blanks (blocks_in 32 B c)
  blanks-is =
      let n : length (blocks_in 32 B c) ≡ B = length-blocks_in 32 B c in
      ap (λ (k : ℕ). blank_blocks k pages) (sym n) ∙
      blank_blocks-is pages (blocks_in 32 B c)
      (λ i l. blank-is i (omega (arith, n)) ∙ ap empty (sym (block_at B c i (omega (arith, n)))))

  pub blocks_pass_lem : (newest : ℕ) → blocks_pass B pages newest ≡
      ((all_filled 32 B c && full_or_all 32 newest (blocks_in 32 B c)) && leb 1 (blanks (blocks_in 32 B c)))
  unfolding blocks_pass
  blocks_pass_lem newest = ap₂ (λ (t : Bool) (n : ℕ). t && leb 1 n) (each_is newest B 0 (omega arith)) blanks-is

  pub block_of_lem : (s : ℕ) → block_of B pages s ≡ Model.block_of s (blocks_in 32 B c)
  unfolding block_of
  block_of_lem s = of_number s B 0 (omega arith) ∙ omega arith

  pub fill_of_lem : (i : ℕ) → i < B → fill_of pages i ≡ length (block (blocks_in 32 B c) i)
  fill_of_lem i l = fill_is i l ∙ ap length (sym (block_at B c i l))
