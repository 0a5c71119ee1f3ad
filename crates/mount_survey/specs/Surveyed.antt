-- What the survey of a pool answers: question 5 of document 01, "Do all pages check, as under Pages?", and of a pool whose pages check the
-- newest sequence number, the block of that page and how far the block is filled. Assumes nothing.
use Rattle.std.specs.Prelude.{◌≡◌, Bool, true, List, ℕ, ◌*◌, ◌≤◌, ltb, length, Option, None, Some, IfSome}
use Rattle.std.specs.Option.{is_some}
use Rattle.std.proofs.Math.Path.{refl, sym, ap, fun_ext}
use Rattle.std.proofs.Common.{◌∙◌, arith}
use Rattle.std.proofs.Math.Bool.{false}
use Rattle.laws.specs.BigEndian.{Bytes}
use Rattle.laws.specs.Counts.{Reordered}
use Rattle.laws.specs.Loops.{all_from}
use Rattle.laws.specs.Options.{some_same, none_some}
use Rattle.layout.specs.Layout.{block_bytes, fewest_blocks, table_bytes}
use Rattle.store.specs.Pool.{block}
use Rattle.store.specs.Reopen.{Cells, blocks_in, pages_pass}
use Rattle.store.specs.Reopen as Model
use Rattle.model.specs.Bytes.{cells_of}
use Rattle.flash_blocks.specs.Pages.{pages_of, page_at}
use Rattle.mount_sequences.specs.Row.{row}
use Rattle.mount_sequences.specs.Digits.{greatest}
use Rattle.mount_sequences.specs.Strict.{is}
use Rattle.mount_sequences.specs.Find.{has}
use Rattle.mount_blocks.specs.Rules.{block_of}
use Rattle.mount_pages.specs.Collect.{sequences_from}
use Rattle.mount_pages.specs.Versions.{apart_on, page_apart, pages_apart}
use Rattle.mount_survey_refines.specs.Written.{sequences_in}
use Rattle.mount_survey_refines.specs.Cells.{sequences_of, sequences_pool}
use Rattle.mount_survey_refines.specs.Passes.{all_pass, fill_in, all_pass_lem, newest-is, current_is, fill_is}
use Rattle.mount_survey.specs.declared.answer.Survey.{Survey}

-- Document 01, question 5, of a pool's bytes.
unfoldable pub cells_check : ℕ → Option Cells → Bool
cells_check blocks None = false
cells_check blocks (Some c) = pages_pass blocks c

unfoldable pub pages_check : ℕ → List ℕ → Bool
pages_check blocks pool = cells_check blocks (cells_of pool)

-- The answer for a pool whose pages check, by its newest sequence number.
unfoldable pub found : ℕ → List (List ℕ) → ℕ → Survey
found blocks pages s =
    record { newest = s; current = block_of blocks pages s; fill = fill_in blocks pages (block_of blocks pages s) }

-- WHAT THE SURVEY SAYS of a pool.
pub record Surveyed (pool : List ℕ) (blocks : ℕ) (r : Option Survey) : Type 0 where
  pub ok : is_some r ≡ pages_check blocks pool
  pub newest : (c : Cells) → cells_of pool ≡ Some c → IfSome r (λ v. v.newest ≡ Model.newest (blocks_in 32 blocks c))
  pub current : (c : Cells) → cells_of pool ≡ Some c →
      IfSome r (λ v. v.current ≡ Model.block_of (Model.newest (blocks_in 32 blocks c)) (blocks_in 32 blocks c))
  pub fill : (c : Cells) → cells_of pool ≡ Some c → IfSome r (λ v. v.fill ≡ length (block (blocks_in 32 blocks c) v.current))

-- A row of sequence numbers of a pool's pages, none above the newest, in a table of the pool's size.
pub record Ready (pool table : List ℕ) (n blocks newest : ℕ) : Type 0 where
  pub whole : length pool ≡ block_bytes * blocks
  pub enough : fewest_blocks ≤ blocks
  pub size : length table ≡ table_bytes blocks
  pub few : n ≤ 32 * blocks
  pub top : greatest (row n 0 table) ≤ newest

-- The entries are held against numbers in any order.
pub apart_same : (xs ys : List ℕ) → Reordered xs ys → (n : ℕ) (pages : List (List ℕ)) → pages_apart xs n pages ≡ pages_apart ys n pages
unfolding pages_apart page_apart has
apart_same xs ys same n pages =
    let e : has xs ≡ has ys = fun_ext (λ (v : ℕ). ap (ltb 0) (same (is v))) in
    ap (λ (test : ℕ → Bool). all_from (λ (q : ℕ). apart_on test (page_at pages q)) n 0) e

-- ---- the answers

module _ (pool : List ℕ) (bytes : Bytes pool) (blocks : ℕ) (size : length pool ≡ block_bytes * blocks) where
  abbrev pages : List (List ℕ)
  pages = pages_of pool

  collected : sequences_from pages (32 * blocks) 0 ≡ sequences_of (cells_of pool)
  collected = sequences_pool pool (32 * blocks) (omega arith)

  failed_surveyed : false ≡ pages_check blocks pool → Surveyed pool blocks None
  failed_surveyed e = record { ok = e; newest = λ c q. tt; current = λ c q. tt; fill = λ c q. tt }

  -- a page does not check by itself
  pub surveyed_bad : sequences_from pages (32 * blocks) 0 ≡ None → Surveyed pool blocks None
  unfolding pages_check cells_check
  surveyed_bad e = failed_surveyed (go (cells_of pool) (sym collected ∙ e))
    where
      go : (o : Option Cells) → sequences_of o ≡ None → false ≡ cells_check blocks o
      go None q = refl
      go (Some c) q = absurd (none_some (sym q))

  module _ (sequences : List ℕ) (e : sequences_from pages (32 * blocks) 0 ≡ Some sequences) where
    -- the cells are there, and the numbers are theirs
    numbers_are : (o : Option Cells) → cells_of pool ≡ o → sequences_of o ≡ Some sequences → all_pass blocks pages sequences ≡ cells_check blocks o
    unfolding cells_check
    numbers_are None q r = absurd (none_some r)
    numbers_are (Some c) q r =
        ap (all_pass blocks pages) (sym (some_same r)) ∙ all_pass_lem pool bytes blocks size c q

    check_is : all_pass blocks pages sequences ≡ pages_check blocks pool
    unfolding pages_check
    check_is = numbers_are (cells_of pool) refl (sym collected ∙ e)

    -- the tests of all pages together fail
    pub surveyed_failed : all_pass blocks pages sequences ≡ false → Surveyed pool blocks None
    surveyed_failed t = failed_surveyed (sym t ∙ check_is)

    -- they pass
    pub surveyed_found : all_pass blocks pages sequences ≡ true → Surveyed pool blocks (Some (found blocks pages (greatest sequences)))
    unfolding found
    surveyed_found t =
        record {
          ok = sym t ∙ check_is;
          newest = λ c q. ap greatest (sym (own c q)) ∙ newest-is pool bytes blocks size c q (passes c q);
          current = λ c q. current c q;
          fill = λ c q. fill_is pool bytes blocks size c q (block_of blocks pages (greatest sequences));
        }
      where
        own : (c : Cells) → cells_of pool ≡ Some c → sequences_in c ≡ sequences
        own c q = some_same (ap sequences_of (sym q) ∙ sym collected ∙ e)

        passes : (c : Cells) → cells_of pool ≡ Some c → pages_pass blocks c ≡ true
        passes c q = sym (ap (all_pass blocks pages) (sym (own c q)) ∙ all_pass_lem pool bytes blocks size c q) ∙ t

        current : (c : Cells) → cells_of pool ≡ Some c → block_of blocks pages (greatest sequences) ≡ Model.block_of
            (Model.newest (blocks_in 32 blocks c)) (blocks_in 32 blocks c)
        current c q = ap (λ (ss : List ℕ). block_of blocks pages (greatest ss)) (sym (own c q)) ∙ current_is pool bytes blocks size c q (passes c q)
