-- The tests of sequence numbers by what the sort, the neighbours and the marks say; and the answers of the survey by its returns.
-- Assumes nothing.
use mathlib.Core.Path.{◌≡◌, refl, sym, ap, subst, ◌∙◌}
use mathlib.Core.Bool.{true, false}
use mathlib.Core.List.{List}
use Rattle.std.specs.Prelude.{None, Some}
use Prim.Native.Nat.{ℕ, ◌*◌}
use native.Mathlib.Omega.{arith}
use lib.ListN.{length}
use Rattle.layout.specs.Layout.{block_bytes}
use Rattle.laws.specs.BigEndian.{Bytes}
use Rattle.flash_blocks.specs.Pages.{pages_of}
use Rattle.mount_sequences.specs.Row.{row}
use Rattle.mount_sequences.specs.Ascend.{Ascends}
use Rattle.mount_sequences.specs.Digits.{self, greatest}
use Rattle.mount_sequences.specs.Sort.{Sorted}
use Rattle.mount_sequences.specs.Strict.{strict}
use Rattle.mount_sequences.specs.Differ.{differs, strict-differs}
use Rattle.mount_sequences.specs.Find.{Ascending}
use Rattle.mount_filter.specs.Marks.{Marking}
use Rattle.mount_blocks.specs.Rules.{blocks_pass}
use Rattle.mount_pages.specs.Collect.{sequences_from}
use Rattle.mount_pages.specs.Versions.{pages_apart}
use Rattle.mount_survey_refines.specs.Passes.{numbers_pass, all_pass}
use Rattle.mount_survey.specs.Surveyed.{found, Surveyed, apart_same, surveyed_failed, surveyed_found}

-- The numbers of a row, sorted.
module _ (old new : List ℕ) (n blocks : ℕ) (sorted : Sorted old new n) where
  neighbours : strict (row n 0 new) ≡ differs (row n 0 old)
  neighbours = strict-differs (row n 0 new) (row n 0 old) sorted.same sorted.ascends

  pub numbers_twice : (pages : List (List ℕ)) → strict (row n 0 new) ≡ false → false ≡ numbers_pass blocks pages (row n 0 old)
  unfolding numbers_pass
  numbers_twice pages e = rw (sym neighbours ∙ e) refl

  module _ (marked : List ℕ) (m : Marking new marked n blocks) where
    pub ascending_marked : Ascending marked n
    ascending_marked =
        record {
          room = omega (arith, m.marked.room.few, m.marked.room.size);
          ascends = subst (Ascends self) (sym m.kept) sorted.ascends;
        }

    pub numbers_apart : (pages : List (List ℕ)) → strict (row n 0 new) ≡ true →
        pages_apart (row n 0 marked) (32 * blocks) pages ≡ numbers_pass blocks pages (row n 0 old)
    unfolding numbers_pass
    numbers_apart pages e =
        ap (λ (xs : List ℕ). pages_apart xs (32 * blocks) pages) m.kept ∙
        apart_same (row n 0 new) (row n 0 old) sorted.same (32 * blocks) pages ∙
        sym (rw (sym neighbours ∙ e) refl)

-- The tests of all pages together, one behind the other.
module _
    (pool : List ℕ) (bytes : Bytes pool) (blocks : ℕ) (size : length pool ≡ block_bytes * blocks) (sequences : List ℕ)
    (e : sequences_from (pages_of pool) (32 * blocks) 0 ≡ Some sequences)
  where
    pub numbers_fail : numbers_pass blocks (pages_of pool) sequences ≡ false → Surveyed pool blocks None
    unfolding all_pass
    numbers_fail t = surveyed_failed pool bytes blocks size sequences e (rw t refl)

    module _ (t : numbers_pass blocks (pages_of pool) sequences ≡ true) where
      pub blocks_fail : blocks_pass blocks (pages_of pool) (greatest sequences) ≡ false → Surveyed pool blocks None
      unfolding all_pass
      blocks_fail u = surveyed_failed pool bytes blocks size sequences e (rw (t, u) refl)

      pub all_found : blocks_pass blocks (pages_of pool) (greatest sequences) ≡ true → Surveyed pool blocks (Some (found blocks (pages_of pool) (greatest sequences)))
      unfolding all_pass
      all_found u = surveyed_found pool bytes blocks size sequences e (rw (t, u) refl)
