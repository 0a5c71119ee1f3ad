-- QUESTIONS 5 AND 6 in code are the model's: where one fails its number is the refusal. Assumes nothing.
use Rattle.std.specs.Prelude.{◌≡◌, List, ℕ, ◌*◌, length, Option, None, Some, is_some}
use Rattle.std.proofs.Math.Path.{refl, sym, ap}
use Rattle.std.proofs.Common.{◌∙◌, true≢false, arith}
use Rattle.std.proofs.Math.Bool.{true, false}
use Rattle.layout.specs.Layout.{block_bytes, table_bytes}
use Rattle.store.specs.Checkpoint.{checkpoint_of, complete}
use Rattle.store.specs.Reopen.{Cells, reopened}
use Rattle.model.specs.Bytes.{cells_of}
use Rattle.model.specs.Mount.{refused, mount_cells}
use Rattle.model.specs.Pool.{blocks_of, mount_by, mount_of}
use Rattle.flash_blocks.specs.Pages.{pages_of}
use Rattle.mount_survey.specs.Surveyed.{cells_check, pages_check}
use Rattle.mount_checkpoint.specs.Find.{checkpoint_in}
use Rattle.mount_refines.specs.Checkpoint.Pool.{Judged}
use Rattle.mount_refines.specs.Checkpoint.Found.{question_six}

module _ (pool : List ℕ) (blocks : ℕ) (size : length pool ≡ block_bytes * blocks) where
  blocks_are : blocks_of pool ≡ blocks
  blocks_are = omega arith

  by-cells : mount_of pool ≡ mount_by blocks (cells_of pool)
  unfolding mount_of
  by-cells = ap (λ (n : ℕ). mount_by n (cells_of pool)) blocks_are

  pub refused_five : pages_check blocks pool ≡ false → mount_of pool ≡ refused 5
  unfolding pages_check cells_check mount_cells
  refused_five e = by-cells ∙ go (cells_of pool) e
    where
      go : (o : Option Cells) → cells_check blocks o ≡ false → mount_by blocks o ≡ refused 5
      go None q = refl
      go (Some c) q = rw q refl

  pub passed_five : pages_check blocks pool ≡ true → (c : Cells) × Judged pool blocks c
  unfolding pages_check cells_check
  passed_five e = go (cells_of pool) refl e
    where
      go : (o : Option Cells) → cells_of pool ≡ o → cells_check blocks o ≡ true → (c : Cells) × Judged pool blocks c
      go None q r = absurd (true≢false (sym r))
      go (Some c) q r = (c, record { size = size; reads = q; pass = r })

module _ {pool : List ℕ} {blocks : ℕ} {c : Cells} (j : Judged pool blocks c) where
  pub judged_cells : mount_of pool ≡ mount_cells blocks c
  judged_cells = by-cells pool blocks j.size ∙ ap (mount_by blocks) j.reads

  pub refused_six : checkpoint_in (pages_of pool) blocks (table_bytes blocks) ≡ None → mount_of pool ≡ refused 6
  unfolding mount_cells
  refused_six e =
      let no : complete (checkpoint_of (reopened blocks c)) ≡ false = sym (question_six j (table_bytes blocks) (omega arith)) ∙ ap is_some e in
      judged_cells ∙ rw (j.pass, no) refl
