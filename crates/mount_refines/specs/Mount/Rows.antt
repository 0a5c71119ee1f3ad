-- The rows with the scores of the checkpoint are those that filling begins with: no page of a node met yet. Assumes nothing.
use Rattle.std.specs.Prelude.{◌≡◌, refl, List, ℕ, ◌-◌, ◌*◌, ◌≤◌, ◌<◌, length, take, replicate}
use Rattle.std.proofs.Common.{sym, ap, ◌∙◌, subst, arith}
use Rattle.std.proofs.lemmas.List.{length-replicate}
use Rattle.laws.specs.BigEndian.{number_at}
use Rattle.laws.specs.Lay.{part, drop-replicate, take-replicate}
use Rattle.layout.specs.Layout.{fewest_blocks, node_limit, table_bytes}
use Rattle.account.specs.declared.Tariff.{Tariff}
use Rattle.store.specs.Reopen.{Cells}
use Rattle.flash_rows.specs.Row.{mode_from, decode}
use Rattle.flash_rows.specs.Step.{scored, score-scored}
use Rattle.flash_rows.specs.declared.Row.{Row}
use Rattle.flash_rows.specs.Worktable.{rows_at, rows_for}
use Rattle.flash_rows.proofs.Laws.{length-rows, get_rows}
use Rattle.flash_blocks.specs.Pages.{pages_of}
use Rattle.flash_refines.specs.Store.Mirror.{row_at}
use Rattle.mount_refines.specs.Checkpoint.Scores.{Scored, scores-taken}
use Rattle.mount_refines.specs.Rows.Cells.{Unmet}
use Rattle.mount_refines.specs.Rows.Given.{Given}
use Rattle.mount_restore.specs.Table.{empty_rows, scored_rows}
use Rattle.mount_refines.specs.Mount.Known.{score_from, Known}

-- ---- an empty table

abbrev zeros : ℕ → List ℕ
zeros n = replicate n 0

length-empty : (blocks : ℕ) → fewest_blocks ≤ blocks → rows_for blocks ≤ length (empty_rows blocks)
unfolding empty_rows
length-empty blocks few =
    let size = table_bytes blocks - rows_at in
    omega (arith, length-rows (zeros size), length-replicate {A = ℕ} size 0)

empty-row : (blocks n : ℕ) → fewest_blocks ≤ blocks → n < rows_for blocks → row_at (empty_rows blocks) n ≡ decode (zeros 16)
unfolding empty_rows part
empty-row blocks n few l =
    let size = table_bytes blocks - rows_at in
    get_rows (zeros size) n (omega (arith, length-replicate {A = ℕ} size 0)) ∙
    ap decode (ap (take 16) (drop-replicate (16 * n) size 0) ∙ take-replicate 16 (size - 16 * n) 0 (omega arith))

unmet_zeros : Unmet (decode (zeros 16))
unfolding decode number_at part mode_from
unmet_zeros = record { version = refl; mode = refl; pages = refl }

unmet_scored : (score : ℕ) (r : Row) → Unmet r → Unmet (scored score r)
unfolding scored
unmet_scored score r u = record { version = u.version; mode = u.mode; pages = u.pages }

-- ---- the scores taken into it

module _ {pool : List ℕ} {blocks : ℕ} {c : Cells} {t : Tariff} {nodes since : ℕ} (k : Known pool blocks c t nodes since)
    (limit : nodes ≤ node_limit blocks) where
  abbrev score : ℕ → ℕ
  score = score_from blocks c

  taken : Scored nodes score (empty_rows blocks) (scored_rows blocks nodes since (pages_of pool))
  unfolding scored_rows
  taken =
      scores-taken k.judged (table_bytes blocks) (omega arith) t nodes since k.told (empty_rows blocks)
      (omega (arith, limit, length-empty blocks k.few))

  row-taken : (n : ℕ) → n < nodes → row_at (scored_rows blocks nodes since (pages_of pool)) n ≡ scored (score n) (decode (zeros 16))
  row-taken n l = taken.own n l ∙ ap (scored (score n)) (empty-row blocks n k.few (omega (arith, limit)))

  pub rows-given : Given blocks nodes (score_from blocks c) pool c (scored_rows blocks nodes since (pages_of pool))
  rows-given =
      record {
        bytes = k.bytes;
        size = k.judged.size;
        spelled = k.judged.reads;
        pass = k.judged.pass;
        table = omega (arith, taken.size, length-empty blocks k.few);
        limit = limit;
        unmet = λ n l. subst Unmet (sym (row-taken n l)) (unmet_scored (score n) (decode (zeros 16)) unmet_zeros);
        scores = λ n l. ap (λ (r : Row). r.score) (row-taken n l) ∙ score-scored (score n) (decode (zeros 16));
      }
