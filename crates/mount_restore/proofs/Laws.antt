-- The ways out of questions 7 and 8, one law for each, from the answers of the tests. Assumes nothing.
use mathlib.Core.Path.{◌≡◌, refl, sym, ap, ◌∙◌}
use mathlib.Core.Bool.{Bool, true, false, true≢false}
use mathlib.Core.List.{List}
use Rattle.std.specs.Prelude.{Ok, Err}
use Rattle.refusal.specs.declared.Refusal.TheVariants.{Tree, SequenceNumbers}
use Prim.Native.Nat.{ℕ, ◌+◌, ◌-◌, ◌*◌, ◌≤◌, ◌<◌}
use native.Mathlib.Omega.{arith}
use borrow.Author.Tests.{le-leb, lt-leb}
use lib.ListN.{length, take, drop, replicate, length-replicate}
use lib.Seq.{length-take-le}
use borrow.Rule.Slice.PartMut.{put_mid}
use Rattle.laws.specs.Lay.{drop-replicate, take-replicate}
use Rattle.laws.specs.Loops.{all_from}
use Rattle.layout.specs.Layout.{fewest_blocks, node_limit, most_nodes, table_bytes, work_bytes, last_sequence}
use Rattle.account.specs.declared.Tariff.{Tariff}
use Rattle.account.specs.Tariff.{limit}
use Rattle.account.specs.Range.{in_range}
use Rattle.tree.specs.Sound.{sound}
use Rattle.flash_rows.specs.Row.{rows_of, row_bytes}
use Rattle.flash_rows.specs.Worktable.{Worktable, worktable, buffer_bytes, rows_at, buffer_of, rows_in, table_from}
use Rattle.flash_rows.specs.WorktableLaws.{rows-part, lent_length, lent_rows}
use Rattle.flash_allocate.specs.declared.state.State.{State}
use Rattle.mount_rows.specs.Fill.{filled, within_three, Filled}
use Rattle.mount_checkpoint.specs.Scores.{take_pages}
use Rattle.flash_read.specs.NodeTable.{table_of}
use Rattle.mount_tree.specs.Area.{Checkable}
use Rattle.mount_restore.specs.Table.{empty_rows, scored_rows, restored_rows, Restored}
use Rattle.mount_restore.specs.Questions.{rows_pass, table_for, tree_passes, refusal_of, Judged, Asked}
use Rattle.mount_restore.specs.Scores.{is_below}

-- The buffer empty and the rows empty: a table of zeros.
zeros-table : (blocks : ℕ) (table : List ℕ) → fewest_blocks ≤ blocks → table ≡ replicate (table_bytes blocks) 0 →
    table_from table ≡ worktable (replicate buffer_bytes 0) (empty_rows blocks)
unfolding buffer_of rows_in empty_rows
zeros-table blocks table few e =
    rw (e, take-replicate buffer_bytes (table_bytes blocks) 0 (omega arith), drop-replicate rows_at (table_bytes blocks) 0) refl

-- The part of a table that holds its rows, as it is lent.
abbrev lent : List ℕ → List ℕ
lent table = take (length table - rows_at) (drop rows_at table)

-- The rows: an empty table, the scores, the pages. Each step is lent the rows as the last one left them.
module _ (blocks nodes since : ℕ) (pages : List (List ℕ)) (table zeros : List ℕ) (few : fewest_blocks ≤ blocks)
    (size : length table ≡ table_bytes blocks) (z : zeros ≡ replicate (length table) 0) where
  long : rows_at ≤ length zeros
  long = omega (arith, ap length z, length-replicate {A = ℕ} (length table) 0)

  zero-table : table_from zeros ≡ worktable (replicate buffer_bytes 0) (empty_rows blocks)
  zero-table = zeros-table blocks zeros few (z ∙ ap (λ (n : ℕ). replicate n 0) size)

  module _ (scored : List ℕ) (kept : length scored ≡ length (lent zeros))
      (s : rows_of scored ≡ take_pages pages (32 * blocks) since nodes (rows_of (lent zeros))) where
    abbrev middle : List ℕ
    middle = put_mid rows_at (length zeros - rows_at) zeros scored

    middle_long : rows_at ≤ length middle
    middle_long = omega (arith, long, lent_length zeros long scored kept)

    middle-table : table_from middle ≡ worktable (replicate buffer_bytes 0) (scored_rows blocks nodes since pages)
    unfolding scored_rows
    middle-table =
        lent_rows zeros long scored kept ∙
        ap (worktable (buffer_of zeros))
        (s ∙ ap (take_pages pages (32 * blocks) since nodes) (rows-part zeros long ∙ ap (λ (t : Worktable). t.rows) zero-table)) ∙
        ap (λ (b : List ℕ). worktable b (take_pages pages (32 * blocks) since nodes (empty_rows blocks))) (ap (λ (t : Worktable). t.buffer) zero-table)

    pub rows_restored : (after : List ℕ) (answer : Bool) → length after ≡ length (lent middle) →
        Filled blocks nodes pages (rows_of (lent middle)) (rows_of after) answer →
        Restored blocks nodes since pages (table_from (put_mid rows_at (length middle - rows_at) middle after)) answer
    unfolding restored_rows
    rows_restored after answer same f =
        record {
          table =
              back ∙
              ap (worktable (buffer_of middle))
              (f.rows ∙ ap (filled blocks nodes pages) (rows-part middle middle_long ∙ ap (λ (t : Worktable). t.rows) middle-table)) ∙
              ap (λ (b : List ℕ). worktable b (filled blocks nodes pages (scored_rows blocks nodes since pages)))
              (ap (λ (t : Worktable). t.buffer) middle-table);
          three = f.three ∙ ap (λ (t : Worktable). within_three nodes t.rows) (sym back);
        }
      where
        back : table_from (put_mid rows_at (length middle - rows_at) middle after) ≡ worktable (buffer_of middle) (rows_of after)
        back = lent_rows middle middle_long after same

-- The check of the tree has room behind the rows of the nodes.
pub checkable : (s : State) (limit : ℕ) (table : List ℕ) → s.entries ≡ 0 → s.nodes ≤ limit → limit ≤ most_nodes →
    rows_at + row_bytes * limit + work_bytes limit ≤ length table → Checkable s (rows_at + row_bytes * limit) table
checkable s limit table empty few most room =
    record {
      readable =
          record {
            entries = omega arith;
            nodes = omega arith;
            rows = omega (arith, length-take-le (rows_at + row_bytes * limit) table (omega arith));
          };
      room = omega arith;
    }

-- Restored rows.
module _ (t : Tariff) (s : State) (pages : List (List ℕ)) (table : Worktable) where
  pub out_of_range : in_range t ≡ false → false ≡ rows_pass t s pages table
  unfolding rows_pass
  out_of_range e = rw e refl

  module _ (ranged : in_range t ≡ true) (most : ℕ) (is : most ≡ limit t) where
    pub score_too_great : all_from (is_below most table.rows) s.nodes 0 ≡ false → false ≡ rows_pass t s pages table
    unfolding rows_pass
    score_too_great e = rw (ranged, ap (λ (m : ℕ). all_from (is_below m table.rows) s.nodes 0) (sym is) ∙ e) refl

    pub tree_decides : all_from (is_below most table.rows) s.nodes 0 ≡ true →
        sound (node_limit s.blocks) s.nodes (table_of pages table s) ≡ rows_pass t s pages table
    unfolding rows_pass
    tree_decides e = rw (ranged, ap (λ (m : ℕ). all_from (is_below m table.rows) s.nodes 0) (sym is) ∙ e) refl

-- Question 7.
module _ (t : Tariff) (s : State) (since : ℕ) (pages : List (List ℕ)) (after : Worktable) where
  refuses : false ≡ tree_passes t s since pages → Judged t s since pages after false
  refuses e = record { is = e; table = λ no. absurd (true≢false (sym no)) }

  pub too_many : node_limit s.blocks < s.nodes → Judged t s since pages after false
  unfolding tree_passes
  too_many l = refuses (rw (lt-leb s.nodes (node_limit s.blocks) l) refl)

  module _ (few : s.nodes ≤ node_limit s.blocks) (three : Bool) (r : Restored s.blocks s.nodes since pages after three) where
    three_is : three ≡ within_three s.nodes (table_for s since pages).rows
    three_is = r.three ∙ ap (λ (t : Worktable). within_three s.nodes t.rows) r.table

    pub too_scattered : three ≡ false → Judged t s since pages after false
    unfolding tree_passes
    too_scattered e = refuses (rw (le-leb s.nodes (node_limit s.blocks) few, sym three_is ∙ e) refl)

    pub rows_decide : three ≡ true → (answer : Bool) (last : Worktable) → answer ≡ rows_pass t s pages after → last ≡ after →
        Judged t s since pages last answer
    unfolding tree_passes
    rows_decide e answer last is same =
        record {
          is = is ∙ ap (rows_pass t s pages) r.table ∙ rw (le-leb s.nodes (node_limit s.blocks) few, sym three_is ∙ e) refl;
          table = λ yes. same ∙ r.table;
        }

-- Questions 7 and 8.
module _ (t : Tariff) (s : State) (since : ℕ) (pages : List (List ℕ)) (after : Worktable) (answer : Bool) (j : Judged t s since pages after answer) where
  pub refused_seven : answer ≡ false → Asked t s since pages after (Err Tree)
  unfolding refusal_of
  refused_seven e = record { is = rw (sym j.is ∙ e) refl; table = tt }

  module _ (yes : answer ≡ true) where
    pub refused_eight : last_sequence < s.last → Asked t s since pages after (Err SequenceNumbers)
    unfolding refusal_of
    refused_eight l = record { is = rw (sym j.is ∙ yes, lt-leb s.last last_sequence l) refl; table = tt }

    pub not_refused : s.last ≤ last_sequence → Asked t s since pages after (Ok tt)
    unfolding refusal_of
    not_refused l = record { is = rw (sym j.is ∙ yes, le-leb s.last last_sequence l) refl; table = j.table yes }
