-- Question 7 of document 01 over pages and rows: "Is the tree sound?", with "at most three pages a log node", the tariff in range and "scores
-- below the limit"; and question 8: "Is the greatest stamp at most 4,000,000,000?" Assumes nothing.
use Rattle.std.specs.Prelude.{◌≡◌, Bool, true, ◌&&◌, List, ℕ, leb, Result, OnOk}
use Rattle.laws.specs.Tests.{choose}
use Rattle.laws.specs.Loops.{all_from}
use Rattle.layout.specs.Layout.{node_limit, last_sequence}
use Rattle.refusal.specs.declared.Refusal.{Refusal}
use Rattle.refusal.specs.Number.{number_of}
use Rattle.account.specs.declared.Tariff.{Tariff}
use Rattle.account.specs.Tariff.{limit}
use Rattle.account.specs.Range.{in_range}
use Rattle.tree.specs.Sound.{sound}
use Rattle.flash_rows.specs.Worktable.{Worktable}
use Rattle.flash_allocate.specs.declared.state.State.{State}
use Rattle.mount_rows.specs.Fill.{within_three}
use Rattle.flash_read.specs.NodeTable.{table_of}
use Rattle.mount_restore.specs.Table.{restored_table}
use Rattle.mount_restore.specs.Scores.{is_below}

-- What is asked once the rows are restored: tariff, scores, tree.
unfoldable pub rows_pass : Tariff → State → List (List ℕ) → Worktable → Bool
rows_pass t s pages table =
    in_range t &&
    (all_from (is_below (limit t) table.rows) s.nodes 0 && sound (node_limit s.blocks) s.nodes (table_of pages table s))

-- The work table that a state's pool restores.
abbrev pub table_for : State → ℕ → List (List ℕ) → Worktable
table_for s since pages = restored_table s.blocks s.nodes since pages

-- Question 7; for a count above the limit no row is looked at.
unfoldable pub tree_passes : Tariff → State → ℕ → List (List ℕ) → Bool
tree_passes t s since pages =
    leb s.nodes (node_limit s.blocks) &&
    (within_three s.nodes (table_for s since pages).rows && rows_pass t s pages (table_for s since pages))

-- The number of the question that fails, 7 or 8; 0 where both pass.
unfoldable pub refusal_of : Tariff → State → ℕ → List (List ℕ) → ℕ
refusal_of t s since pages = choose (tree_passes t s since pages) (choose (leb s.last last_sequence) 0 8) 7

-- An answer to question 7; where it is yes, the work table is the restored one.
pub record Judged (t : Tariff) (s : State) (since : ℕ) (pages : List (List ℕ)) (after : Worktable) (answer : Bool) : Type 0 where
  pub is : answer ≡ tree_passes t s since pages
  pub table : answer ≡ true → after ≡ table_for s since pages

-- The same of both questions.
pub record Asked (t : Tariff) (s : State) (since : ℕ) (pages : List (List ℕ)) (after : Worktable) (answer : Result (Unit {0}) Refusal) : Type 0 where
  pub is : number_of answer ≡ refusal_of t s since pages
  pub table : OnOk answer (after ≡ table_for s since pages)
