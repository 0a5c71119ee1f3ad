-- Mount: from the pages of a pool to the state a batch begins with, or the number of the first question that fails (document 01,
-- questions 5 to 8). Assumes nothing.
use Rattle.std.specs.Prelude.{Bool, true, false, ◌&&◌, List, [], ◌∷◌, ℕ, zero, suc, leb, ltb, Option, None, Some}
use Rattle.layout.specs.Layout.{node_limit, most_log_pages, last_sequence}
use Rattle.account.specs.declared.Tariff.{Tariff}
use Rattle.account.specs.Tariff.{limit}
use Rattle.account.specs.Range.{in_range}
use Rattle.page.specs.Page.{Score}
use Rattle.tree.specs.Sound.{sound}
use Rattle.store.specs.View.{pages}
use Rattle.store.specs.Store.{Store, view}
use Rattle.store.specs.Checkpoint.{checkpoint_of, tariff_in, scores_in, count_in, score_in, complete}
use Rattle.store.specs.Reopen.{Cells, reopened, pages_pass}
use Rattle.model.specs.State.{State, book_of}

-- A refusal with its number, or the tariff and the state.
pub data Mounted : Type 0 where
  refused : ℕ → Mounted
  opened : Tariff → State → Mounted

-- The state that a store says between calls: its checkpoint has the node count and the scores.
unfoldable pub state_of : Store → State
state_of st =
    record {
      run = record { nodes = count_in (checkpoint_of st); now = st; passed = [] };
      score = score_in (scores_in (checkpoint_of st));
    }

-- "At most three pages a log node": a node page is one page, so it is asked of every node.
unfoldable pub three_pages : ℕ → Store → Bool
three_pages zero st = true
three_pages (suc n) st = leb (pages (view st) n) most_log_pages && three_pages n st

-- "Scores below the limit under Account."
unfoldable pub scores_below : ℕ → List Score → Bool
scores_below limit [] = true
scores_below limit (x ∷ xs) = ltb x.score limit && scores_below limit xs

-- Question 7: "Is the tree sound?" The contents are made by the entries of their greatest versions, so a content that some entry
-- breaks is no node, and no tree that reaches it is sound.
unfoldable pub TreeSound : ℕ → Tariff → Store → Bool
TreeSound blocks t st =
    let s = state_of st in
    sound (node_limit blocks) s.run.nodes (book_of s).table &&
    (three_pages s.run.nodes st && (in_range t && scores_below (limit t) (scores_in (checkpoint_of st))))

-- Question 8: "Is the greatest stamp at most 4,000,000,000?"
abbrev pub numbers_left : Store → Bool
numbers_left st = leb st.last last_sequence

-- A question: where its test fails, its number is the refusal.
abbrev pub ask : ℕ → Bool → Mounted → Mounted
ask number true rest = rest
ask number false rest = refused number

-- Questions 7 and 8 of a complete checkpoint, whose first page has the tariff.
abbrev pub mount_tree : ℕ → Store → Option Tariff → Mounted
mount_tree blocks st None = refused 6
mount_tree blocks st (Some t) = ask 7 (TreeSound blocks t st) (ask 8 (numbers_left st) (opened t (state_of st)))

-- Question 5, of all pages together, and question 6.
unfoldable pub mount_cells : ℕ → Cells → Mounted
mount_cells blocks c =
    let st = reopened blocks c in
    ask 5 (pages_pass blocks c) (ask 6 (complete (checkpoint_of st)) (mount_tree blocks st (tariff_in (checkpoint_of st))))
