-- What a run is whose batch has ended. Assumes nothing.
use Rattle.std.specs.Prelude.{◌≡◌, true, ℕ, ◌+◌, ◌≤◌, ◌<◌, Some}
use Rattle.account.specs.declared.Mode.{Mode}
use Rattle.account.specs.declared.Tariff.{Tariff}
use Rattle.node.specs.Node.{Node}
use Rattle.store.specs.Run.{Run}
use Rattle.store.specs.Checkpoint.{scores_from, checkpoint_pages, checkpoint_of, tariff_in, scores_in, count_in, score_in, complete}
use Rattle.store.specs.Reopen.{reopened, pool_of, pages_pass}
use Rattle.store_laws.specs.Keeps.{Keeps}
use Rattle.store_laws.specs.Numbers.{last}

-- WHAT A CLOSED RUN IS: it keeps what it kept, its pool passes the tests and is found as this very store, and its checkpoint gives back
-- tariff, scores and count
pub record Closed (B N : ℕ) (table : ℕ → Node) (modes : ℕ → Mode) (t : Tariff) (score : ℕ → ℕ) (run run' : Run) : Type 0 where
  pub keeps : Keeps B N table modes run'
  pub passes : pages_pass B (pool_of run'.now) ≡ true
  pub again : reopened B (pool_of run'.now) ≡ run'.now
  pub checkpoint : checkpoint_of run'.now ≡ checkpoint_pages t (scores_from 0 N score)
  pub complete : complete (checkpoint_of run'.now) ≡ true
  pub tariff : tariff_in (checkpoint_of run'.now) ≡ Some t
  pub count : count_in (checkpoint_of run'.now) ≡ N
  pub scores : (n : ℕ) → n < N → score_in (scores_in (checkpoint_of run'.now)) n ≡ score n
  pub number : last run' ≤ 13 + last run
