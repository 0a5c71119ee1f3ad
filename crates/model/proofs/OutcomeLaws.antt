-- How a call ends: a number and its table; by what is lent, and then by what is in the pool. Assumes nothing.
use Rattle.std.specs.Prelude.{◌≡◌, refl, ℕ, ◌≤◌, ◌<◌, Option, None, Some}
use Rattle.std.proofs.Math.Path.{ap}
use Rattle.std.proofs.Common.{◌∙◌, arith, le-leb, ne_eqb}
use mathlib.Core.List.{List, [], ◌++◌, append-nil}
use Rattle.std.proofs.lemmas.Bool.{lt-leb}
use Rattle.model.specs.Mount.{Mounted}
use Rattle.model.specs.Pool.{blocks_of}
use Rattle.model.specs.Questions.{Question, first_no, of_pool}
use Rattle.model.specs.Outcome.{Outcome, cleared, table_after, refuse, Work, ended}
use Rattle.model.specs.Call.{Call, table_of, buffer_of, of_lent, of_last, work_in, outcome}
use Rattle.model.specs.QuestionLaws.{first-front, first-behind}
use Rattle.model.specs.Passes.{lent-numbered}
use Rattle.model.specs.MountEnds.{MountEnds, unopened, mounted}
use Rattle.model.proofs.MountEnds.{mount_ends}

-- A number ends it with a refusal.
pub ended_no : (n : ℕ) → 1 ≤ n → (w : Option Work) (pool table buffer : List ℕ) → ended n w pool table buffer ≡ refuse n pool table buffer
ended_no n l w pool table buffer = rw (ne_eqb n 0 (λ z. omega (arith, z))) refl

-- The table is as found after 1 and 2, and cleared after every other number.
pub table-found : (n blocks : ℕ) (table : List ℕ) → 1 ≤ n → n < 3 → table_after n blocks table ≡ table
table-found n blocks table l m = rw (le-leb 1 n l, le-leb n 2 (omega arith)) refl

pub table-cleared : (n blocks : ℕ) (table : List ℕ) → 3 ≤ n → table_after n blocks table ≡ cleared blocks table
table-cleared n blocks table l = rw (le-leb 1 n (omega arith), lt-leb n 2 (omega arith)) refl

-- Where what is lent is right, it is cleared.
pub pool-table : (pool : List ℕ) (w : Option Work) (table buffer : List ℕ) →
    (ended (first_no (of_pool pool)) w pool table buffer).table ≡ cleared (blocks_of pool) table
pool-table pool w table buffer = go (mount_ends pool) w
  where
    go : {n : ℕ} {m : Mounted} → MountEnds n m → (w : Option Work) → (ended n w pool table buffer).table ≡ cleared (blocks_of pool) table
    go (unopened n l h) w = rw (ended_no n (omega arith) w pool table buffer) (table-cleared n (blocks_of pool) table (omega arith))
    go (mounted t s) None = refl
    go (mounted t s) (Some w) = refl

-- THE CALL: by what is lent, and then by what is in the pool.
module _ (pool : List ℕ) (c : Call) where
  abbrev ended_by : ℕ → Outcome
  ended_by n = ended n (work_in pool c) pool (table_of c) (buffer_of c)

  pub lent-refuses : 1 ≤ first_no (of_lent pool c) → outcome pool c ≡ refuse (first_no (of_lent pool c)) pool (table_of c) (buffer_of c)
  unfolding outcome
  lent-refuses l =
      ap ended_by (first-front (of_lent pool c) (of_pool pool ++ of_last pool c) l) ∙
      ended_no (first_no (of_lent pool c)) l (work_in pool c) pool (table_of c) (buffer_of c)

  -- Of a call that asks nothing behind that.
  pub lent-right : first_no (of_lent pool c) ≡ 0 → of_last pool c ≡ [] → outcome pool c ≡ ended_by (first_no (of_pool pool))
  unfolding outcome
  lent-right e nothing =
      ap ended_by
      (first-behind (of_lent pool c) (of_pool pool ++ of_last pool c) (lent-numbered pool c) e ∙
      ap (λ (last : List Question). first_no (of_pool pool ++ last)) nothing ∙
      ap first_no (append-nil (of_pool pool)))
