-- What the tables of worked limits and orders ask of the definitions, a kind of case each, and the result that the definitions give. Assumes nothing.
use Rattle.std.specs.Prelude.{Bool, List, [], ◌∷◌, map, ℕ, length, take, replicate, Option, None, Some}
use Rattle.account.specs.declared.Mode.{Mode}
use Rattle.account.specs.declared.Request.{Request}
use Rattle.account.specs.declared.Served.{Served}
use Rattle.account.specs.declared.Tariff.{Tariff}
use Rattle.account.specs.Serve.{serve_of}
use Rattle.page.specs.Page.{Score, Page, page, log, whole, checkpoint}
use Rattle.store.specs.Checkpoint.{CheckpointPage, checkpoint_pages, checkpoint_of, scores_from, scores_in}
use Rattle.store.specs.Reopen.{Cells, cells, reopened}
use Rattle.model.specs.Mount.{Mounted, refused, opened, numbers_left, mount_cells}
use Rattle.model.specs.Bytes.{cells_of}
use Rattle.model.specs.Pool.{blocks_of, mount_of}
use Rattle.model.specs.Outcome.{Outcome, charge}
use Rattle.model.specs.Call.{prepare_of, batch_of}
use Rattle.cases.specs.Pools.{tariff, pool_bytes}

-- What a call is lent: the pool, a work table of so many bytes, the batch, an answer buffer of so many bytes. Each byte of the two is 7.
pub record Lent : Type 0 where
  pub pool : List ℕ
  pub table : ℕ
  pub batch : List ℕ
  pub buffer : ℕ

abbrev pub lent : List ℕ → ℕ → List ℕ → ℕ → Lent
lent pool table batch buffer = record { pool = pool; table = table; batch = batch; buffer = buffer }

pub data Case : Type 0 where
  -- prepare of a pool with a tariff: its number
  prepares : List ℕ → Tariff → Case
  -- batch: its number; its number, answers and charge; the work table and the answer buffer that it leaves
  calls : Lent → Case
  answers : Lent → Case
  tables : Lent → Case
  buffers : Lent → Case
  -- questions 5 to 8 of the pool with these pages in its blocks, from its bytes, or from its pages: 0 or the number of the refusal
  mounts : List (List Page) → Case
  mounts_pages : List (List Page) → Case
  -- question 8 alone, of the pool with these pages in its blocks
  numbers : List (List Page) → Case
  -- one request of a node in a mode with a score
  serves : Mode → ℕ → Request → Case
  -- how many scores stand on each page of a checkpoint of so many nodes
  scored : ℕ → Case
  -- how many entries stand on each log page of the pool that a batch leaves; the fields 14 of its newest checkpoint
  logged : Lent → Case
  scores_after : Lent → Case

pub data Result : Type 0 where
  number : ℕ → Result
  answered : ℕ → List ℕ → ℕ → Result
  bytes : List ℕ → Result
  test : Bool → Result
  served : Served → Result
  sizes : List ℕ → Result
  fields : List Score → Result

abbrev outcome_of : Lent → Outcome
outcome_of l = batch_of l.pool (replicate l.table 7) l.batch (replicate l.buffer 7)

abbrev answers_of : Outcome → Result
answers_of o = answered o.number (take o.length o.answers) (charge o)

abbrev number_of : Mounted → Result
number_of (refused n) = number n
number_of (opened t s) = number 0

abbrev scores_on : List CheckpointPage → List ℕ
scores_on [] = []
scores_on (p ∷ ps) = length p.scores ∷ scores_on ps

abbrev entries_on : Cells → List ℕ
entries_on [] = []
entries_on (None ∷ c) = entries_on c
entries_on (Some (page s (log es)) ∷ c) = length es ∷ entries_on c
entries_on (Some (page s (whole n x)) ∷ c) = entries_on c
entries_on (Some (page s (checkpoint t xs n)) ∷ c) = entries_on c

abbrev entries_in : Option Cells → List ℕ
entries_in None = []
entries_in (Some c) = entries_on c

abbrev scores_left : ℕ → Option Cells → List Score
scores_left blocks None = []
scores_left blocks (Some c) = scores_in (checkpoint_of (reopened blocks c))

-- The result that the definitions give.
abbrev pub result_of : Case → Result
result_of (prepares pool t) = number (prepare_of pool t).number
result_of (calls l) = number (outcome_of l).number
result_of (answers l) = answers_of (outcome_of l)
result_of (tables l) = bytes (outcome_of l).table
result_of (buffers l) = bytes (outcome_of l).answers
result_of (mounts blocks) = number_of (mount_of (pool_bytes blocks))
result_of (mounts_pages blocks) = number_of (mount_cells (length blocks) (cells 32 blocks))
result_of (numbers blocks) = test (numbers_left (reopened (length blocks) (cells 32 blocks)))
result_of (serves mode score q) = served (serve_of tariff (record { mode = mode; score = score }) q)
result_of (scored nodes) = sizes (scores_on (checkpoint_pages tariff (scores_from 0 nodes (λ n. 0))))
result_of (logged l) = sizes (entries_in (cells_of (outcome_of l).pool))
result_of (scores_after l) = fields (scores_left (blocks_of l.pool) (cells_of (outcome_of l).pool))

-- A row of a table; the results that the rows say, and those that the definitions give.
pub record Row : Type 0 where
  pub case : Case
  pub result : Result

abbrev pub row : Case → Result → Row
row c r = record { case = c; result = r }

abbrev pub said : List Row → List Result
said rows = map (λ r. r.result) rows

abbrev pub given : List Row → List Result
given rows = map (λ r. result_of r.case) rows
