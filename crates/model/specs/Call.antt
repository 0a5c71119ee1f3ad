-- The calls: what each is lent, what it asks, in its order, and what it runs; so, from the entry bytes of every buffer, everything that it leaves.
-- The contracts of the entry points cite `batch_of`, `desk_of` and `prepare_of`. A call more is a case of `Call` and of the five functions below it.
-- Assumes nothing.
use Rattle.std.specs.Prelude.{List, [], ◌∷◌, ◌++◌, ℕ, eqb, Option, None, Some}
use Rattle.laws.specs.Tests.{choose}
use Rattle.account.specs.declared.Tariff.{Tariff}
use Rattle.command.specs.Batch.{commands_of}
use Rattle.desk_queues.specs.Queues.{queues_of}
use Rattle.desk_queues.specs.Joined.{joined_by}
use Rattle.model.specs.Prepare.{prepared}
use Rattle.model.specs.Bytes.{bytes_of}
use Rattle.model.specs.Pool.{blocks_of, mount_of}
use Rattle.model.specs.Questions.{Question, first_no, of_buffers, of_desk, of_pool, of_prepare}
use Rattle.model.specs.Outcome.{Outcome, Work, work_by, ended}

-- What a caller lends beside the pool: "batches of any bytes, .. with any work table and answer buffer"; to the desk, lengths and queues.
pub record Lent : Type 0 where
  pub table : List ℕ
  pub batch : List ℕ
  pub buffer : List ℕ

pub record DeskLent : Type 0 where
  pub table : List ℕ
  pub lengths : List ℕ
  pub queues : List ℕ
  pub buffer : List ℕ

pub data Call : Type 0 where
  batch : Lent → Call
  desk : DeskLent → Call

-- Its work table and its answer buffer.
abbrev pub table_of : Call → List ℕ
table_of (batch l) = l.table
table_of (desk d) = d.table

abbrev pub buffer_of : Call → List ℕ
buffer_of (batch l) = l.buffer
buffer_of (desk d) = d.buffer

-- The bytes that it runs. "The joined bytes run as one batch": where lengths or queues are wrong, a byte that is no command.
abbrev pub joined_or : Option (List ℕ) → List ℕ
joined_or None = 0 ∷ []
joined_or (Some bytes) = bytes

abbrev pub bytes_run : Call → List ℕ
bytes_run (batch l) = l.batch
bytes_run (desk d) = joined_or (joined_by (queues_of d.lengths d.queues))

-- What it asks: of what is lent, then of what is in the pool, then, last, what a kind of call asks behind that; no kind does so far.
abbrev pub of_lent : List ℕ → Call → List Question
of_lent pool (batch l) = of_buffers pool l.table l.batch l.buffer
of_lent pool (desk d) = of_desk pool d.table d.lengths d.queues d.buffer

abbrev pub of_last : List ℕ → Call → List Question
of_last pool (batch l) = []
of_last pool (desk d) = []

abbrev pub questions : List ℕ → Call → List Question
questions pool c = of_lent pool c ++ (of_pool pool ++ of_last pool c)

-- THE CALL: it ends by its questions, in their order, and by its work.
abbrev pub work_in : List ℕ → Call → Option Work
work_in pool c = work_by (commands_of (bytes_run c)) (mount_of pool)

unfoldable pub outcome : List ℕ → Call → Outcome
outcome pool c = ended (first_no (questions pool c)) (work_in pool c) pool (table_of c) (buffer_of c)

-- THE BATCH, and THE DESK, by their buffers.
abbrev pub batch_of : List ℕ → List ℕ → List ℕ → List ℕ → Outcome
batch_of pool table bytes buffer = outcome pool (batch (record { table = table; batch = bytes; buffer = buffer }))

abbrev pub desk_of : List ℕ → List ℕ → List ℕ → List ℕ → List ℕ → Outcome
desk_of pool table lengths queues buffer =
    outcome pool (desk (record { table = table; lengths = lengths; queues = queues; buffer = buffer }))

-- What a prepare leaves; "prepare has no table".
pub record Prepared : Type 0 where
  pub number : ℕ
  pub pool : List ℕ

-- PREPARE, likewise by its questions.
abbrev pub prepared_by : ℕ → List ℕ → Tariff → Prepared
prepared_by number pool t =
    choose (eqb number 0) (record { number = 0; pool = bytes_of (prepared (blocks_of pool) t) }) (record { number = number; pool = pool })

unfoldable pub prepare_of : List ℕ → Tariff → Prepared
prepare_of pool t = prepared_by (first_no (of_prepare pool t)) pool t
