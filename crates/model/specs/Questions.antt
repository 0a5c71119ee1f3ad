-- "Questions before the work", in the documents' order, each with its number and its answer. A call is defined by its list of them (Call). Assumes
-- nothing.
use Rattle.std.specs.Prelude.{Bool, true, false, ◌&&◌, List, [], ◌∷◌, ◌++◌, ℕ, leb, length, Option, None, Some}
use Rattle.laws.specs.Tests.{choose}
use Rattle.layout.specs.Layout.{table_bytes}
use Rattle.account.specs.declared.Tariff.{Tariff}
use Rattle.account.specs.Range.{in_range}
use Rattle.command.specs.declared.Command.{Command}
use Rattle.command.specs.Batch.{commands_of, room_for_all}
use Rattle.desk_queues.specs.Queues.{fills, queues_of}
use Rattle.desk_queues.specs.Joined.{joined_by, joined_read}
use Rattle.store.specs.Checkpoint.{CheckpointPage, checkpoint_of, tariff_in, complete}
use Rattle.store.specs.Reopen.{Cells, reopened, pages_pass}
use Rattle.model.specs.Mount.{TreeSound, numbers_left}
use Rattle.model.specs.Bytes.{cells_of}
use Rattle.model.specs.Pool.{blocks_of, pool_length}

-- A number, and whether the answer is yes.
abbrev pub Question : Type 0
Question = ℕ × Bool

-- "In this order; a 'no' ends it with the number": the number of the first no, and 0 where there is none.
abbrev pub first_no : List Question → ℕ
first_no [] = 0
first_no (q ∷ qs) = choose q.1 (first_no qs) q.0

-- A question of what may not be there: then the answer is no.
abbrev pub asked : {A : Type 0} → (A → Bool) → Option A → Bool
asked f None = false
asked f (Some x) = f x

-- Questions 1 and 2 of every call: "is the pool a length named above?", "is the work table long enough?"
abbrev pub of_sizes : List ℕ → List ℕ → List Question
of_sizes pool table = (1, pool_length pool) ∷ (2, leb (table_bytes (blocks_of pool)) (length table)) ∷ []

-- 3 and 4, of what its bytes are read as: "is the batch within its length and made wholly of valid commands?", "has the answer buffer" room?
abbrev pub of_commands : Option (List Command) → List ℕ → List Question
of_commands commands buffer =
    (3, asked (λ cs. true) commands) ∷ (4, asked (λ cs. leb (room_for_all cs) (length buffer)) commands) ∷ []

-- What the caller lends to a batch.
unfoldable pub of_buffers : List ℕ → List ℕ → List ℕ → List ℕ → List Question
of_buffers pool table batch buffer = of_sizes pool table ++ of_commands (commands_of batch) buffer

-- What the caller lends to the desk (document 02, P5): 11 is "asked between 2 and 3"; then 3 and 4, of the joined bytes.
unfoldable pub of_desk : List ℕ → List ℕ → List ℕ → List ℕ → List ℕ → List Question
of_desk pool table lengths queues buffer =
    of_sizes pool table ++ ((11, fills lengths queues) ∷ of_commands (joined_read (joined_by (queues_of lengths queues))) buffer)

-- "A complete closing set": it has the tariff too.
abbrev pub closes : List CheckpointPage → Bool
closes xs = complete xs && asked (λ t. true) (tariff_in xs)

-- What is in the pool, 5 to 8, of so many blocks and its pages, where each of these checks by itself: "do all pages check?", "a complete
-- closing set?", "is the tree sound?", "is the greatest stamp at most 4,000,000,000?"
abbrev pub of_pages : ℕ → Option Cells → List Question
of_pages blocks pages =
    (5, asked (pages_pass blocks) pages) ∷
    (6, asked (λ c. closes (checkpoint_of (reopened blocks c))) pages) ∷
    (7, asked (λ c. asked (λ t. TreeSound blocks t (reopened blocks c)) (tariff_in (checkpoint_of (reopened blocks c)))) pages) ∷
    (8, asked (λ c. numbers_left (reopened blocks c)) pages) ∷
    []

unfoldable pub of_pool : List ℕ → List Question
of_pool pool = of_pages (blocks_of pool) (cells_of pool)

-- "Prepare asks question 1, then: is each tariff number in range? (10)".
unfoldable pub of_prepare : List ℕ → Tariff → List Question
of_prepare pool t = (1, pool_length pool) ∷ (10, in_range t) ∷ []
