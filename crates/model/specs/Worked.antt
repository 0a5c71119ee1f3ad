-- The cases that document 01 marks M, together, as one table with one theorem: the requests of one node, and batches of bytes on the pool that
-- prepare leaves. All by computation. Assumes nothing.
use Rattle.std.specs.Prelude.{◌≡◌, refl, List, [], ◌∷◌, ◌++◌, map, ℕ, zero, suc, ◌+◌, length, take, replicate, Option, None, Some}
use Rattle.account.specs.declared.Mode.{Mode}
use Rattle.account.specs.declared.Mode.TheVariants.{Log, Disk}
use Rattle.account.specs.declared.Request.{Request}
use Rattle.account.specs.declared.Request.TheVariants.{Read, Edit}
use Rattle.account.specs.declared.Tariff.{Tariff}
use Rattle.account.specs.declared.Account.{Account}
use Rattle.account.specs.declared.Served.{Served}
use Rattle.account.specs.Tariff.{tariff_of, limit}
use Rattle.account.specs.Serve.{serve_of, charges_of}
use Rattle.node.specs.Node.{pairs_of}
use Rattle.book.specs.Book.{Book}
use Rattle.model.specs.Outcome.{Outcome, charge}
use Rattle.model.specs.Call.{prepare_of, batch_of}
use Rattle.model.specs.Calls.{book_in}
use Rattle.model.specs.Computes.{computes}

-- "Tariff 3 1 2, 1 4 4, 3 2; T = 5."
abbrev pub tariff : Tariff
tariff = tariff_of 3 1 2 1 4 4 3 2

-- What a served request leaves: its charge, and the mode and the score after it. And that of each request of a list.
abbrev pub line : ℕ → Mode → ℕ → Served
line charge mode score = record { account = record { mode = mode; score = score }; charge = charge }

abbrev pub lines_of : Account → List Request → List Served
lines_of a [] = []
lines_of a (q ∷ qs) = serve_of tariff a q ∷ lines_of (serve_of tariff a q).account qs

-- A batch on the pool of 65,536 bytes that a prepare leaves, whatever it held before, with a work table and an answer buffer long enough.
abbrev pub prepared_pool : Tariff → List ℕ
prepared_pool t = (prepare_of (replicate 65536 0) t).pool

abbrev pub batch_on : Tariff → List ℕ → Outcome
batch_on t batch = batch_of (prepared_pool t) (replicate 4096 7) batch (replicate 512 7)

-- How many keys each node of a pool has, by id.
abbrev sizes_below : ℕ → Book → List ℕ
sizes_below zero b = []
sizes_below (suc n) b = sizes_below n b ++ (length (pairs_of (b.table n)) ∷ [])

abbrev sizes_by : Option Book → List ℕ
sizes_by None = []
sizes_by (Some b) = sizes_below b.count b

abbrev pub sizes_of : List ℕ → List ℕ
sizes_of pool = sizes_by (book_in pool)

-- The first n keys put, each with 100 more as its value; a scan from 9 to 3.
abbrev pub puts : ℕ → List ℕ
puts zero = []
puts (suc n) = puts n ++ (0x02 ∷ 0 ∷ 8 ∷ 0 ∷ 0 ∷ 0 ∷ n ∷ 0 ∷ 0 ∷ 0 ∷ (100 + n) ∷ [])

abbrev pub scan9to3 : List ℕ
scan9to3 = 0x04 ∷ 0 ∷ 10 ∷ 0 ∷ 0 ∷ 0 ∷ 9 ∷ 0 ∷ 0 ∷ 0 ∷ 3 ∷ 0 ∷ 5 ∷ []

-- So many answers "80, length 0".
abbrev pub newly : ℕ → List ℕ
newly zero = []
newly (suc n) = 0x80 ∷ 0 ∷ 0 ∷ newly n

-- A case: requests of a node that is in a mode with a score; or the bytes of a batch.
pub data Case : Type 0 where
  requests : Mode → ℕ → List Request → Case
  batch : List ℕ → Case

-- Its result: T, a line for each request, the charge of all; or number, answers and charge of the call, and the sizes of the nodes after it.
pub data Result : Type 0 where
  served : ℕ → List Served → ℕ → Result
  left : ℕ → List ℕ → ℕ → List ℕ → Result

abbrev left_by : Outcome → Result
left_by o = left o.number (take o.length o.answers) (charge o) (sizes_of o.pool)

-- The result that the definitions give.
abbrev pub result_of : Case → Result
result_of (requests mode score qs) =
    let a : Account = record { mode = mode; score = score } in
    served (limit tariff) (lines_of a qs) (charges_of tariff qs a)
result_of (batch bytes) = left_by (batch_on tariff bytes)

pub record Row : Type 0 where
  pub case : Case
  pub result : Result

abbrev row : Case → Result → Row
row c r = record { case = c; result = r }

-- THE TABLE.
abbrev pub cases : List Row
cases =
    -- "three reads of a log node: charges 3, 3, 4; now disk, score 0"
    row (requests Log 0 (Read ∷ Read ∷ Read ∷ [])) (served 5 (line 3 Log 2 ∷ line 3 Log 4 ∷ line 4 Disk 0 ∷ []) 10) ∷
    -- "read, read, edit, read: scores 2, 4, 1, 3; charge 10"
    row (requests Log 0 (Read ∷ Read ∷ Edit ∷ Read ∷ [])) (served 5 (line 3 Log 2 ∷ line 3 Log 4 ∷ line 1 Log 1 ∷ line 3 Log 3 ∷ []) 10) ∷
    -- "disk node, two edits: 4, then 3; now log"
    row (requests Disk 0 (Edit ∷ Edit ∷ [])) (served 5 (line 4 Disk 3 ∷ line 3 Log 0 ∷ []) 7) ∷
    -- "edit at score 0, log: score 0"
    row (requests Log 0 (Edit ∷ [])) (served 5 (line 1 Log 0 ∷ []) 1) ∷
    -- "25 keys: 12 and 13", below a root of one key: 24 puts at 3 + 1, the last at 3 + 2
    row (batch (puts 25)) (left 0 (newly 25) 101 (1 ∷ 12 ∷ 13 ∷ [])) ∷
    -- "24 keys: no split"
    row (batch (puts 24)) (left 0 (newly 24) 96 (24 ∷ [])) ∷
    -- "sweep 9 to 3: 840000"
    row (batch scan9to3) (left 0 (0x84 ∷ 0 ∷ 0 ∷ []) 0 (0 ∷ [])) ∷
    -- "empty batch: charge 0"
    row (batch []) (left 0 [] 0 (0 ∷ [])) ∷
    []

pub worked : map (λ r. row r.case (result_of r.case)) cases ≡ cases
unfolding computes
worked = refl
