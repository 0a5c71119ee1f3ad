-- DEMAND 2. "Commands answer as a plain ordered map does, batch after batch; the pool left behind spells that map by the written layout; every pool
-- that obeys the layout opens, any other is refused." A desk stands in the list with the batch of its joined bytes. Assumes nothing.
use Rattle.std.specs.Prelude.{◌≡◌, List, map, ℕ, ◌≤◌}
use Rattle.laws.specs.BigEndian.{Bytes}
use Rattle.laws.specs.Every.{Every}
use Rattle.layout.specs.Layout.{last_sequence}
use Rattle.account.specs.declared.Tariff.{Tariff}
use Rattle.pairs.specs.Pairs.{Pair}
use Rattle.tree.specs.Spells.{map_of}
use Rattle.store.specs.Reopen.{newest}
use Rattle.book.specs.Book.{Book}
use Rattle.model.specs.State.{book_of}
use Rattle.model.specs.Pool.{blocks_of}
use Rattle.model.specs.Questions.{first_no}
use Rattle.model.specs.Call.{Call, buffer_of, of_lent, of_last, outcome}
use Rattle.model.specs.Calls.{outcomes, answered, laid, fed, map_replies, maps_after}
use Rattle.demands.specs.Ends.{opened-done, accepted_ends}
use Rattle.demands.specs.CallBytes.{CallBytes}
use Rattle.demands.specs.Obeys.{Obeys, obeys_opens, opens_obeys}
use Rattle.demands.specs.AllCalls.{Spelled, all_called}
use Rattle.demands.specs.Standing.{stands_open}
use Rattle.demands.specs.TheBook.Stands.{Stands}

-- Of any list of calls, batches and desks in any order, each on the pool as the last left it.
pub record DemandTwo (t : Tariff) (pool : List ℕ) (b : Book) (ps : List Pair) (cs : List Call) : Type 0 where
  -- the answers of every call, byte for byte, and their length; bytes beyond are as they were
  pub answers : map answered (outcomes pool cs) ≡ laid (map buffer_of cs) (map_replies (blocks_of pool) t (fed pool cs) b ps)
  -- the pool after every call, past 4,000,000,000 too
  pub left : Spelled t (outcomes pool cs) (maps_after (blocks_of pool) t (fed pool cs) b ps)

pub demand_two : {t : Tariff} {pool : List ℕ} {b : Book} {ps : List Pair} → Stands t pool b ps → (cs : List Call) → Every CallBytes cs →
    DemandTwo t pool b ps cs
demand_two {t} {pool} {b} {ps} s cs bytes =
    let d = all_called cs pool b ps bytes (stands_open s) in record { answers = d.answers; left = d.left }

-- "Every pool that obeys the layout opens, any other is refused."
pub record Lawful (pool : List ℕ) : Type 0 where
  pub tariff : Tariff
  pub pairs : List Pair
  pub obeys : Obeys pool tariff pairs
  -- "Is the greatest stamp at most 4,000,000,000?"
  pub left : newest obeys.blocks ≤ last_sequence

-- Whoever wrote the pool: a call all of whose other questions are answered with yes is done exactly where the pool is lawful.
module _ (pool : List ℕ) (bytes : Bytes pool) (c : Call) where
  pub lawful-opens : first_no (of_lent pool c) ≡ 0 → first_no (of_last pool c) ≡ 0 → Lawful pool → (outcome pool c).number ≡ 0
  lawful-opens lent last w = opened-done pool c lent last (obeys_opens w.obeys w.left)

  pub done-lawful : (outcome pool c).number ≡ 0 → Lawful pool
  done-lawful e =
      let a = accepted_ends pool c e in
      let x = opens_obeys pool bytes a.tariff a.start a.passes.size a.opens in
      record { tariff = a.tariff; pairs = map_of (book_of a.start).count (book_of a.start).table; obeys = x.obeys; left = x.left }
