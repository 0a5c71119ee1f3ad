-- DEMAND 3, "a single claim about a whole list: batches of any bytes, accepted or refused, with any work table and answer buffer, each on the
-- pool as the last call left it." Assumes nothing.
use Rattle.std.specs.Prelude.{◌≡◌, List, map, ℕ, ◌+◌, ◌*◌, ◌≤◌, Some}
use Rattle.laws.specs.Every.{Every}
use Rattle.laws.specs.Update.{sum}
use Rattle.account.specs.declared.Mode.TheVariants.{Log}
use Rattle.account.specs.declared.Tariff.{Tariff}
use Rattle.account.specs.Tariff.{switch_to}
use Rattle.account.specs.Schedule.{Schedule}
use Rattle.pairs.specs.Pairs.{Pair}
use Rattle.tree.specs.NodeRequest.{NodeRequest}
use Rattle.book.specs.Book.{Book}
use Rattle.book.specs.Schedule.{paid}
use Rattle.model.specs.State.{book_of}
use Rattle.model.specs.Prepare.{first_book}
use Rattle.model.specs.Pool.{blocks_of}
use Rattle.model.specs.Outcome.{Outcome, charge}
use Rattle.model.specs.Call.{Call, prepare_of}
use Rattle.model.specs.Calls.{outcomes, book_in, all_states, all_moments, fed, books_after, last_book, all_books, all_charges, all_requests}
use Rattle.demands.specs.CallBytes.{CallBytes}
use Rattle.demands.specs.OneCall.{Thin}
use Rattle.demands.specs.AllCalls.{ThinPool, all_called}
use Rattle.demands.specs.AgainstSchedules.{bound}
use Rattle.demands.specs.PreparedPool.{prepare_stands}
use Rattle.demands.specs.Standing.{stands_open}
use Rattle.demands.specs.TheBook.Stands.{Stands}

pub record DemandThree (t : Tariff) (pool : List ℕ) (b : Book) (cs : List Call) : Type 0 where
  -- "Each charge returned is the paper book's for that batch": each of the sixteen.
  pub charges : map (λ (o : Outcome). o.charges) (outcomes pool cs) ≡ all_charges (blocks_of pool) t (fed pool cs) b
  -- "Each node's mode .. is the paper book's after every node request": so are contents and scores ..
  pub requests : map book_of (all_states pool cs) ≡ all_books (blocks_of pool) t (fed pool cs) b
  -- ".. and after every call; after every call its field 14 has the paper book's score."
  pub calls : map (λ (o : Outcome). book_in o.pool) (outcomes pool cs) ≡ map Some (books_after (blocks_of pool) t (fed pool cs) b)
  -- "At most three after every page written and every node request ..
  pub thin : Every Thin (all_moments pool cs)
  -- .. and after every call."
  pub thin_calls : Every (λ (o : Outcome). ThinPool o.pool) (outcomes pool cs)

pub demand_three : {t : Tariff} {pool : List ℕ} {b : Book} {ps : List Pair} → Stands t pool b ps → (cs : List Call) → Every CallBytes cs →
    DemandThree t pool b cs
demand_three {pool = pool} {b} {ps} s cs bytes =
    let d = all_called cs pool b ps bytes (stands_open s) in
    record { charges = d.charges; requests = d.requests; calls = d.calls; thin = d.thin; thin_calls = d.thin_calls }

-- "For the comparison with schedules, on the pool of an accepted prepare": the summed charges are at most three times what any schedule pays that
-- knows the future, and one switch to log for each node made.
module _ (pool : List ℕ) (t : Tariff) (done : (prepare_of pool t).number ≡ 0) (cs : List Call) (bytes : Every CallBytes cs) (plan : Schedule) where
  abbrev left : List ℕ
  left = (prepare_of pool t).pool

  abbrev requests : List NodeRequest
  requests = all_requests (blocks_of left) t (fed left cs) first_book

  abbrev nodes : ℕ
  nodes = (last_book (blocks_of left) t (fed left cs) first_book).count

  pub prepared_bound : sum (map charge (outcomes left cs)) ≤ 3 * paid t plan requests 1 + switch_to t Log * nodes
  prepared_bound = bound left (prepare_stands pool t done) cs bytes plan
