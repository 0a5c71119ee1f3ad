-- A list of calls of any kind, "each on the pool as the last call left it", and the reference model beside it (document 01, "What demand 3
-- compares"; document 02, P2). Assumes nothing.
use Rattle.std.specs.Prelude.{Bool, true, false, List, [], ◌∷◌, ◌++◌, ℕ, length, Option, None, Some}
use Rattle.laws.specs.Tests.{choose}
use Rattle.laws.specs.Lay.{lay}
use Rattle.layout.specs.Layout.{node_limit}
use Rattle.account.specs.declared.Tariff.{Tariff}
use Rattle.pairs.specs.Pairs.{Pair}
use Rattle.command.specs.declared.Command.{Command}
use Rattle.command.specs.Batch.{commands_of}
use Rattle.tree.specs.NodeRequest.{NodeRequest}
use Rattle.store.specs.Run.{Moment}
use Rattle.store.specs.Reopen.{Cells, reopened}
use Rattle.book.specs.Book.{Book}
use Rattle.book.specs.Command.{Reply, replies_bytes}
use Rattle.book.specs.Batch.{run_book, books_passed, charges_book, requests_book}
use Rattle.book.specs.Session.{at_first}
use Rattle.book.specs.OrderedMap.{map_answers, map_run}
use Rattle.model.specs.State.{State, book_of}
use Rattle.model.specs.Batch.{run, states_passed, closed}
use Rattle.model.specs.Mount.{state_of}
use Rattle.model.specs.Bytes.{cells_of}
use Rattle.model.specs.Pool.{blocks_of}
use Rattle.model.specs.Outcome.{Outcome, accepted, Work}
use Rattle.model.specs.Call.{Call, bytes_run, work_in, outcome}

-- What each call of a list leaves.
abbrev pub outcomes : List ℕ → List Call → List Outcome
outcomes pool [] = []
outcomes pool (c ∷ cs) = outcome pool c ∷ outcomes (outcome pool c).pool cs

-- What a call gives back in answers: the bytes of the answer buffer, and the length returned.
abbrev pub answered : Outcome → List ℕ × ℕ
answered o = (o.answers, o.length)

-- Replies laid into a buffer from its start, and how long they are; bytes beyond them are as they were.
abbrev pub laid_over : List ℕ → List Reply → List ℕ × ℕ
laid_over buffer rs = (lay buffer 0 (replies_bytes rs), length (replies_bytes rs))

-- The replies of each call of a list, each in the buffer lent to it.
abbrev pub laid : List (List ℕ) → List (List Reply) → List (List ℕ × ℕ)
laid [] rss = []
laid (b ∷ bs) [] = []
laid (b ∷ bs) (rs ∷ rss) = laid_over b rs ∷ laid bs rss

-- The book that a pool spells between calls: contents and modes by its pages, scores by its checkpoint; none where a page does not check.
abbrev pub book_by : ℕ → Option Cells → Option Book
book_by blocks None = None
book_by blocks (Some c) = Some (book_of (state_of (reopened blocks c)))

unfoldable pub book_in : List ℕ → Option Book
book_in pool = book_by (blocks_of pool) (cells_of pool)

-- What an accepted call runs; a refused one runs nothing.
unfoldable pub work_of : List ℕ → Call → Option Work
work_of pool c = choose (accepted (outcome pool c)) (work_in pool c) None

-- The states that it passes: after every node request; and after every page written and every node request, with the node count then.
abbrev pub states_by : ℕ → Option Work → List State
states_by blocks None = []
states_by blocks (Some w) = states_passed (node_limit blocks) w.commands (at_first w.tariff) w.start

abbrev pub moments_by : ℕ → Option Work → List Moment
moments_by blocks None = []
moments_by blocks (Some w) = (closed w.tariff (run (node_limit blocks) w.commands (at_first w.tariff) w.start)).run.passed

abbrev pub all_states : List ℕ → List Call → List State
all_states pool [] = []
all_states pool (c ∷ cs) = states_by (blocks_of pool) (work_of pool c) ++ all_states (outcome pool c).pool cs

abbrev pub all_moments : List ℕ → List Call → List Moment
all_moments pool [] = []
all_moments pool (c ∷ cs) = moments_by (blocks_of pool) (work_of pool c) ++ all_moments (outcome pool c).pool cs

-- The reference model "is fed the pool's length, the tariff, each batch's bytes and whether it was accepted".
pub record Fed : Type 0 where
  pub batch : List ℕ
  pub accepted : Bool

abbrev pub fed_of : List ℕ → Call → Fed
fed_of pool c = record { batch = bytes_run c; accepted = accepted (outcome pool c) }

abbrev pub fed : List ℕ → List Call → List Fed
fed pool [] = []
fed pool (c ∷ cs) = fed_of pool c ∷ fed (outcome pool c).pool cs

-- "A refused batch changes nothing and costs 0."
abbrev pub commands_by : Bool → Option (List Command) → List Command
commands_by false cs = []
commands_by true None = []
commands_by true (Some cs) = cs

abbrev pub commands_in : Fed → List Command
commands_in f = commands_by f.accepted (commands_of f.batch)

module _ (blocks : ℕ) (t : Tariff) where
  abbrev limit : ℕ
  limit = node_limit blocks

  -- The book after each call, the books after each node request, the charges of each call, all node requests.
  abbrev pub fed_book : Fed → Book → Book
  fed_book f b = run_book limit (commands_in f) (at_first t) b

  abbrev pub books_after : List Fed → Book → List Book
  books_after [] b = []
  books_after (f ∷ fs) b = fed_book f b ∷ books_after fs (fed_book f b)

  abbrev pub last_book : List Fed → Book → Book
  last_book [] b = b
  last_book (f ∷ fs) b = last_book fs (fed_book f b)

  abbrev pub all_books : List Fed → Book → List Book
  all_books [] b = []
  all_books (f ∷ fs) b = books_passed limit (commands_in f) (at_first t) b ++ all_books fs (fed_book f b)

  abbrev pub all_charges : List Fed → Book → List (List ℕ)
  all_charges [] b = []
  all_charges (f ∷ fs) b = charges_book limit (commands_in f) (at_first t) b ∷ all_charges fs (fed_book f b)

  abbrev pub all_requests : List Fed → Book → List NodeRequest
  all_requests [] b = []
  all_requests (f ∷ fs) b = requests_book limit (commands_in f) (at_first t) b ++ all_requests fs (fed_book f b)

  -- The plain ordered map, call after call.
  abbrev pub map_replies : List Fed → Book → List Pair → List (List Reply)
  map_replies [] b ps = []
  map_replies (f ∷ fs) b ps =
      map_answers limit (commands_in f) (at_first t) b ps ∷ map_replies fs (fed_book f b) (map_run limit (commands_in f) (at_first t) b ps)

  -- .. and after each call.
  abbrev pub maps_after : List Fed → Book → List Pair → List (List Pair)
  maps_after [] b ps = []
  maps_after (f ∷ fs) b ps =
      let qs = map_run limit (commands_in f) (at_first t) b ps in
      qs ∷ maps_after fs (fed_book f b) qs
