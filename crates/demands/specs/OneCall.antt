-- One call on a pool that stands between calls, whatever its bytes, with any work table and answer buffer: what it returns and leaves is what
-- the reference model and the ordered map say. Assumes nothing.
use Rattle.std.specs.Prelude.{◌≡◌, refl, Bool, ℕ, ◌≤◌, ◌<◌, Option, None, Some}
use Rattle.std.proofs.Math.Path.{sym, ap}
use Rattle.std.proofs.Common.{◌∙◌, subst, arith}
use Rattle.std.proofs.Math.Bool.{true, false}
use mathlib.Core.List.{List, [], map}
use borrow.Author.Tests.{ne_eqb}
use Rattle.std.proofs.Math.Dec.{eqb}
use Rattle.laws.specs.Tests.{choose}
use Rattle.laws.specs.Every.{Every, every_weaken}
use Rattle.laws.specs.Lay.{lay-nil}
use Rattle.laws.specs.Update.{sum}
use Rattle.laws.specs.BigEndian.{Bytes}
use Rattle.laws.specs.Options.{some_same}
use Rattle.layout.specs.Layout.{node_limit, most_log_pages, no_leaf}
use Rattle.account.specs.declared.Tariff.{Tariff}
use Rattle.account.specs.Range.{limit_some}
use Rattle.pairs.specs.Pairs.{Pair}
use Rattle.command.specs.declared.Command.{Command}
use Rattle.command.specs.Batch.{commands_of}
use Rattle.tree.specs.Fit.{Fits}
use Rattle.store.specs.View.{pages}
use Rattle.store.specs.Store.{view}
use Rattle.store.specs.Run.{Moment}
use Rattle.store.specs.Reopen.{Cells, pool_of, reopened}
use Rattle.store_laws.specs.Good.{LeanAt}
use Rattle.book.specs.Book.{Book}
use Rattle.book.specs.Book as Book
use Rattle.book.specs.Command.{answer}
use Rattle.book.specs.Session.{at_first}
use Rattle.book.specs.EachPanel.{sum_each, each_same}
use Rattle.book.specs.Batch.{done_book, cost_book, run_book, books_passed, charge_book, charges_book, requests_book}
use Rattle.book.specs.Bound.{Scored, scored-all}
use Rattle.book.specs.OrderedMap.{map_answers, map_run}
use Rattle.model.specs.State.{State, book_of}
use Rattle.model.specs.Batch.{run, charge_of, charges_of, closed}
use Rattle.model.specs.Mount.{opened, state_of, mount_cells}
use Rattle.model.specs.Bytes.{bytes_of, cells_of}
use Rattle.model.specs.Pool.{blocks_of, pool_length, mount_by, mount_of}
use Rattle.model.specs.PoolLaws.{is-pool, blocks-length, whole_length}
use Rattle.model.specs.Outcome.{Outcome, charge, refuse, accept, accepted, Work}
use Rattle.model.specs.Call.{Call, table_of, buffer_of, bytes_run, work_in, outcome}
use Rattle.model.specs.Calls.{answered, laid_over, book_in, work_of, states_by, moments_by, fed_of, commands_by, commands_in}
use Rattle.demands.specs.Says.{Says}
use Rattle.demands.specs.Run as Run
use Rattle.demands.specs.Run.{Batched, batch_batched, run_book-requests, total-requests}
use Rattle.demands.specs.Panels.{sum-charges}
use Rattle.demands.specs.Mount.{Sealed, Ready, opened_mounts}
use Rattle.demands.specs.Close.{closed-says, closed-sealed, closed_ready, closed-checkpoint, score_of_lem}
use Rattle.demands.specs.Ends.{Ends, refused, done, call_ends}
use Rattle.demands.specs.CommandBytes.{Batch, commands_of_batch}
use Rattle.demands.specs.ChargesFit.{most_batch_charge, batch_charge}
use Rattle.demands.specs.ScoreOrder.{InNodeOrder, closed_in_order}
use Rattle.demands.specs.PoolAfter.{PoolAfter, batch_pool}

-- A pool between calls: bytes of a length named in document 01, every page checks, questions 5 to 7 pass, and it says a book that spells a
-- map. What the induction over calls carries; it is the layout's `Obeys` in other words (Obeys `stands_obeys`, `obeys_stands`).
pub record OpenPool (t : Tariff) (pool : List ℕ) (b : Book) (ps : List Pair) : Type 0 where
  pub bytes : Bytes pool
  pub size : pool_length pool ≡ true
  pub cells : Cells
  pub reads : cells_of pool ≡ Some cells
  pub sealed : Sealed (blocks_of pool) cells t
  pub ready : Ready (blocks_of pool) t (state_of (reopened (blocks_of pool) cells)) b ps

-- A log node lies on at most three pages.
abbrev pub Thin : Moment → Type 0
Thin m = (n : ℕ) → n < m.nodes → pages (view m.state) n ≤ most_log_pages

lean_thin : (m : Moment) → LeanAt m → Thin m
lean_thin m h n l = omega (arith, h.each n l)

-- The book that the pool spells is the book.
pub book_in-is : {t : Tariff} {pool : List ℕ} {b : Book} {ps : List Pair} → OpenPool t pool b ps → book_in pool ≡ Some b
unfolding book_in
book_in-is o = rw o.reads (ap Some o.ready.says.is)

-- What a call leaves, `r`, what it ran, `w`, and the commands that the reference model was fed.
pub record CalledBy (t : Tariff) (pool buffer : List ℕ) (b : Book) (ps : List Pair) (r : Outcome) (w : Option Work) (cs : List Command) : Type 0 where
  pub length : blocks_of r.pool ≡ blocks_of pool
  pub stands : OpenPool t r.pool (run_book (node_limit (blocks_of pool)) cs (at_first t) b) (map_run (node_limit (blocks_of pool)) cs (at_first t) b ps)
  pub ordered : r.number ≡ 0 → InNodeOrder r.pool
  pub charges : r.charges ≡ charges_book (node_limit (blocks_of pool)) cs (at_first t) b
  pub few : charge r ≤ most_batch_charge
  pub paid : charge r ≡ Book.charges t (requests_book (node_limit (blocks_of pool)) cs (at_first t) b) b
  pub passed : map book_of (states_by (blocks_of pool) w) ≡ books_passed (node_limit (blocks_of pool)) cs (at_first t) b
  pub thin : Every Thin (moments_by (blocks_of pool) w)
  pub answers : answered r ≡ laid_over buffer (map_answers (node_limit (blocks_of pool)) cs (at_first t) b ps)
  pub fits :
      Fits (node_limit (blocks_of pool)) (requests_book (node_limit (blocks_of pool)) cs (at_first t) b) b.table b.count
      (run_book (node_limit (blocks_of pool)) cs (at_first t) b).count

-- ONE CALL.
abbrev pub Called : Tariff → List ℕ → Call → Book → List Pair → Type 0
Called t pool c b ps = CalledBy t pool (buffer_of c) b ps (outcome pool c) (work_of pool c) (commands_in (fed_of pool c))

module _ {t : Tariff} {pool : List ℕ} {b : Book} {ps : List Pair} (o : OpenPool t pool b ps) (call : Call) where
  abbrev B : ℕ
  B = blocks_of pool

  abbrev limit : ℕ
  limit = node_limit B

  -- Where a call is known, what it ran and what the model is fed follow.
  from_known : (r : Outcome) (w : Option Work) (cs : List Command) → outcome pool call ≡ r → work_of pool call ≡ w → commands_in (fed_of pool call) ≡ cs →
      CalledBy t pool (buffer_of call) b ps r w cs → Called t pool call b ps
  from_known r w cs e f g c =
      subst (λ (x : Outcome). CalledBy t pool (buffer_of call) b ps x (work_of pool call) (commands_in (fed_of pool call))) (sym e)
      (subst (λ (x : Option Work). CalledBy t pool (buffer_of call) b ps r x (commands_in (fed_of pool call))) (sym f)
      (subst (λ (x : List Command). CalledBy t pool (buffer_of call) b ps r w x) (sym g) c))

  -- A refused call leaves the pool, and the reference model is fed no command.
  refused_called : (n : ℕ) → 1 ≤ n → outcome pool call ≡ refuse n pool (table_of call) (buffer_of call) → Called t pool call b ps
  unfolding work_of
  refused_called n h e =
      from_known (refuse n pool (table_of call) (buffer_of call)) None [] e (ap (λ (x : Bool). choose x (work_in pool call) None) no)
      (ap (λ (x : Bool). commands_by x (commands_of (bytes_run call))) no)
      (record {
        length = refl;
        stands = o;
        ordered = λ z. absurd (omega arith);
        charges = refl;
        few = omega (arith, sum_each (λ q. 0));
        paid = sum_each (λ q. 0);
        passed = refl;
        thin = Every.none;
        answers = ap (λ (z : List ℕ). (z, 0)) (sym (lay-nil (buffer_of call) 0));
        fits = refl;
      })
    where
      no : accepted (outcome pool call) ≡ false
      no = ap (λ (x : Outcome). eqb x.number 0) e ∙ ne_eqb n 0 (λ z. omega arith)

  module _ (bytes : Bytes (bytes_run call)) (cs : List Command) (t' : Tariff) (s : State) (p : pool_length pool ≡ true)
      (q : commands_of (bytes_run call) ≡ Some cs) (m : mount_of pool ≡ opened t' s) where
    mounted : mount_cells B o.cells ≡ opened t' s
    unfolding mount_of
    mounted = sym (ap (mount_by B) o.reads) ∙ m

    same_tariff : t' ≡ t
    same_tariff = let e = sym (opened_mounts mounted).mounts.tariff ∙ o.sealed.tariff in some_same e

    same_state : s ≡ state_of (reopened B o.cells)
    same_state = (opened_mounts mounted).is

    -- The state that the batch begins with.
    start : Ready B t s b ps
    start = rw same_state o.ready

    abbrev commands : Batch (bytes_run call) bytes cs
    commands = commands_of_batch (bytes_run call) bytes cs q

    small : limit < no_leaf
    small = omega (arith, (is-pool pool p).most)

    ran : Batched B cs (at_first t) s ps
    ran =
        batch_batched B small cs (at_first t) s ps commands.valid start.says.sound
        (subst (λ (z : Book). Run.Holds limit z ps) (sym start.says.is) start.holds)

    -- The state after the commands.
    abbrev after : State
    after = run limit cs (at_first t) s

    abbrev book : Book
    book = run_book limit cs (at_first t) b

    says-after : Says B after book
    says-after = subst (λ (z : Book). Says B after (run_book limit cs (at_first t) z)) start.says.is ran.says

    fits_after : Fits limit (requests_book limit cs (at_first t) b) b.table b.count book.count
    fits_after =
        subst (λ (z : Book). Fits limit (requests_book limit cs (at_first t) z) z.table z.count (run_book limit cs (at_first t) z).count)
        start.says.is ran.fits

    ended : Ready B t after book (map_run limit cs (at_first t) b ps)
    ended =
        record {
          says = says-after;
          holds = subst (λ (z : Book). Run.Holds limit (run_book limit cs (at_first t) z) (map_run limit cs (at_first t) z ps)) start.says.is ran.holds;
          ranged = start.ranged;
          scored =
              subst (Scored t) (sym (run_book-requests limit cs (at_first t) b))
              (scored-all limit t (limit_some start.ranged) (requests_book limit cs (at_first t) b) b book.count start.scored fits_after);
        }

    charged : charges_of limit cs (at_first t) s ≡ charges_book limit cs (at_first t) b
    charged =
        each_same (λ q. charge_of limit q cs (at_first t) s) (λ q. charge_book limit q cs (at_first t) b)
        (λ q. ran.charge q ∙ ap (charge_book limit q cs (at_first t)) start.says.is)

    paid-all : sum (charges_book limit cs (at_first t) b) ≡ Book.charges t (requests_book limit cs (at_first t) b) b
    paid-all =
        sum-charges (answer limit) (done_book limit) (cost_book limit) cs (at_first t) b commands.valid (omega arith) ∙
        total-requests limit cs (at_first t) b

    paid_few : Book.charges t (requests_book limit cs (at_first t) b) b ≤ most_batch_charge
    paid_few =
        batch_charge limit (omega (arith, (is-pool pool p).most)) cs (at_first t) b ps start.ranged commands.valid start.holds
        commands.few

    pool-after : PoolAfter B s (closed t after)
    pool-after =
        subst (λ (z : Tariff). PoolAfter B s (closed z (run limit cs (at_first z) s))) same_tariff
        (batch_pool (is-pool pool p).least (is-pool pool p).most pool o.bytes (is-pool pool p).whole o.reads mounted cs commands.valid
        commands.few)

    abbrev left : List ℕ
    left = bytes_of (pool_of (closed t after).run.now)

    same_blocks : blocks_of left ≡ B
    same_blocks = blocks-length left B pool-after.size

    stands_left : OpenPool t left book (map_run limit cs (at_first t) b ps)
    stands_left =
        record {
          bytes = pool-after.bytes;
          size = whole_length left B pool-after.size (is-pool pool p).least (is-pool pool p).most;
          cells = pool_of (closed t after).run.now;
          reads = pool-after.back;
          sealed = rw same_blocks (closed-sealed (is-pool pool p).most ended);
          ready = rw same_blocks (closed_ready (is-pool pool p).most ended);
        }

    ordered_left : InNodeOrder left
    ordered_left =
        closed_in_order left t book (book_in-is stands_left) (pool_of (closed t after).run.now) pool-after.back after.score
        (rw same_blocks (closed-checkpoint (is-pool pool p).most ended)) (score_of_lem (is-pool pool p).most ended)

    accepted_called : outcome pool call ≡ accept B t' cs s (table_of call) (buffer_of call) → Called t pool call b ps
    unfolding work_of
    accepted_called e =
        from_known (accept B t cs s (table_of call) (buffer_of call)) (Some (record { tariff = t; commands = cs; start = s })) cs
        (e ∙ ap (λ (z : Tariff). accept B z cs s (table_of call) (buffer_of call)) same_tariff) work fed
        (record {
          length = same_blocks;
          stands = stands_left;
          ordered = λ z. ordered_left;
          charges = charged;
          few = omega (arith, ap sum charged, paid-all, paid_few);
          paid = ap sum charged ∙ paid-all;
          passed = ran.passed ∙ ap (books_passed limit cs (at_first t)) start.says.is;
          thin = every_weaken lean_thin (closed-says (is-pool pool p).most ended).sound.good.passed;
          answers =
              ap (laid_over (buffer_of call))
              (ran.answers ∙ ap (λ (z : Book). map_answers limit cs (at_first t) z ps) start.says.is);
          fits = fits_after;
        })
      where
        yes : accepted (outcome pool call) ≡ true
        yes = ap (λ (x : Outcome). eqb x.number 0) e

        work : work_of pool call ≡ Some (record { tariff = t; commands = cs; start = s })
        work = rw (yes, q, m, same_tariff) refl

        fed : commands_in (fed_of pool call) ≡ cs
        fed = rw (yes, q) refl

  -- EVERY CALL, accepted or refused.
  pub called : Bytes (bytes_run call) → Called t pool call b ps
  called bytes = go (outcome pool call) refl (call_ends pool call)
    where
      go : (r : Outcome) → outcome pool call ≡ r → Ends pool call r → Called t pool call b ps
      go r e (refused n l) = refused_called n l e
      go r e (done p t' s m) = accepted_called bytes p.commands t' s p.size p.are m e
