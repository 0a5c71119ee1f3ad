-- A whole list of calls, one after the other, on a pool that stands: what each returns and leaves. Demands 2 and 3 (TheBook) are read off it.
-- Assumes nothing.
use Rattle.std.specs.Prelude.{◌≡◌, refl, List, [], ◌∷◌, ◌++◌, map, ℕ, ◌+◌, ◌≤◌, ◌<◌, Option, None, Some}
use Rattle.std.proofs.Common.{sym, ap, ap₂, ◌∙◌, subst, arith}
use Rattle.std.proofs.lemmas.List.{map-append}
use Rattle.laws.specs.Every.{Every, both, every_append}
use Rattle.laws.specs.Update.{sum}
use Rattle.layout.specs.Layout.{node_limit, most_log_pages}
use Rattle.account.specs.declared.Tariff.{Tariff}
use Rattle.pairs.specs.Pairs.{Pair}
use Rattle.tree.specs.Table.{Table}
use Rattle.tree.specs.Fit.{Fits}
use Rattle.tree_laws.specs.Requests.{fits-append}
use Rattle.store.specs.View.{pages}
use Rattle.store.specs.Store.{view}
use Rattle.store.specs.Reopen.{Cells, reopened}
use Rattle.book.specs.Book.{Book}
use Rattle.book.specs.Book as Book
use Rattle.book.specs.Session.{at_first}
use Rattle.book.specs.Batch.{requests_book}
use Rattle.book.specs.OrderedMap.{map_run}
use Rattle.model.specs.State.{book_of}
use Rattle.model.specs.Mount.{state_of}
use Rattle.model.specs.Bytes.{cells_of}
use Rattle.model.specs.Pool.{blocks_of}
use Rattle.model.specs.Outcome.{Outcome, charge}
use Rattle.model.specs.Call.{Call, buffer_of, outcome}
use Rattle.model.specs.Calls.{outcomes, answered, laid, book_in, work_of, states_by, all_states, all_moments, fed_of, fed, commands_in, fed_book}
use Rattle.model.specs.Calls.{books_after, last_book, all_books, all_charges, all_requests, map_replies, maps_after}
use Rattle.demands.specs.Run.{serve_all-table, charges-append, run_book-requests}
use Rattle.demands.specs.CallBytes.{CallBytes, run-bytes}
use Rattle.demands.specs.OneCall.{OpenPool, Thin, book_in-is, called}
use Rattle.demands.specs.Obeys.{Obeys, stands_obeys}

-- Each log node of a pool between calls lies on at most three pages; of a pool with a page that does not check this does not hold.
abbrev pub ThinCells : ℕ → Option Cells → Type 0
ThinCells blocks None = ⊥
ThinCells blocks (Some c) =
    (n : ℕ) → n < (book_of (state_of (reopened blocks c))).count → pages (view (reopened blocks c)) n ≤ most_log_pages

unfoldable pub ThinPool : List ℕ → Type 0
ThinPool pool = ThinCells (blocks_of pool) (cells_of pool)

-- Each pool that the calls left obeys the layout and spells the map then.
abbrev pub Spelled : Tariff → List Outcome → List (List Pair) → Type 0
Spelled t [] [] = Unit {0}
Spelled t [] (ps ∷ pss) = ⊥
Spelled t (o ∷ os) [] = ⊥
Spelled t (o ∷ os) (ps ∷ pss) = Obeys o.pool t ps × Spelled t os pss

pub record AllCalled (t : Tariff) (pool : List ℕ) (cs : List Call) (b : Book) (ps : List Pair) : Type 0 where
  pub charges : map (λ (o : Outcome). o.charges) (outcomes pool cs) ≡ all_charges (blocks_of pool) t (fed pool cs) b
  pub requests : map book_of (all_states pool cs) ≡ all_books (blocks_of pool) t (fed pool cs) b
  pub calls : map (λ (o : Outcome). book_in o.pool) (outcomes pool cs) ≡ map Some (books_after (blocks_of pool) t (fed pool cs) b)
  pub thin : Every Thin (all_moments pool cs)
  pub thin_calls : Every (λ (o : Outcome). ThinPool o.pool) (outcomes pool cs)
  pub answers : map answered (outcomes pool cs) ≡ laid (map buffer_of cs) (map_replies (blocks_of pool) t (fed pool cs) b ps)
  pub left : Spelled t (outcomes pool cs) (maps_after (blocks_of pool) t (fed pool cs) b ps)
  -- The charges are those of all node requests of the list in a row.
  pub total : sum (map charge (outcomes pool cs)) ≡ Book.charges t (all_requests (blocks_of pool) t (fed pool cs) b) b
  pub fits :
      Fits (node_limit (blocks_of pool)) (all_requests (blocks_of pool) t (fed pool cs) b) b.table b.count
      (last_book (blocks_of pool) t (fed pool cs) b).count

thin_pool : {t : Tariff} {pool : List ℕ} {b : Book} {ps : List Pair} → OpenPool t pool b ps → ThinPool pool
unfolding ThinPool state_of book_of
thin_pool o = rw o.reads (λ n l. omega (arith, o.ready.says.sound.good.invariant.lean.each n l))

module _ {t : Tariff} where
  pub all_called : (cs : List Call) (pool : List ℕ) (b : Book) (ps : List Pair) → Every CallBytes cs → OpenPool t pool b ps → AllCalled t pool cs b ps
  all_called [] pool b ps bytes o =
      record {
        charges = refl;
        requests = refl;
        calls = refl;
        thin = Every.none;
        thin_calls = Every.none;
        answers = refl;
        left = record {};
        total = refl;
        fits = refl;
      }
  all_called (c ∷ cs) pool b ps (both h bytes) o =
      let x = called o c (run-bytes c h) in
      let B = blocks_of pool in
      let next = (outcome pool c).pool in
      let xs = commands_in (fed_of pool c) in
      let b' = fed_book B t (fed_of pool c) b in
      let ps' = map_run (node_limit B) xs (at_first t) b ps in
      let y = all_called cs next b' ps' bytes x.stands in
      let e : blocks_of next ≡ B = x.length in
      let rs = requests_book (node_limit B) xs (at_first t) b in
      record {
        charges = ap₂ {B = List (List ℕ)} ◌∷◌ x.charges (y.charges ∙ ap (λ (k : ℕ). all_charges k t (fed next cs) b') e);
        requests =
            map-append book_of (states_by B (work_of pool c)) (all_states next cs) ∙
            ap₂ {B = List Book} ◌++◌ x.passed (y.requests ∙ ap (λ (k : ℕ). all_books k t (fed next cs) b') e);
        calls =
            ap₂ {B = List (Option Book)} ◌∷◌ (book_in-is x.stands) (y.calls ∙ ap (λ (k : ℕ). map Some (books_after k t (fed next cs) b')) e);
        thin = every_append x.thin y.thin;
        thin_calls = both (thin_pool x.stands) y.thin_calls;
        answers =
            ap₂ {B = List (List ℕ × ℕ)} ◌∷◌ x.answers (y.answers ∙ ap (λ (k : ℕ). laid (map buffer_of cs) (map_replies k t (fed next cs) b' ps')) e);
        left =
            (stands_obeys x.stands, subst (λ (k : ℕ). Spelled t (outcomes next cs) (maps_after k t (fed next cs) b' ps')) e y.left);
        total =
            ap₂ ◌+◌ x.paid
            (y.total ∙
            ap₂ (λ (k : ℕ) (z : Book). Book.charges t (all_requests k t (fed next cs) b') z) e (run_book-requests (node_limit B) xs (at_first t) b)) ∙
            sym (charges-append t rs (all_requests B t (fed next cs) b') b);
        fits =
            fits-append (node_limit B) rs (all_requests B t (fed next cs) b') b.table b.count b'.count
            (last_book B t (fed next cs) b').count x.fits
            (subst (λ (z : Table). Fits (node_limit B) (all_requests B t (fed next cs) b') z b'.count (last_book B t (fed next cs) b').count)
            (ap (λ (z : Book). z.table) (run_book-requests (node_limit B) xs (at_first t) b) ∙ serve_all-table t rs b)
            (subst
            (λ (k : ℕ). Fits (node_limit k) (all_requests k t (fed next cs) b') b'.table b'.count (last_book k t (fed next cs) b').count) e
            y.fits));
      }
