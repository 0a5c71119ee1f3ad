-- A batch: its commands one after another. After every node request the run over the store says what the reference model says, and
-- the answers are the ordered map's. Assumes nothing.
use Rattle.std.specs.Prelude.{◌≡◌, refl, List, [], ◌∷◌, ◌++◌, map, ℕ, ◌+◌, ◌≤◌, ◌<◌}
use Rattle.std.proofs.Common.{sym, ap, ap₂, ◌∙◌, subst, arith}
use Rattle.std.proofs.lemmas.List.{map-append}
use Rattle.laws.specs.Update.{only}
use Rattle.layout.specs.Layout.{node_limit, no_leaf}
use Rattle.account.specs.declared.Tariff.{Tariff}
use Rattle.pairs.specs.Pairs.{Pair}
use Rattle.command.specs.declared.Command.{Command}
use Rattle.tree.specs.Table.{Table}
use Rattle.tree.specs.NodeRequest.{NodeRequest, apply_all, count_after_all}
use Rattle.tree.specs.Fit.{Fits}
use Rattle.tree_laws.specs.Requests.{fits-append}
use Rattle.tree.specs.Spells.{Spells}
use Rattle.book.specs.Book.{Book}
use Rattle.book.specs.Book as Book
use Rattle.book.specs.Command.{Reply, requests, answer, refuses}
use Rattle.book.specs.Session.{Session}
use Rattle.book.specs.SessionAfter.{session_after}
use Rattle.book.specs.InTurn.{total}
use Rattle.book.specs.Batch.{done_book, cost_book, run_book, books_passed, charge_book, requests_book}
use Rattle.book.specs.OrderedMap.{map_answer, map_after, map_answers, map_run}
use Rattle.model.specs.State.{State, book_of, serve, serve_all, after_each, charges}
use Rattle.model.specs.Batch.{done, run, states_passed, charge_of, answers}
use Rattle.demands.specs.Says.{Sound, Says}
use Rattle.demands.specs.Step.{serve-says}
use Rattle.command.specs.Command.{Valid}
use Rattle.command.specs.Batch.{ValidAll}
use Rattle.demands.specs.Commands.{does}

-- The reference model's table and count change as the tree's requests say.
pub serve_all-table : (t : Tariff) (rs : List NodeRequest) (b : Book) → (Book.serve_all t rs b).table ≡ apply_all rs b.table
unfolding Book.serve
serve_all-table t [] b = refl
serve_all-table t (r ∷ rs) b = serve_all-table t rs (Book.serve t r b)

pub serve_all-count : (t : Tariff) (rs : List NodeRequest) (b : Book) → (Book.serve_all t rs b).count ≡ count_after_all rs b.count
unfolding Book.serve
serve_all-count t [] b = refl
serve_all-count t (r ∷ rs) b = serve_all-count t rs (Book.serve t r b)

-- A list of node requests.
pub record Served (blocks : ℕ) (t : Tariff) (rs : List NodeRequest) (s : State) : Type 0 where
  pub says : Says blocks (serve_all t rs s) (Book.serve_all t rs (book_of s))
  pub charge : charges t rs s ≡ Book.charges t rs (book_of s)
  pub passed : map book_of (after_each t rs s) ≡ Book.after_each t rs (book_of s)

pub serve_all-served : (blocks : ℕ) (t : Tariff) (rs : List NodeRequest) (s : State) (final : ℕ) → Sound blocks s →
    Fits (node_limit blocks) rs (book_of s).table (book_of s).count final → Served blocks t rs s
unfolding Book.serve
serve_all-served blocks t [] s final v f = record { says = record { sound = v; is = refl }; charge = refl; passed = refl }
serve_all-served blocks t (r ∷ rs) s final v f =
    let one = serve-says t s v r f.0 in
    let rest =
    serve_all-served blocks t rs (serve t r s) final one.sound
    (subst (λ (z : Book). Fits (node_limit blocks) rs z.table z.count final) (sym one.is) f.1) in
    record {
      says = record { sound = rest.says.sound; is = rest.says.is ∙ ap (Book.serve_all t rs) one.is };
      charge = ap (λ (n : ℕ). Book.charge t r (book_of s) + n) (rest.charge ∙ ap (Book.charges t rs) one.is);
      passed = ap₂ {B = List Book} ◌∷◌ one.is (rest.passed ∙ ap (Book.after_each t rs) one.is);
    }

-- Lists of requests one behind the other, in the reference model.
pub serve_all-append : (t : Tariff) (rs ss : List NodeRequest) (b : Book) →
    Book.serve_all t (rs ++ ss) b ≡ Book.serve_all t ss (Book.serve_all t rs b)
serve_all-append t [] ss b = refl
serve_all-append t (r ∷ rs) ss b = serve_all-append t rs ss (Book.serve t r b)

pub charges-append : (t : Tariff) (rs ss : List NodeRequest) (b : Book) →
    Book.charges t (rs ++ ss) b ≡ Book.charges t rs b + Book.charges t ss (Book.serve_all t rs b)
charges-append t [] ss b = omega arith
charges-append t (r ∷ rs) ss b = omega (arith, charges-append t rs ss (Book.serve t r b))

-- A batch in the reference model is all its node requests in a row.
pub run_book-requests : (limit : ℕ) (cs : List Command) (n : Session) (b : Book) →
    run_book limit cs n b ≡ Book.serve_all n.tariff (requests_book limit cs n b) b
run_book-requests limit [] n b = refl
run_book-requests limit (c ∷ cs) n b =
    let m = session_after c (answer limit n c b) n in
    run_book-requests limit cs m (done_book limit n c b) ∙
    sym (serve_all-append n.tariff (requests limit n c b) (requests_book limit cs m (done_book limit n c b)) b)

pub total-requests : (limit : ℕ) (cs : List Command) (n : Session) (b : Book) →
    total (answer limit) (done_book limit) (cost_book limit) cs n b ≡ Book.charges n.tariff (requests_book limit cs n b) b
total-requests limit [] n b = refl
total-requests limit (c ∷ cs) n b =
    let m = session_after c (answer limit n c b) n in
    omega (
      arith,
      total-requests limit cs m (done_book limit n c b),
      charges-append n.tariff (requests limit n c b) (requests_book limit cs m (done_book limit n c b)) b,
    )

-- A book that spells a map, within the limit of nodes.
pub record Holds (limit : ℕ) (b : Book) (ps : List Pair) : Type 0 where
  pub spells : Spells b.table b.count ps
  pub most : b.count ≤ limit

module _ (limit : ℕ) (small : limit < no_leaf) where
  -- A command keeps it so.
  pub command_holds : (n : Session) (c : Command) (b : Book) (ps : List Pair) → Valid c → Holds limit b ps →
      Holds limit (done_book limit n c b) (map_after n (refuses limit n c b) c ps)
  command_holds n c b ps valid h =
      let d = (does limit small b ps h.spells h.most n c valid).served in
      record {
        spells = rw (serve_all-table n.tariff (requests limit n c b) b, serve_all-count n.tariff (requests limit n c b) b) d.spells;
        most = rw (serve_all-count n.tariff (requests limit n c b) b) d.kept;
      }

-- A BATCH.
pub record Batched (blocks : ℕ) (cs : List Command) (n : Session) (s : State) (ps : List Pair) : Type 0 where
  pub says : Says blocks (run (node_limit blocks) cs n s) (run_book (node_limit blocks) cs n (book_of s))
  pub charge : (q : ℕ) → charge_of (node_limit blocks) q cs n s ≡ charge_book (node_limit blocks) q cs n (book_of s)
  pub passed : map book_of (states_passed (node_limit blocks) cs n s) ≡ books_passed (node_limit blocks) cs n (book_of s)
  pub answers : answers (node_limit blocks) cs n s ≡ map_answers (node_limit blocks) cs n (book_of s) ps
  pub holds : Holds (node_limit blocks) (run_book (node_limit blocks) cs n (book_of s)) (map_run (node_limit blocks) cs n (book_of s) ps)
  pub fits :
      Fits (node_limit blocks) (requests_book (node_limit blocks) cs n (book_of s)) (book_of s).table (book_of s).count
      (run_book (node_limit blocks) cs n (book_of s)).count

module _ (blocks : ℕ) (small : node_limit blocks < no_leaf) where
  abbrev limit : ℕ
  limit = node_limit blocks

  pub batch_batched : (cs : List Command) (n : Session) (s : State) (ps : List Pair) → ValidAll cs → Sound blocks s → Holds limit (book_of s) ps →
      Batched blocks cs n s ps
  batch_batched [] n s ps valid v h =
      record { says = record { sound = v; is = refl }; charge = λ q. refl; passed = refl; answers = refl; holds = h; fits = refl }
  batch_batched (c ∷ cs) n s ps valid v h =
      let b = book_of s in
      let t = n.tariff in
      let rs = requests limit n c b in
      let d = does limit small b ps h.spells h.most n c valid.0 in
      let final = count_after_all rs b.count in
      let one = serve_all-served blocks t rs s final v d.served.fits in
      let b' = done_book limit n c b in
      let e : book_of (done limit n c s) ≡ b' = one.says.is in
      let ps' = map_after n (refuses limit n c b) c ps in
      let m = session_after c (answer limit n c b) n in
      let f : m ≡ session_after c (map_answer n (refuses limit n c b) c ps) n = ap (λ (r : Reply). session_after c r n) d.answers in
      let rest =
      batch_batched cs m (done limit n c s) ps' valid.1 one.says.sound
      (subst (λ (z : Book). Holds limit z ps') (sym e) (command_holds limit small n c b ps valid.0 h)) in
      record {
        says = record { sound = rest.says.sound; is = rest.says.is ∙ ap (run_book limit cs m) e };
        charge = λ q. ap₂ ◌+◌ (ap (λ (k : ℕ). only n.panel k q) one.charge) (rest.charge q ∙ ap (charge_book limit q cs m) e);
        passed =
            map-append book_of (after_each t rs s) (states_passed limit cs m (done limit n c s)) ∙
            ap₂ {B = List Book} ◌++◌ one.passed (rest.passed ∙ ap (books_passed limit cs m) e);
        answers = ap₂ {B = List Reply} ◌∷◌ d.answers (rest.answers ∙ ap₂ (λ (k : Session) (z : Book). map_answers limit cs k z ps') f e);
        holds =
            subst (λ (k : Session). Holds limit (run_book limit cs m b') (map_run limit cs k b' ps')) f
            (subst (λ (z : Book). Holds limit (run_book limit cs m z) (map_run limit cs m z ps')) e rest.holds);
        fits =
            fits-append limit rs (requests_book limit cs m b') b.table b.count final (run_book limit cs m b').count d.served.fits
            (subst (λ (z : Table). Fits limit (requests_book limit cs m b') z final (run_book limit cs m b').count) (serve_all-table t rs b)
            (subst (λ (k : ℕ). Fits limit (requests_book limit cs m b') b'.table k (run_book limit cs m b').count) (serve_all-count t rs b)
            (subst (λ (z : Book). Fits limit (requests_book limit cs m z) z.table z.count (run_book limit cs m z).count) e rest.fits)));
      }
