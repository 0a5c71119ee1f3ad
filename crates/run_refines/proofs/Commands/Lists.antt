-- A LIST OF NODE REQUESTS served by the code agrees with the model's: what is left, and the charges summed. Assumes nothing.
use Rattle.std.specs.Prelude.{◌≡◌, refl, List, [], ◌∷◌, ◌++◌, ℕ, ◌+◌, ◌*◌, ◌≤◌, ◌<◌, length}
use Rattle.std.proofs.Common.{sym, subst, arith}
use Rattle.laws.specs.Every.{Every, none, both}
use Rattle.layout.specs.Layout.{node_limit, bound32}
use Rattle.account.specs.declared.Tariff.{Tariff}
use Rattle.tree.specs.NodeRequest.{NodeRequest, id_of}
use Rattle.tree.specs.Narrow.{NarrowRequest}
use Rattle.tree.specs.Fit.{Fit, Fits}
use Rattle.book.specs.Book.{Book}
use Rattle.book.specs.Book as Book
use Rattle.store_laws.specs.Numbers.{last}
use Rattle.model.specs.State.{State, book_of, serve}
use Rattle.demands.specs.Says.{modes}
use Rattle.demands.specs.Step.{serve-says}
use Rattle.demands.specs.NodesNarrow.{book_narrow}
use Rattle.demands.specs.RequestFits.{Took, serve_took}
use Rattle.flash_allocate.specs.World.{World}
use Rattle.run_refines.specs.Requests.Requests.{served, charged, Ready, serve_agrees, charge_agrees}
use Rattle.run_refines.specs.Commands.Lists.{served_all, charged_all, Runs, Ran}

pub served_all-append : (t : Tariff) (rs ss : List NodeRequest) (w : World) → served_all t (rs ++ ss) w ≡ served_all t ss (served_all t rs w)
served_all-append t [] ss w = refl
served_all-append t (r ∷ rs) ss w = served_all-append t rs ss (served t r w)

pub charged_all-append : (t : Tariff) (rs ss : List NodeRequest) (w : World) → charged_all t (rs ++ ss) w ≡ charged_all t rs w + charged_all t ss (served_all t rs w)
charged_all-append t [] ss w = omega arith
charged_all-append t (r ∷ rs) ss w = omega (arith, charged_all-append t rs ss (served t r w))

-- A request that fits can be served.
module _ {blocks : ℕ} {w : World} {s : State} (k : Runs blocks w s) (t : Tariff) (r : NodeRequest)
    (fit : Fit (node_limit blocks) r (book_of s).table (book_of s).count) (narrow : NarrowRequest r) (number : 5 + last s.run < bound32) where
  ready : Ready blocks (book_of s).count (book_of s).table (modes (book_of s)) r s.run
  ready =
      record { few = k.few; keeps = k.sound; fits = k.fits.now; fit = fit; narrow = book_narrow s k.fits.now (id_of r); number = number }

  took : Took 4 s.run (serve t r s).run
  took = serve_took blocks t (omega (arith, k.few)) r s k.sound k.fits fit narrow number

  pub request_runs : Runs blocks (served t r w) (serve t r s)
  request_runs =
      record { few = k.few; agrees = serve_agrees t s w k.agrees r ready; sound = (serve-says t s k.sound r fit).sound; fits = took.fits }

  pub request_charge : charged t r w ≡ Book.charge t r (book_of s)
  request_charge = charge_agrees t s w k.agrees r ready

  pub request_last : last (serve t r s).run ≤ 4 + last s.run
  request_last = took.number

pub list_runs : {blocks : ℕ} (t : Tariff) (rs : List NodeRequest) {w : World} {s : State} (final : ℕ) → Runs blocks w s →
    Fits (node_limit blocks) rs (book_of s).table (book_of s).count final → Every NarrowRequest rs →
    1 + (4 * length rs + last s.run) < bound32 → Ran blocks t rs w s
unfolding Book.serve
list_runs t [] final k f none b = record { runs = k; charge = refl; number = omega arith }
list_runs {blocks} t (r ∷ rs) {w} {s} final k f (both n ns) b =
    let one = request_runs k t r f.0 n (omega arith) in
    let said = serve-says t s k.sound r f.0 in
    let rest =
    list_runs t rs final one (subst (λ (z : Book). Fits (node_limit blocks) rs z.table z.count final) (sym said.is) f.1) ns
    (omega (arith, request_last k t r f.0 n (omega arith))) in
    record {
      runs = rest.runs;
      charge = omega (arith, request_charge k t r f.0 n (omega arith), rest.charge);
      number = omega (arith, rest.number, request_last k t r f.0 n (omega arith));
    }
