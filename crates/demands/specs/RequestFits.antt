-- A list of node requests that fit and have 32-bit numbers leaves a fitting store, and takes at most four sequence numbers a request.
-- Assumes nothing.
use Rattle.std.proofs.Common.{sym, subst}
use mathlib.Core.List.{List, [], ◌∷◌}
use Rattle.std.specs.Prelude.{ℕ, ◌+◌, ◌*◌, ◌≤◌, ◌<◌, length}
use native.Mathlib.Omega.{arith}
use Rattle.laws.specs.Every.{Every, none, both}
use Rattle.layout.specs.Layout.{node_limit, bound32}
use Rattle.account.specs.declared.Mode.{Mode}
use Rattle.account.specs.declared.Tariff.{Tariff}
use Rattle.page.specs.Limits.{bound16}
use Rattle.tree.specs.Table.{Table}
use Rattle.tree.specs.NodeRequest.{NodeRequest, read, edit, rewrite, create, id_of}
use Rattle.tree.specs.Fit.{Fit, Fits}
use Rattle.tree.specs.Narrow.{NarrowRequest}
use Rattle.store.specs.Run.{Run}
use Rattle.store.specs.Serve as Store
use Rattle.store_laws.specs.Keeps.{Keeps}
use Rattle.store_laws.specs.Numbers.{last}
use Rattle.store_laws.proofs.RequestNumbers.{serve-last, create-last}
use Rattle.book.specs.Book.{Book, request_of, account_by}
use Rattle.book.specs.Book as Book
use Rattle.model.specs.State.{State, book_of, write, serve, serve_all}
use Rattle.demands.specs.Says.{Sound}
use Rattle.demands.specs.Step.{serve-says}
use Rattle.store_laws.specs.StoreFits.{RunFits}
use Rattle.demands.specs.ServeFits.{serve-fits, create-fits}

-- A run goes on to one that fits, and takes at most so many sequence numbers.
pub record Took (most : ℕ) (run run' : Run) : Type 0 where
  pub fits : RunFits run'
  pub number : last run' ≤ most + last run

pub took_more : {k most : ℕ} {a b : Run} → k ≤ most → Took k a b → Took most a b
took_more l x = record { fits = x.fits; number = omega (arith, l, x.number) }

pub took_then : {j k most : ℕ} {a b c : Run} → j + k ≤ most → Took j a b → Took k b c → Took most a c
took_then l x y = record { fits = y.fits; number = omega (arith, l, x.number, y.number) }

-- What a request writes, in any mode.
module _ {blocks : ℕ} {table : Table} {count : ℕ} {m : ℕ → Mode} {run : Run} (v : Keeps blocks count table m run) (h : RunFits run)
    (few : node_limit blocks ≤ bound16) (room : 5 + last run < bound32) where
  within : (n : ℕ) → n < count → n < bound16
  within n l = omega (arith, v.nodes, v.good.invariant.nodes)

  write_took : (r : NodeRequest) (mode : Mode) → Fit (node_limit blocks) r table count → NarrowRequest r → Took 4 run (write mode r run)
  write_took (read n) mode f w =
      record {
        fits = serve-fits v h n f (within n f) Store.read tt tt room mode;
        number = serve-last v n f mode Store.read;
      }
  write_took (edit n c) mode f w =
      record {
        fits = serve-fits v h n f.0 (within n f.0) (Store.edit c) (f.2, f.1) w room mode;
        number = serve-last v n f.0 mode (Store.edit c);
      }
  write_took (rewrite n x) mode f w =
      record {
        fits = serve-fits v h n f.0 (within n f.0) (Store.rewrite x) f.1 w room mode;
        number = serve-last v n f.0 mode (Store.rewrite x);
      }
  write_took (create n x) mode f w =
      record {
        fits = create-fits h n (omega (arith, f.1)) x w f.2 (omega arith);
        number = omega (arith, create-last n x run);
      }

module _ (blocks : ℕ) (t : Tariff) (few : node_limit blocks ≤ bound16) where
  pub serve_took : (r : NodeRequest) (s : State) → Sound blocks s → RunFits s.run → Fit (node_limit blocks) r (book_of s).table (book_of s).count →
      NarrowRequest r → 5 + last s.run < bound32 → Took 4 s.run (serve t r s).run
  unfolding serve
  serve_took r s v h f w b = write_took v h few b r (account_by t (request_of r) ((book_of s).account (id_of r))).mode f w

  -- A LIST OF REQUESTS
  pub serve_all_took : (rs : List NodeRequest) (s : State) (final : ℕ) → Sound blocks s → RunFits s.run →
      Fits (node_limit blocks) rs (book_of s).table (book_of s).count final → Every NarrowRequest rs →
      1 + (4 * length rs + last s.run) < bound32 → Took (4 * length rs) s.run (serve_all t rs s).run
  unfolding Book.serve
  serve_all_took [] s final v h f none b = record { fits = h; number = omega arith }
  serve_all_took (r ∷ rs) s final v h f (both w ws) b =
      let one = serve_took r s v h f.0 w (omega arith) in
      let said = serve-says t s v r f.0 in
      took_then (omega arith) one
      (serve_all_took rs (serve t r s) final said.sound one.fits
      (subst (λ (z : Book). Fits (node_limit blocks) rs z.table z.count final) (sym said.is) f.1) ws (omega (arith, one.number)))
