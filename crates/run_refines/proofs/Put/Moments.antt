-- THE WORLD AFTER SOME OF THE REQUESTS of a list says the table and the count that those requests make. Assumes nothing.
use Rattle.std.specs.Prelude.{◌≡◌, refl, List, [], ◌∷◌, ◌++◌, ℕ, length}
use Rattle.std.proofs.Common.{sym, ap, ◌∙◌, subst, arith, length-append}
use Rattle.laws.specs.Every.{Every, every-append-left}
use Rattle.layout.specs.Layout.{node_limit}
use Rattle.account.specs.declared.Tariff.{Tariff}
use Rattle.tree.specs.Table.{Table}
use Rattle.tree.specs.NodeRequest.{NodeRequest, apply, apply_all, count_after, count_after_all}
use Rattle.tree.specs.Fit.{Fits}
use Rattle.tree.specs.Narrow.{NarrowRequest}
use Rattle.book.specs.Book.{Book}
use Rattle.model.specs.State.{State, book_of}
use Rattle.demands.specs.Says.{book_of-count}
use Rattle.demands.specs.Run.{serve_all-table, serve_all-count, serve_all-served}
use Rattle.flash_allocate.specs.World.{World}
use Rattle.run_path.specs.Path.{table_in}
use Rattle.run_refines.specs.Commands.Tables.{table_agrees}
use Rattle.run_refines.specs.Commands.Lists.{served_all, Runs}
use Rattle.run_refines.proofs.Put.Lists.{Suits, served_together}

module _ {B : ℕ} {s : State} {w : World} (a : Runs B w s) where
  pub nodes_are : w.state.nodes ≡ (book_of s).count
  nodes_are = a.agrees.nodes ∙ sym (book_of-count s)

  pub blocks_are : w.state.blocks ≡ B
  blocks_are = sym a.agrees.mirrors.pages.size ∙ a.sound.good.invariant.rules.size

  pub table_is : table_in w ≡ (book_of s).table
  table_is = table_agrees a

-- The world after a list of requests on a table with a count.
pub record Moment (B : ℕ) (t : Tariff) (before : Table) (count : ℕ) (w : World) (rs : List NodeRequest) : Type 0 where
  pub table : table_in (served_all t rs w) ≡ apply_all rs before
  pub nodes : (served_all t rs w).state.nodes ≡ count_after_all rs count
  pub blocks : (served_all t rs w).state.blocks ≡ B

pub fits-front : (limit : ℕ) (rs ss : List NodeRequest) (table : Table) (count final : ℕ) → Fits limit (rs ++ ss) table count final →
    Fits limit rs table count (count_after_all rs count)
fits-front limit [] ss table count final f = refl
fits-front limit (r ∷ rs) ss table count final f = (f.0, fits-front limit rs ss (apply r table) (count_after r count) final f.1)

-- After any of the first requests of a list that fits.
pub moment : {B : ℕ} (t : Tariff) (s : State) (w : World) (all : List NodeRequest) (final : ℕ) → Runs B w s → Suits B all s final →
    (rs more : List NodeRequest) → rs ++ more ≡ all → Moment B t (book_of s).table (book_of s).count w rs
moment {B} t s w all final a f rs more e =
    let suits : Suits B rs s (count_after_all rs (book_of s).count) =
    record {
      fits =
          fits-front (node_limit B) rs more (book_of s).table (book_of s).count final
          (subst (λ (z : List NodeRequest). Fits (node_limit B) z (book_of s).table (book_of s).count final) (sym e) f.fits);
      narrow = every-append-left rs more (subst (λ (z : List NodeRequest). Every NarrowRequest z) (sym e) f.narrow);
      number = omega (arith, f.number, ap length e, length-append rs more);
    } in
    let stands = (served_together t rs s w _ a suits).runs in
    let said = (serve_all-served B t rs s _ a.sound suits.fits).says.is in
    record {
      table = table_is stands ∙ ap (λ (b : Book). b.table) said ∙ serve_all-table t rs (book_of s);
      nodes = nodes_are stands ∙ ap (λ (b : Book). b.count) said ∙ serve_all-count t rs (book_of s);
      blocks = blocks_are stands;
    }
