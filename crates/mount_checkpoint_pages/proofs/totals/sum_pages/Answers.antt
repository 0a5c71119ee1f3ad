-- `totals::sum_pages` meets its contract. The invariant: what is left, added from here, gives the totals of all; and page pages add up to few.
-- Assumes nothing.
use mathlib.Core.Path.{◌≡◌, sym, ap, ◌∙◌}
use mathlib.Core.List.{List}
use Prim.Native.Nat.{ℕ}
use native.Mathlib.Omega.{arith}
use Rattle.laws.specs.Loops.{steps-begin, steps_more, steps-done}
use Rattle.flash_blocks.specs.Pages.{pages_of, page_at}
use Rattle.mount_checkpoint_pages.specs.Totals.{add_page, nothing, totals_of}
use Rattle.mount_checkpoint_pages.proofs.totals.sum_pages.Goals as goal

pub loop-page-init : goal.loop-page-init
unfolding totals_of nothing
loop-page-init c = let a = c.args in (
  record { misfits = omega arith; scores = omega arith; nodes = omega arith },
  steps-begin (λ i. add_page a.since a.newest
      (page_at (pages_of a.pool.now) i)) a.pages nothing,
)

pub add_page-t-requires : goal.add_page-t-requires
add_page-t-requires c = let f = c.loop-page.invariant.0 in (
  omega (arith, c.page_part.ensures.1),
  record { misfits = omega (arith, f.misfits); scores = omega (arith, f.scores); nodes = omega (arith, f.nodes) },
)

pub loop-page-preserved : goal.loop-page-preserved
loop-page-preserved c = let l = c.loop-page in
    let a = c.args in
    let ps = pages_of a.pool.now in
    let f = l.invariant.0 in
    let r = c.add_page-t.ensures in
    let e : c.add_page-t.result ≡ add_page a.since a.newest (page_at ps l.page) l.t = r.is ∙
    ap (λ (b : List ℕ). add_page a.since a.newest b l.t) c.page_part.ensures.0 in (
      record {
        misfits = omega (arith, f.misfits, r.misfits);
        scores = omega (arith, f.scores, r.scores);
        nodes = omega (arith, f.nodes, r.nodes);
      },
      rw e (steps_more (λ i. add_page a.since a.newest (page_at ps i)) a.pages l.page l.t (omega arith) ∙ l.invariant.1),
    )

pub returns : goal.returns
returns c = let l = c.loop-page in
    let a = c.args in
    let f = l.invariant.0 in
    record {
      is = sym (steps-done (λ i. add_page a.since a.newest (page_at (pages_of a.pool.now) i)) a.pages l.page l.t (omega arith)) ∙
          l.invariant.1;
      few = record { misfits = omega (arith, f.misfits); scores = omega (arith, f.scores); nodes = omega (arith, f.nodes) };
    }
