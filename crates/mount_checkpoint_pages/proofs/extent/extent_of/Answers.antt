-- `extent::extent_of` meets its contract. The invariant: what is left, seen from here, gives the extent of all. Assumes nothing.
use mathlib.Core.Path.{◌≡◌, sym, ap, ◌∙◌}
use mathlib.Core.List.{List}
use Prim.Native.Nat.{ℕ}
use native.Mathlib.Omega.{arith}
use Rattle.laws.specs.Loops.{steps-begin, steps_more, steps-done}
use Rattle.flash_blocks.specs.Pages.{pages_of, page_at}
use Rattle.mount_checkpoint_pages.specs.Extent.{extended, no_extent, extent_of}
use Rattle.mount_checkpoint_pages.proofs.Laws.{extended-place}
use Rattle.mount_checkpoint_pages.proofs.extent.extent_of.Goals as goal

pub loop-page-init : goal.loop-page-init
unfolding extent_of no_extent
loop-page-init c = let a = c.args in
    (c.requires.0, steps-begin (λ i. extended i (page_at (pages_of a.pool.now) i)) a.pages no_extent)

pub extended-e-requires : goal.extended-e-requires
extended-e-requires c = tt

pub loop-page-preserved : goal.loop-page-preserved
loop-page-preserved c = let l = c.loop-page in
    let a = c.args in
    let ps = pages_of a.pool.now in
    let e : c.extended-e.result ≡ extended l.page (page_at ps l.page) l.e =
    c.extended-e.ensures ∙ ap (λ (b : List ℕ). extended l.page b l.e)
    c.page_part.ensures.0 in (
      (rw e (extended-place l.page a.pages (page_at ps l.page) l.e (omega arith) l.invariant.0)),
      rw e (steps_more (λ i. extended i (page_at ps i)) a.pages l.page l.e (omega arith) ∙ l.invariant.1),
    )

pub returns : goal.returns
returns c = let l = c.loop-page in
    let a = c.args in
    record {
      is = sym (steps-done (λ i. extended i (page_at (pages_of a.pool.now) i)) a.pages l.page l.e (omega arith)) ∙
          l.invariant.1;
      inside = l.invariant.0;
    }
