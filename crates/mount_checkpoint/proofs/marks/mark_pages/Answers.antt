-- `marks::mark_pages` meets its contract. The invariant: the pages left, marked from here, give the marks of all. Assumes nothing.
use mathlib.Core.Path.{◌≡◌, sym, ap, ◌∙◌}
use mathlib.Core.List.{List}
use Prim.Native.Nat.{ℕ}
use native.Mathlib.Omega.{arith}
use Rattle.laws.specs.Loops.{steps-begin, steps_more, steps-done}
use Rattle.flash_blocks.specs.Pages.{pages_of, page_at}
use Rattle.mount_checkpoint.specs.Marks.{mark_page, mark_pages}
use Rattle.mount_checkpoint.proofs.marks.mark_pages.Goals as goal

pub loop-page-init : goal.loop-page-init
unfolding mark_pages
loop-page-init c = let a = c.args in
    (steps-begin (λ i. mark_page a.since a.start (page_at (pages_of a.pool.now) i)) a.pages a.marks.now)

pub mark_page-requires : goal.mark_page-requires
mark_page-requires c = tt

pub loop-page-preserved : goal.loop-page-preserved
loop-page-preserved c = let l = c.loop-page in
    let a = c.args in
    let ps = pages_of a.pool.now in
    let e : c.mark_page.new.marks ≡ mark_page a.since a.start (page_at ps l.page)
    l.marks = c.mark_page.ensures ∙ ap (λ (b : List ℕ). mark_page a.since a.start b l.marks)
    c.page_part.ensures.0 in
    (rw e (steps_more (λ i. mark_page a.since a.start (page_at ps i)) a.pages l.page l.marks (omega arith) ∙ l.invariant))

pub returns : goal.returns
returns c = let l = c.loop-page in
    let a = c.args in
    sym (steps-done (λ i. mark_page a.since a.start (page_at (pages_of a.pool.now) i)) a.pages l.page l.marks (omega arith)) ∙ l.invariant
