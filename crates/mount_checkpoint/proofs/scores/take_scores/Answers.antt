-- `scores::take_scores` meets its contract. The invariant: the pages left, taken from here, give the rows of all. Assumes nothing.
use mathlib.Core.Path.{◌≡◌, sym, ap, ◌∙◌}
use mathlib.Core.List.{List}
use Prim.Native.Nat.{ℕ, ◌*◌}
use native.Mathlib.Omega.{arith}
use Rattle.laws.specs.Loops.{steps-begin, steps_more, steps-done}
use Rattle.flash_rows.specs.Row.{rows_of}
use Rattle.flash_blocks.specs.Pages.{pages_of, page_at}
use Rattle.mount_checkpoint.specs.Scores.{take_page, take_pages}
use Rattle.mount_checkpoint.proofs.scores.take_scores.Goals as goal

pub loop-page-init : goal.loop-page-init
unfolding take_pages
loop-page-init c = let a = c.args in
    (steps-begin (λ i. take_page a.since a.nodes (page_at (pages_of a.pool.now) i)) (32 * a.blocks) (rows_of a.table.now))

pub loop-page-preserved : goal.loop-page-preserved
loop-page-preserved c = let l = c.loop-page in
    let a = c.args in
    let ps = pages_of a.pool.now in
    let e : rows_of c.take_page.new.table ≡ take_page a.since a.nodes (page_at ps l.page)
    (rows_of l.table) = c.take_page.ensures ∙ ap (λ (b : List ℕ). take_page a.since a.nodes b (rows_of l.table))
    c.page_part.ensures.0 in (rw e (steps_more (λ i. take_page a.since a.nodes (page_at ps i)) (32 * a.blocks) l.page (rows_of l.table) (omega arith) ∙
    l.invariant))

pub returns : goal.returns
returns c = let l = c.loop-page in
    let a = c.args in
    sym (steps-done (λ i. take_page a.since a.nodes (page_at (pages_of a.pool.now) i)) (32 * a.blocks) l.page (rows_of l.table)
    (omega arith)) ∙ l.invariant
