-- `marks::mark_page` meets its contract. The invariant: the scores left, marked from here, give the marks of all. Assumes nothing.
use mathlib.Core.Path.{◌≡◌, sym, ap, ◌∙◌}
use native.Mathlib.Omega.{arith}
use Rattle.laws.specs.Loops.{steps-begin, steps_more, steps-done}
use Rattle.page_read.specs.declared.value.ScoreValue.{ScoreValue}
use Rattle.mount_checkpoint.specs.Marks.{score_at, marked, mark_scores}
use Rattle.mount_checkpoint.proofs.Laws.{score_same, page_unmarked, page_marked}
use Rattle.mount_checkpoint.proofs.marks.mark_page.Goals as goal

pub sequence-requires : goal.sequence-requires
sequence-requires c = tt

pub returns-then-sequence-since : goal.returns-then-sequence-since
returns-then-sequence-since c = let a = c.args in
    page_unmarked a.since a.start a.page.now a.marks.now c.sequence.result c.sequence.ensures c.if-sequence-since.true

pub scores_of-s-requires : goal.scores_of-s-requires
scores_of-s-requires c = tt

pub loop-i-init : goal.loop-i-init
unfolding mark_scores
loop-i-init c = let a = c.args in
    (steps-begin (λ k. marked a.start (score_at a.page.now k).id) c.scores_of-s.result.count a.marks.now)

pub score_at-v-requires : goal.score_at-v-requires
score_at-v-requires c = let s = c.scores_of-s.ensures in
    (s.near, omega (arith, s.few))

pub mark-requires : goal.mark-requires
mark-requires c = tt

pub loop-i-preserved : goal.loop-i-preserved
loop-i-preserved c = let l = c.loop-i in
    let a = c.args in
    let s = c.scores_of-s in
    let v : c.score_at-v.result ≡ score_at a.page.now l.i = score_same a.page.now s.result
    s.ensures l.i c.score_at-v.result
    c.score_at-v.ensures in
    let e : c.mark.new.marks ≡ marked a.start (score_at a.page.now l.i).id l.marks = c.mark.ensures ∙
    ap (λ (x : ScoreValue). marked a.start x.id l.marks) v in (rw e (steps_more (λ k. marked a.start (score_at a.page.now k).id) s.result.count l.i l.marks (omega arith) ∙
    l.invariant))

pub returns : goal.returns
returns c = let l = c.loop-i in
    let a = c.args in
    let s = c.scores_of-s in
    sym (steps-done (λ k. marked a.start (score_at a.page.now k).id) s.result.count l.i l.marks (omega arith)) ∙ l.invariant ∙
    page_marked a.since a.start a.page.now a.marks.now c.sequence.result
    c.sequence.ensures c.if-sequence-since.false s.result.count s.ensures.count
