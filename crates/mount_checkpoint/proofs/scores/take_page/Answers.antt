-- `scores::take_page` meets its contract. The invariant: the scores left, taken from here, give the rows of all. Assumes nothing.
use mathlib.Core.Path.{◌≡◌, sym, ap, ◌∙◌}
use native.Mathlib.Omega.{arith}
use Rattle.laws.specs.Loops.{steps-begin, steps_more, steps-done}
use Rattle.flash_rows.specs.Row.{rows_of}
use Rattle.page_read.specs.declared.value.ScoreValue.{ScoreValue}
use Rattle.mount_checkpoint.specs.Marks.{score_at}
use Rattle.mount_checkpoint.specs.Scores.{score_taken, take_scores}
use Rattle.mount_checkpoint.proofs.Laws.{score_same, page_untaken, page_taken}
use Rattle.mount_checkpoint.proofs.scores.take_page.Goals as goal

pub sequence-requires : goal.sequence-requires
sequence-requires c = tt

pub returns-then-sequence-since : goal.returns-then-sequence-since
returns-then-sequence-since c = let a = c.args in
    page_untaken a.since a.nodes a.page.now (rows_of a.table.now) c.sequence.result c.sequence.ensures
    c.if-sequence-since.true

pub scores_of-s-requires : goal.scores_of-s-requires
scores_of-s-requires c = tt

pub loop-i-init : goal.loop-i-init
unfolding take_scores
loop-i-init c = let a = c.args in (steps-begin (λ k. score_taken a.nodes (score_at a.page.now k).id (score_at a.page.now k).score)
    c.scores_of-s.result.count (rows_of a.table.now))

pub score_at-v-requires : goal.score_at-v-requires
score_at-v-requires c = let s = c.scores_of-s.ensures in
    (s.near, omega (arith, s.few))

pub loop-i-preserved : goal.loop-i-preserved
loop-i-preserved c = let l = c.loop-i in
    let a = c.args in
    let s = c.scores_of-s in
    let b = a.page.now in
    let v : c.score_at-v.result ≡ score_at b l.i = score_same b s.result s.ensures l.i
    c.score_at-v.result c.score_at-v.ensures in
    let e : rows_of c.take_score.new.table ≡ score_taken a.nodes (score_at b l.i).id (score_at b l.i).score
    (rows_of l.table) = c.take_score.ensures ∙
    ap (λ (x : ScoreValue). score_taken a.nodes x.id x.score (rows_of l.table)) v in (rw e (steps_more (λ k. score_taken a.nodes (score_at b k).id (score_at b k).score) s.result.count l.i (rows_of l.table)
    (omega arith) ∙ l.invariant))

pub returns : goal.returns
returns c = let l = c.loop-i in
    let a = c.args in
    let s = c.scores_of-s in
    sym (steps-done (λ k. score_taken a.nodes (score_at a.page.now k).id (score_at a.page.now k).score) s.result.count l.i
    (rows_of l.table) (omega arith)) ∙ l.invariant ∙
    page_taken a.since a.nodes a.page.now (rows_of a.table.now) c.sequence.result
    c.sequence.ensures c.if-sequence-since.false s.result.count s.ensures.count
