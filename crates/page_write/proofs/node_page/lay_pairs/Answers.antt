-- The invariant: the pairs that are left, laid over the page as it is, give what is to come out. Assumes nothing.
use Rattle.std.proofs.Common.{◌≡◌, ◌+◌, ◌-◌, ◌*◌, sym, ◌∙◌, arith}
use Rattle.page_write.specs.Parts.{pairs_next, pairs_end}
use Rattle.page_write.proofs.node_page.lay_pairs.Goals as goal

pub loop-i-preserved : goal.loop-i-preserved
loop-i-preserved c =
    let l = c.loop-i in
    let a = c.args in
    let e₁ : a.at + 8 * (l.i + 1) ≡ a.at + 8 * l.i + 8 = omega arith in
    let e₂ : a.n - (l.i + 1) ≡ a.n - l.i - 1 = omega arith in
    rw (e₁, e₂, c.write32-in-loop-i.ensures, c.write32.ensures)
    (pairs_next (a.n - l.i) l.p a.keys.now a.pointers.now (a.at + 8 * l.i) l.i (omega arith) (omega arith) ∙ l.invariant)

pub returns : goal.returns
returns c =
    let l = c.loop-i in
    let a = c.args in
    sym (pairs_end (a.n - l.i) l.p a.keys.now a.pointers.now (a.at + 8 * l.i) l.i (omega arith)) ∙ l.invariant
