-- The invariant: the fields of the records that are left, laid over the page as it is, give what is to come out. Assumes nothing.
use Rattle.std.proofs.Common.{◌≡◌, ◌≤◌, ◌+◌, ◌-◌, ◌*◌, refl, sym, ◌∙◌, length, mul-zero, add-zero, mul-suc, add-one, mul-le-mul_left, arith}
use Rattle.std.proofs.Math.Nat.{sub-zero}
use Rattle.laws.specs.Lay.{part-lent}
use Rattle.page_write.specs.Chunks.{run-next, run_end}
use Rattle.page_write.proofs.frame.lay_run.Goals as goal

pub loop-k-init : goal.loop-k-init
loop-k-init c = rw (mul-zero, mul-zero, add-zero, sub-zero) refl

pub loop-k-preserved : goal.loop-k-preserved
loop-k-preserved c =
    let l = c.loop-k in
    let a = c.args in
    let from = a.size * l.k in
    let place = a.at + (3 + a.size) * l.k in
    let more : l.k + 1 ≤ a.n = omega arith in
    let e₁ : a.at + (3 + a.size) * (l.k + 1) ≡ place + (3 + a.size) = omega (arith, add-one l.k, mul-suc (3 + a.size) l.k) in
    let e₂ : a.size * (l.k + 1) ≡ from + a.size = omega (arith, add-one l.k, mul-suc a.size l.k) in
    let e₃ : a.n - (l.k + 1) ≡ a.n - l.k - 1 = omega arith in
    let r : from + a.size ≤ length a.records.now = omega (arith, mul-le-mul_left a.size more, e₂) in
    let p : place ≤ length l.p = omega (arith, mul-le-mul_left (3 + a.size) more, e₁) in
    rw (e₁, e₂, e₃, c.lay_field.ensures, part-lent a.records.now from (from + a.size) a.size refl)
    (run-next a.tag a.size (a.n - l.k) l.p a.records.now place from (omega arith) p r ∙ l.invariant)

pub returns : goal.returns
returns c =
    let l = c.loop-k in
    let a = c.args in
    sym (run_end a.tag a.size (a.n - l.k) l.p a.records.now (a.at + (3 + a.size) * l.k) (a.size * l.k) (omega arith)) ∙ l.invariant
