-- The invariant: the fields passed and the run of what is left make the run of all. Assumes nothing.
use Rattle.std.proofs.Common.{◌≡◌, ◌≤◌, ◌+◌, sym, ap, refl, ◌∙◌, zero-add, mul-zero, mul-le-mul_left, mul-suc, add-one, arith}
use Rattle.std.proofs.Math.Nat.{sub-zero}
use Rattle.std.proofs.iter.Next.{says_at}
use Rattle.page_read.specs.Steps.{run_more, run_stop, run-full}
use Rattle.page_read.proofs.field.count_fields.Goals as goal

pub loop-n-init : goal.loop-n-init
loop-n-init g c = let a = c.args in
    record { place = omega (arith, mul-zero a.size); so_far = λ test says. rw (sub-zero, zero-add) refl }

pub overflow_add-at : goal.overflow_add-at
overflow_add-at g c =
    let l = c.loop-n in
    let h : l.n + 1 ≤ c.args.most = omega arith in
    omega (arith, mul-le-mul_left c.args.size h, mul-suc c.args.size l.n, add-one l.n)

pub returns-then-not-passes : goal.returns-then-not-passes
returns-then-not-passes g c =
    let l = c.loop-n in
    let a = c.args in (
      λ test says.
          sym (run_stop test a.tag a.size a.most a.page.now l.n l.at (omega arith)
          (ap test (sym c.payload.ensures) ∙ sym (says _ _ (says_at g.F.Fn c.passes.ensures refl)) ∙ c.if-not-passes.true)) ∙
          l.invariant.so_far test says,
      omega arith,
    )

pub loop-n-preserved : goal.loop-n-preserved
loop-n-preserved g c =
    let l = c.loop-n in
    let a = c.args in
    record {
      place = omega (arith, mul-suc a.size l.n, add-one l.n);
      so_far = λ test says.
          run_more test a.tag a.size a.most a.page.now l.n l.at (omega arith)
          (ap test (sym c.payload.ensures) ∙ sym (says _ _ (says_at g.F.Fn c.passes.ensures refl)) ∙ c.if-not-passes.false) ∙
          l.invariant.so_far test says;
    }

pub returns : goal.returns
returns g c =
    let l = c.loop-n in
    let a = c.args in
    let e : a.most ≡ l.n = omega arith in
    (λ test says. e ∙ sym (run-full test a.tag a.size a.most a.page.now l.n l.at (omega arith)) ∙ l.invariant.so_far test says, omega arith)
