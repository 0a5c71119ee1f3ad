-- `versions::is_new_version` meets its contract. The invariant: the entries left are apart exactly where all of the page are. Assumes nothing.
use Rattle.std.proofs.Common.{◌≡◌, ◌+◌, ◌-◌, ◌*◌, refl, sym, ap, ◌∙◌, arith}
use Rattle.mount_sequences.specs.Row.{row}
use Rattle.mount_sequences.specs.Find.{has}
use Rattle.mount_pages.specs.Versions.{apart_on, apart_more, apart_hit, apart_stop, apart_done}
use Rattle.mount_pages.proofs.versions.is_new_version.Goals as goal

pub loop-i-init : goal.loop-i-init
loop-i-init c = refl

pub returns-then-page-at-ne-ENTRY : goal.returns-then-page-at-ne-ENTRY
unfolding apart_on
returns-then-page-at-ne-ENTRY c =
    let a = c.args in
    let i = c.loop-i.i in
    apart_stop (has (row a.n 0 a.table.now)) a.page.now (7 + 18 * i) (27 - i) (omega arith) c.if-page-at-ne-ENTRY.true
    ∙ c.loop-i.invariant

pub returns-then-has_marked : goal.returns-then-has_marked
unfolding apart_on
returns-then-has_marked c =
    let a = c.args in
    let i = c.loop-i.i in
    let h = has (row a.n 0 a.table.now) in
    apart_hit h a.page.now (7 + 18 * i) (27 - i) (omega arith) c.if-page-at-ne-ENTRY.false
    (ap h (sym c.read32.ensures.is) ∙ sym c.has_marked.ensures ∙ c.if-has_marked.true) ∙ c.loop-i.invariant

pub loop-i-preserved : goal.loop-i-preserved
loop-i-preserved c =
    let a = c.args in
    let i = c.loop-i.i in
    let h = has (row a.n 0 a.table.now) in
    let fewer : 27 - (i + 1) ≡ 27 - i - 1 = omega arith in
    let next : 7 + 18 * (i + 1) ≡ 7 + 18 * i + 18 = omega arith in
    rw (fewer, next)
    (apart_more h a.page.now (7 + 18 * i) (27 - i) (omega arith) c.if-page-at-ne-ENTRY.false
    (ap h (sym c.read32.ensures.is) ∙ sym c.has_marked.ensures ∙ c.if-has_marked.false) ∙ c.loop-i.invariant)

pub returns : goal.returns
unfolding apart_on
returns c =
    let a = c.args in
    let i = c.loop-i.i in
    apart_done (has (row a.n 0 a.table.now)) a.page.now (7 + 18 * i) (27 - i) (omega arith) ∙ c.loop-i.invariant
