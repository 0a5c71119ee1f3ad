-- `pieces::see_entries` meets its contract. The invariant: the entries left, met from here, give the page's. Assumes nothing.
use Rattle.std.proofs.Common.{◌≡◌, refl, sym, ap, ◌∙◌, List, ℕ, ◌+◌, ◌-◌, ◌*◌, arith, length}
use Rattle.flash_rows.specs.Row.{rows_of}
use Rattle.mount_rows.specs.Pieces.{seen_entry, seen_run}
use Rattle.mount_rows.proofs.Laws.{run_more, run_stop, run-done}
use Rattle.mount_rows.proofs.pieces.see_entries.Goals as goal

pub loop-i-init : goal.loop-i-init
loop-i-init c = refl

pub returns-then-entry-ne-ENTRY_BYTES : goal.returns-then-entry-ne-ENTRY_BYTES
returns-then-entry-ne-ENTRY_BYTES c =
    let a = c.args in
    let l = c.loop-i in
    sym (run_stop a.nodes a.page a.bytes.now (27 - l.i) (7 + 18 * l.i) (rows_of l.table) (omega arith)
    (λ e. c.if-entry-ne-ENTRY_BYTES.true (ap length c.payload-entry.ensures ∙ e))) ∙ l.invariant

pub loop-i-preserved : goal.loop-i-preserved
loop-i-preserved c =
    let a = c.args in
    let l = c.loop-i in
    let p = c.payload-entry in
    let x = c.see_entry in
    let fewer : 27 - (l.i + 1) ≡ 27 - l.i - 1 = omega arith in
    let next : 7 + 18 * (l.i + 1) ≡ 7 + 18 * l.i + 18 = omega arith in
    rw (fewer, next)
    (ap (seen_run a.nodes a.page (27 - l.i - 1) a.bytes.now (7 + 18 * l.i + 18))
    (x.ensures ∙ ap (λ (b : List ℕ). seen_entry a.nodes a.page b (rows_of l.table)) p.ensures) ∙
    run_more a.nodes a.page a.bytes.now (27 - l.i) (7 + 18 * l.i) (rows_of l.table) (omega arith)
    (sym (ap length p.ensures) ∙ c.if-entry-ne-ENTRY_BYTES.false) ∙ l.invariant)

pub returns : goal.returns
returns c =
    let a = c.args in
    let l = c.loop-i in
    sym (run-done a.nodes a.page a.bytes.now (27 - l.i) (7 + 18 * l.i) (rows_of l.table) (omega arith)) ∙ l.invariant
