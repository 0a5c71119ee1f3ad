-- `claim::claim_entry` meets its contract: id and version read from the buffer, the row loaded, its claim stored. Assumes nothing.
use mathlib.Core.Path.{refl, ap, ◌∙◌}
use mathlib.Core.List.{List}
use Prim.Native.Nat.{ℕ, ◌+◌, ◌*◌}
use Rattle.laws.specs.BigEndian.{number_at}
use Rattle.flash_rows.specs.declared.Row.{Row}
use Rattle.flash_rows.specs.Step.{settled}
use Rattle.flash_rows.specs.Worktable.{buffer_of, rows_in, table_from, with_rows}
use Rattle.flash_log.proofs.Laws.{claim_in, claim_out}
use Rattle.flash_log.proofs.claim.claim_entry.Goals as goal

pub returns-then-id-nodes : goal.returns-then-id-nodes
returns-then-id-nodes c =
    let a = c.args in
    let i = c.read16-id in
    let v = c.read32-version in
    let l = c.row_at-row in
    let x = c.claim in
    let buffer = c.buffer_part-buffer.ensures.0 in
    let rows = rows_in a.table.now in
    c.store_claim.ensures ∙
    ap (λ (r : List Row). with_rows r (table_from a.table.now))
    (claim_in (buffer_of a.table.now) a.nodes a.page a.k rows (settled x.result i.result rows) i.result v.result l.result x.result
    (i.ensures.is ∙ ap (λ (b : List ℕ). number_at 2 b (15 * a.k)) buffer)
    (v.ensures.is ∙ ap (λ (b : List ℕ). number_at 4 b (15 * a.k + 2)) buffer)
    c.if-id-nodes.true l.ensures x.ensures refl)

pub returns-else-id-nodes : goal.returns-else-id-nodes
returns-else-id-nodes c =
    let a = c.args in
    ap (λ (r : List Row). with_rows r (table_from a.table.now))
    (claim_out (buffer_of a.table.now) a.nodes a.page a.k (rows_in a.table.now) c.read16-id.result
    (c.read16-id.ensures.is ∙ ap (λ (b : List ℕ). number_at 2 b (15 * a.k)) c.buffer_part-buffer.ensures.0) c.if-id-nodes.false)
