-- `entry::lay_change` meets its contract: the numbers of the change laid as an entry. Assumes nothing.
use mathlib.Core.Path.{ap, ◌∙◌}
use Prim.Native.Nat.{◌*◌}
use native.Mathlib.Omega.{arith}
use Rattle.laws.specs.Lay.{lay}
use Rattle.node.specs.Drafts.{change_of}
use Rattle.page.specs.Image.{entry_bytes}
use Rattle.page.specs.Spelled.{length-entry_bytes}
use Rattle.flash_rows.specs.Worktable.{table_from}
use Rattle.flash_rows.specs.WorktableLaws.{laid_buffer}
use Rattle.flash_log.specs.Entry.{entry_of}
use Rattle.flash_log.proofs.Laws.{record_entry}
use Rattle.flash_log.proofs.entry.lay_change.Goals as goal

pub returns : goal.returns
returns c =
    let a = c.args in
    let long = c.requires.1 in
    let bytes = entry_bytes (entry_of a.id a.version (change_of a.change)) in
    ap table_from (c.lay_entry.ensures ∙
    ap (lay a.table.now (15 * a.n))
    (record_entry a.id a.version (change_of a.change) c.numbers-kind.result.0 c.numbers-kind.result.1 c.numbers-kind.result.2
    (ap (λ p. p.0) c.numbers-kind.ensures) (ap (λ p. p.1) c.numbers-kind.ensures) (ap (λ p. p.2) c.numbers-kind.ensures))) ∙
    laid_buffer a.table.now long (15 * a.n) bytes (omega (arith, length-entry_bytes (entry_of a.id a.version (change_of a.change))))
