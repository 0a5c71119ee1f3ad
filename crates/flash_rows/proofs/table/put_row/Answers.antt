-- The row set in the rows, which come back to their place. Assumes nothing.
use mathlib.Core.Path.{ap, ◌∙◌}
use mathlib.Core.List.{List}
use native.Mathlib.Omega.{arith}
use lib.ListN.{set}
use Rattle.flash_rows.specs.declared.Row.{Row}
use Rattle.flash_rows.specs.Worktable.{table_from, with_rows}
use Rattle.flash_rows.specs.WorktableLaws.{rows-part, lent_rows}
use Rattle.flash_rows.proofs.table.put_row.Goals as goal

pub returns : goal.returns
returns c =
    let a = c.args in
    lent_rows a.table.now (omega arith) c.write.new.table c.write.auto.table ∙
    ap (λ (rows : List Row). with_rows rows (table_from a.table.now))
    (c.write.ensures ∙ ap (λ (rows : List Row). set rows a.n a.r) (rows-part a.table.now (omega arith)))
