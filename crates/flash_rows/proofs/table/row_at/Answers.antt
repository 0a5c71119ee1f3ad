-- A row of the part that holds the rows. Assumes nothing.
use mathlib.Core.Path.{ap, ◌∙◌}
use mathlib.Core.List.{List}
use native.Mathlib.Omega.{arith}
use lib.ListN.{get_or}
use Rattle.flash_rows.specs.declared.Row.{Row}
use Rattle.flash_rows.specs.Row.{no_row}
use Rattle.flash_rows.specs.WorktableLaws.{rows-part}
use Rattle.flash_rows.proofs.table.row_at.Goals as goal

pub returns : goal.returns
returns c =
    let a = c.args in
    c.read.ensures ∙ ap (λ (rows : List Row). get_or rows a.n no_row) (rows-part a.table.now (omega arith))
