-- `compact::rename_rows` meets its contract. The invariant: renaming the rows left gives all rows renamed. Assumes nothing.
use mathlib.Core.Path.{sym, ◌∙◌}
use native.Mathlib.Omega.{arith}
use Rattle.laws.specs.Loops.{steps-begin, steps_more, steps-done}
use Rattle.flash_rows.specs.Row.{rows_of}
use Rattle.flash_allocate.specs.Compact.{rename_row, rename_rows}
use Rattle.flash_allocate.proofs.compact.rename_rows.Goals as goal

pub loop-n-init : goal.loop-n-init
loop-n-init c = let a = c.args in
    steps-begin (rename_row a.base a.places.now) a.used (rows_of a.table.now)

pub loop-n-preserved : goal.loop-n-preserved
unfolding rename_row
loop-n-preserved c = let l = c.loop-n in
    let a = c.args in
    rw (c.write.ensures, c.moved.ensures, c.read-r.ensures)
    (steps_more (rename_row a.base a.places.now) a.used l.n (rows_of l.table) (omega arith) ∙ l.invariant)

pub returns : goal.returns
unfolding rename_rows
returns c = let l = c.loop-n in
    let a = c.args in
    sym (steps-done (rename_row a.base a.places.now) a.used l.n (rows_of l.table) (omega arith)) ∙ l.invariant
