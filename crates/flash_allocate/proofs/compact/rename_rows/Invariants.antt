use mathlib.Core.Path.{◌≡◌}
use Prim.Native.Nat.{◌-◌}
use Rattle.laws.specs.Loops.{steps}
use Rattle.flash_rows.specs.Row.{rows_of}
use Rattle.flash_allocate.specs.Compact.{rename_row}
use Rattle.flash_allocate.proofs.compact.rename_rows.Given as goal

abbrev pub invariant-loop-n : goal.invariant-loop-n
invariant-loop-n l = steps (rename_row l.base l.places) (l.used - l.n) l.n (rows_of l.table) ≡ steps (rename_row l.base l.places) l.used 0 (rows_of l.initial.table)
