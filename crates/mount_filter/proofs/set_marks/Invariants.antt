use Rattle.std.proofs.Common.{◌≡◌}
use Rattle.mount_sequences.specs.Row.{row}
use Rattle.mount_filter.specs.Marks.{Tells}
use Rattle.mount_filter.proofs.set_marks.Given as goal

abbrev pub invariant-loop-i : goal.invariant-loop-i
invariant-loop-i l = (row l.n 0 l.table ≡ row l.n 0 l.initial.table) × Tells l.blocks l.i l.table
