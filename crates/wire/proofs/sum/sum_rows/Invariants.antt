use Rattle.wire.proofs.Columns.{row, Columns, Adding}
use Rattle.wire.proofs.sum.sum_rows.Given as goal

abbrev pub invariant-loop-j : goal.invariant-loop-j
invariant-loop-j l = Adding (row l.k l.s) l.initial.low l.initial.high l.low l.high l.j

abbrev pub invariant-loop-k : goal.invariant-loop-k
invariant-loop-k l = Columns l.s l.k l.low l.high
