use mathlib.Core.Path.{◌≡◌}
use Prim.Native.Nat.{◌-◌, ◌*◌, ◌≤◌}
use Rattle.laws.specs.Counts.{count}
use Rattle.mount_sequences.specs.Row.{row}
use Rattle.mount_sequences.specs.Strict.{is}
use Rattle.mount_sequences.proofs.find.has.Given as goal

abbrev pub invariant-loop-low : goal.invariant-loop-low
invariant-loop-low l = ((l.low ≤ l.high) × (l.high ≤ l.n)) ×
    ((count (is l.v) (row l.low 0 l.table) ≡ 0) × (count (is l.v) (row (l.n - l.high) (4 * l.high) l.table) ≡ 0))

abbrev pub decreases-loop-low : goal.decreases-loop-low
decreases-loop-low l = l.high - l.low
