use mathlib.Core.Path.{◌≡◌}
use Prim.Native.Nat.{◌+◌, ◌*◌, ◌≤◌}
use lib.ListN.{drop}
use Rattle.wire.specs.Sum.{total, running}
use Rattle.wire.proofs.sum.sum_columns.Given as goal

abbrev pub invariant-loop-j : goal.invariant-loop-j
invariant-loop-j l = (running 0 l.low ≤ 16 * total l.low) ×
    ((l.a + total (drop l.j l.low) ≡ total l.low) × ((l.b + running 0 (drop l.j l.low) ≡ running 0 l.low) × (l.c + total (drop l.j l.high) ≡ l.rows + total l.high)))
