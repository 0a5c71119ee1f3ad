use mathlib.Core.Path.{◌≡◌}
use Prim.Native.Nat.{◌+◌, ◌*◌, ◌≤◌, ◌-◌}
use lib.ListN.{length, take}
use Rattle.wire.specs.declared.sum.Sums.{Sums}
use Rattle.wire.specs.Sum.{plain_sums}
use Rattle.wire.proofs.sum.sum_bytes.Given as goal

abbrev pub invariant-loop-i : goal.invariant-loop-i
invariant-loop-i l = ((l.i ≤ length l.s) × ((l.a ≤ 1 + 255 * l.i) × (l.b ≤ 1044481 * l.i))) ×
    (◌≡◌ {A = Sums} (record { a = l.a; b = l.b }) (plain_sums (take l.i l.s)))

abbrev pub decreases-loop-i : goal.decreases-loop-i
decreases-loop-i l = length l.s - l.i
