use mathlib.Core.Path.{◌≡◌}
use Prim.Native.Nat.{◌+◌, ◌-◌, ◌≤◌}
use Rattle.laws.specs.Loops.{sum_from}
use Rattle.flash_live.specs.Live.{live_bit}
use Rattle.flash_live.specs.Bits.{marks_in}
use Rattle.flash_live.proofs.count_live.Given as goal

abbrev pub invariant-loop-k : goal.invariant-loop-k
invariant-loop-k l =
    (l.n ≤ l.k) × (l.n + sum_from (live_bit (marks_in l.live) l.block) (32 - l.k) l.k ≡ sum_from (live_bit (marks_in l.live) l.block) 32 0)
