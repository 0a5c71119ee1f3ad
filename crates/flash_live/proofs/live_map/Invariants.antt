use mathlib.Core.Path.{◌≡◌}
use Prim.Native.Nat.{◌-◌}
use lib.ListN.{replicate}
use Rattle.laws.specs.Loops.{steps}
use Rattle.flash_rows.specs.Row.{rows_of}
use Rattle.flash_live.specs.Live.{mark_nth}
use Rattle.flash_live.specs.Bits.{marks_in}
use Rattle.flash_live.proofs.live_map.Given as goal

abbrev pub invariant-loop-n : goal.invariant-loop-n
invariant-loop-n l = steps (mark_nth (rows_of l.table)) (l.used - l.n) l.n (marks_in l.live) ≡ steps (mark_nth (rows_of l.table)) l.used 0 (replicate 2048 0)
