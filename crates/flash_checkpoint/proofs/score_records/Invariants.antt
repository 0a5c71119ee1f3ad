use mathlib.Core.Path.{◌≡◌}
use Prim.Native.Nat.{◌+◌, ◌-◌, ◌*◌}
use lib.ListN.{length, replicate}
use Rattle.laws.specs.Lay.{lay}
use Rattle.flash_rows.specs.Worktable.{rows_in}
use Rattle.flash_checkpoint.specs.Scores.{scores_of, scores_bytes}
use Rattle.flash_checkpoint.proofs.score_records.Given as goal

abbrev pub invariant-loop-i : goal.invariant-loop-i
invariant-loop-i l = (length l.records ≡ 324) ×
    (lay l.records (6 * l.i) (scores_bytes (scores_of (rows_in l.table) (l.from + l.i) (l.n - l.i))) ≡ lay (replicate 324 0) 0
    (scores_bytes (scores_of (rows_in l.table) l.from l.n)))
