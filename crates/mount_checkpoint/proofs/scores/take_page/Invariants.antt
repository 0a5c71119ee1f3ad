use mathlib.Core.Path.{◌≡◌}
use Prim.Native.Nat.{◌-◌}
use Rattle.laws.specs.Loops.{steps}
use Rattle.flash_rows.specs.Row.{rows_of}
use Rattle.mount_checkpoint.specs.Marks.{score_at}
use Rattle.mount_checkpoint.specs.Scores.{score_taken, take_scores}
use Rattle.mount_checkpoint.proofs.scores.take_page.Given as goal

abbrev pub invariant-loop-i : goal.invariant-loop-i
invariant-loop-i l = (steps (λ k. score_taken l.nodes (score_at l.page k).id
    (score_at l.page k).score) (l.s.count - l.i) l.i (rows_of l.table) ≡ take_scores l.nodes l.page l.s.count (rows_of l.initial.table))
