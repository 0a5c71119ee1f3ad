use mathlib.Core.Path.{◌≡◌}
use Prim.Native.Nat.{◌-◌}
use Rattle.laws.specs.Loops.{steps}
use Rattle.mount_checkpoint.specs.Marks.{score_at, marked, mark_scores}
use Rattle.mount_checkpoint.proofs.marks.mark_page.Given as goal

abbrev pub invariant-loop-i : goal.invariant-loop-i
invariant-loop-i l = (steps (λ k. marked l.start (score_at l.page k).id)
    (l.s.count - l.i) l.i l.marks ≡ mark_scores l.start l.page l.s.count l.initial.marks)
