use mathlib.Core.Path.{◌≡◌}
use lib.ListN.{length}
use Rattle.run_scan.specs.Laid.{pairs_laid}
use Rattle.run_scan.proofs.answer.lay_scan.Given as goal

abbrev pub invariant-loop-i : goal.invariant-loop-i
invariant-loop-i l = (length l.buffer ≡ length l.initial.buffer) × (l.buffer ≡ pairs_laid l.initial.buffer l.at l.pairs l.i)
