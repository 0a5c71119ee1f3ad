use Rattle.std.proofs.Common.{◌≡◌, ◌+◌, ◌-◌, ◌*◌}
use Rattle.laws.specs.Lay.{lay}
use Rattle.page.specs.Image.{fields}
use Rattle.page_write.specs.Chunks.{chunks}
use Rattle.page_write.proofs.frame.lay_run.Given as goal

abbrev pub invariant-loop-k : goal.invariant-loop-k
invariant-loop-k l =
    lay l.p (l.at + (3 + l.size) * l.k) (fields l.tag (chunks l.size (l.n - l.k) l.records (l.size * l.k))) ≡
    lay l.initial.p l.at (fields l.tag (chunks l.size l.n l.records 0))
