use Rattle.std.proofs.Common.{◌≡◌, ◌+◌, ◌-◌, ◌*◌}
use Rattle.laws.specs.Lay.{lay}
use Rattle.page.specs.Image.{pairs_bytes}
use Rattle.page_write.specs.Pages.{first_pairs}
use Rattle.page_write.proofs.node_page.lay_pairs.Given as goal

abbrev pub invariant-loop-i : goal.invariant-loop-i
invariant-loop-i l =
    lay l.p (l.at + 8 * l.i) (pairs_bytes (first_pairs (l.n - l.i) l.keys l.pointers l.i)) ≡
    lay l.initial.p l.at (pairs_bytes (first_pairs l.n l.keys l.pointers 0))
