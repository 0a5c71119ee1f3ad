use Rattle.std.proofs.Common.{◌≡◌, ◌*◌, ◌≤◌}
use Rattle.laws.specs.Lay.{part}
use Rattle.page.specs.Decode.{all_blank}
use Rattle.page_read.specs.Blank.{added_up}
use Rattle.page_read.proofs.seal.sixteen_blank.Given as goal

abbrev pub invariant-loop-k : goal.invariant-loop-k
invariant-loop-k l = (l.sum ≤ 255 * l.k) × (added_up l.s l.at 16 l.sum l.k ≡ all_blank (part l.s l.at 16))
