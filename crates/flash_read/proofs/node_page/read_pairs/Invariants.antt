use Rattle.std.proofs.Common.{◌≡◌, ◌++◌, ◌+◌, ◌-◌, ◌*◌, ◌≤◌, length, take}
use Rattle.layout.specs.Layout.{bound32}
use Rattle.node.specs.Ascends.{ascends}
use Rattle.node.specs.Splice.{zip}
use Rattle.page.specs.Decode as decode
use Rattle.flash_read.proofs.node_page.read_pairs.Given as goal

abbrev pub invariant-loop-i : goal.invariant-loop-i
invariant-loop-i l = (l.i ≤ l.n) ×
    ((length l.keys ≡ 24) × ((length l.pointers ≡ 24) ×
    ((zip (take l.i l.keys) (take l.i l.pointers) ++ decode.pairs_from (l.n - l.i) l.p (7 + 8 * l.i) ≡ decode.pairs_from l.n l.p 7) ×
    (ascends l.least bound32 (decode.pairs_from (l.n - l.i) l.p (7 + 8 * l.i)) ≡ ascends 0 bound32 (decode.pairs_from l.n l.p 7)))))
