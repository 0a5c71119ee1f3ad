use Rattle.std.proofs.Common.{◌≡◌, length, take, drop}
use Rattle.node.specs.Splice.{insert_at}
use Rattle.node_split.proofs.values_from.Given as goal

abbrev pub invariant-loop-i : goal.invariant-loop-i
invariant-loop-i l = (length l.b ≡ 24) × (take l.i l.b ≡ take l.i (drop l.from (insert_at l.at l.x l.a)))
