use Rattle.std.proofs.Common.{◌≡◌, drop}
use Rattle.node.specs.Ascends.{ascends}
use Rattle.node.specs.Value.{pairs_in}
use Rattle.node.proofs.search.ascends.Given as goal

abbrev pub invariant-loop-key : goal.invariant-loop-key
invariant-loop-key l = ascends l.least l.high (drop l.key-index (pairs_in l.fn.v)) ≡ ascends l.fn.low l.high (pairs_in l.fn.v)
