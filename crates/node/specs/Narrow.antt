-- Numbers stay 32-bit: keys, values, pointers and links of every node and of every change (document 01: a log entry's key and
-- pointer, a node's link and pairs have four bytes each). Assumes nothing.
use Rattle.std.specs.Prelude.{◌<◌}
use Rattle.laws.specs.Every.{Every}
use Rattle.layout.specs.Layout.{bound32}
use Rattle.pairs.specs.Pairs.{Pair}
use Rattle.node.specs.Node.{Node, pairs_of, link_of}
use Rattle.node.specs.Change.{Change, put, remove, link}

abbrev pub NarrowPair : Pair → Type 0
NarrowPair p = (p.0 < bound32) × (p.1 < bound32)

pub record Narrow (n : Node) : Type 0 where
  pub pairs : Every NarrowPair (pairs_of n)
  pub last : link_of n < bound32

abbrev pub NarrowChange : Change → Type 0
NarrowChange (put k p) = (k < bound32) × (p < bound32)
NarrowChange (remove k) = k < bound32
NarrowChange (link shape p) = p < bound32
