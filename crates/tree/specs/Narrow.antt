-- A node request whose numbers are 32-bit. Assumes nothing.
use Rattle.node.specs.Narrow.{Narrow, NarrowChange}
use Rattle.tree.specs.NodeRequest.{NodeRequest, read, edit, rewrite, create}

abbrev pub NarrowRequest : NodeRequest → Type 0
NarrowRequest (read id) = Unit {0}
NarrowRequest (edit id c) = NarrowChange c
NarrowRequest (rewrite id n) = Narrow n
NarrowRequest (create id n) = Narrow n
