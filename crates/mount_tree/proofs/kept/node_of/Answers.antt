-- `kept::node_of` meets its contract: the kept bytes are lent as they are. Assumes nothing.
use mathlib.Core.Path.{sym}
use lib.Seq.{length-take-le}
use Rattle.mount_tree.proofs.kept.node_of.Goals as goal

pub slice_bounds-node_at-end : goal.slice_bounds-node_at-end
slice_bounds-node_at-end c = let a = c.args in sym (length-take-le a.kept a.table.now c.requires.1)
