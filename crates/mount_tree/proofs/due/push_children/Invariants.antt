use mathlib.Core.Path.{◌≡◌}
use mathlib.Core.List.{◌++◌}
use Prim.Native.Nat.{◌+◌, ◌≤◌}
use lib.ListN.{length, drop}
use Rattle.node.specs.Value.{pairs_in}
use Rattle.mount_tree.specs.Due.{dues_of, children_of}
use Rattle.mount_tree.proofs.due.push_children.Given as goal

abbrev pub invariant-loop-left : goal.invariant-loop-left
invariant-loop-left l = ((l.left ≤ l.v.count + 1) × (length l.stack ≡ length l.initial.stack)) ×
    (drop (l.base + l.left) (dues_of l.stack) ≡
    drop l.left (children_of l.depth (pairs_in l.v) l.v.link l.high) ++ drop (l.base + l.v.count + 1) (dues_of l.initial.stack))

abbrev pub decreases-loop-left : goal.decreases-loop-left
decreases-loop-left l = l.left
