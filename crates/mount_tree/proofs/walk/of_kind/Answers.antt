-- `walk::of_kind` meets its contract: a branch above the bottom has a key. Assumes nothing.
use Rattle.std.proofs.Common.{sym, ap, ◌∙◌, leb}
use Rattle.node.specs.declared.Shape.{Shape}
use Rattle.node.specs.Node.{node}
use Rattle.node.specs.Value.{pairs_in, node_of, length-pairs_in}
use Rattle.mount_tree.specs.Passes.{kind_keyed}
use Rattle.mount_tree.proofs.walk.of_kind.Goals as goal

pub returns-then-due-ne0 : goal.returns-then-due-ne0
returns-then-due-ne0 c =
    let a = c.args in
    ap (leb 1) (sym (length-pairs_in a.v c.requires)) ∙
    kind_keyed a.due.id a.awaited (pairs_in a.v) a.v.link a.due.depth (node_of a.v)
    (ap (λ (k : Shape). node k (pairs_in a.v) a.v.link) c.in-Branch.is) c.if-due-ne0.true
