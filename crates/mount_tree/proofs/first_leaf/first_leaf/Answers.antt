-- `first_leaf::first_leaf` meets its contract: what is left of the search gives the whole. Assumes nothing.
use Rattle.std.proofs.Common.{◌≡◌, sym, ap, ◌∙◌, ◌+◌, arith, take}
use Rattle.flash_blocks.specs.Pages.{pages_of}
use Rattle.flash_rows.specs.Worktable.{table_from}
use Rattle.node.specs.declared.Shape.{Shape}
use Rattle.node.specs.Node.{node}
use Rattle.node.specs.Value.{pairs_in}
use Rattle.flash_read.specs.NodeTable.{table_of}
use Rattle.mount_tree.specs.FirstLeaf.{search_from, search_start, search_end, search_leaf, search_branch}
use Rattle.mount_tree.proofs.first_leaf.first_leaf.Goals as goal

pub loop-depth-init : goal.loop-depth-init
loop-depth-init c = search_start _ _

pub overflow_cast-nodes : goal.overflow_cast-nodes
overflow_cast-nodes c = omega (arith, c.requires.0.nodes)

pub returns-in-Leaf : goal.returns-in-Leaf
returns-in-Leaf c =
    let a = c.args in
    let nodes = table_of (pages_of a.pool.now) (table_from (take a.kept a.table.now)) a.state in
    let turn = c.loop-depth in
    let v = c.node_of-v.result in
    let is = sym c.node_of-v.ensures.is ∙ ap (λ (k : Shape). node k (pairs_in v) v.link) c.in-Leaf.is in
    sym (search_leaf a.state.nodes nodes turn.depth turn.leaf (pairs_in v) v.link is) ∙ turn.invariant

pub loop-depth-preserved : goal.loop-depth-preserved
loop-depth-preserved c =
    let a = c.args in
    let nodes = table_of (pages_of a.pool.now) (table_from (take a.kept a.table.now)) a.state in
    let turn = c.loop-depth in
    let v = c.node_of-v.result in
    let is = sym c.node_of-v.ensures.is ∙ ap (λ (k : Shape). node k (pairs_in v) v.link) c.in-Branch.is in
    ap (search_from a.state.nodes nodes (turn.depth + 1)) c.pointer-leaf.ensures ∙
    sym (search_branch a.state.nodes nodes turn.depth turn.leaf (pairs_in v) v.link (omega arith) is) ∙ turn.invariant

pub returns : goal.returns
returns c =
    let turn = c.loop-depth in
    let n = c.args.state.nodes in
    let end : turn.depth ≡ n = omega arith in
    sym (search_end n _ n turn.leaf (omega arith)) ∙ rw end at turn.invariant
