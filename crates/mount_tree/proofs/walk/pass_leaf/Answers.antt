-- `walk::pass_leaf` meets its contract: the leaf is marked, and what is due behind it is left. Assumes nothing.
use Rattle.mount_tree.specs.Visit.{next-inside, step_leaf}
use Rattle.mount_tree.proofs.walk.pass_leaf.Goals as goal

pub mark-requires : goal.mark-requires
mark-requires c = let a = c.args in
    let given = c.requires.0 in
    (given.room, next-inside a.kept a.nodes a.table.now a.v a.due a.w given)

pub returns : goal.returns
returns c =
    λ tree is.
    let a = c.args in
    step_leaf tree a.kept a.nodes a.table.now a.w a.v a.due is c.requires.0 c.requires.1 c.mark.new.table c.mark.ensures
