-- `node::edit::pointed` meets its contract: at a key its pointer is replaced, behind all keys the link. Assumes nothing.
use Rattle.node.specs.Repoint.{becomes_repointed, becomes_last}
use Rattle.node.proofs.edit.pointed.Goals as goal

pub returns-then-at-v : goal.returns-then-at-v
returns-then-at-v c =
    becomes_repointed c.args.v c.repointed.result c.requires c.args.at c.args.pointer
    c.if-at-v.true c.repointed.ensures

pub returns-else-at-v : goal.returns-else-at-v
returns-else-at-v c =
    becomes_last c.args.v c.relinked.result c.requires c.args.at c.args.pointer c.if-at-v.false c.relinked.ensures
