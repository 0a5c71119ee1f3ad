-- `node::edit::relinked` meets its contract: the arrays and the count are the same, so the pairs are. Assumes nothing.
use Rattle.node.specs.Edits.{becomes_linked}
use Rattle.node.proofs.edit.relinked.Goals as goal

pub returns : goal.returns
returns c = becomes_linked c.args.v c.requires c.args.v.shape c.args.to
