-- `node::search::find` meets its contract: what std's search finds in the keys is found in the node. Assumes nothing.
use Rattle.node.proofs.Searched.{found-searched}
use Rattle.node.proofs.search.find.Goals as goal

pub returns : goal.returns
returns c = found-searched c.args.v c.requires c.args.key c.binary_search.result c.binary_search.ensures.position
