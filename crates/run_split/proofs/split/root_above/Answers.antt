-- `split::root_above` meets its contract: one pair put into an empty branch. Assumes nothing.
use Rattle.run_split.proofs.Laws.{one_pair, put-room}
use Rattle.run_split.proofs.split.root_above.Goals as goal

pub put-requires : goal.put-requires
put-requires c = (c.empty_node.ensures.held, put-room _ _ _ _ c.empty_node.ensures.is)

pub returns : goal.returns
returns c = one_pair _ _ _ _ _ c.empty_node.ensures.is c.put.ensures
