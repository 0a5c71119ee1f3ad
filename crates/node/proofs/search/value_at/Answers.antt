-- `node::search::value_at` meets its contract: the pointer at the place that the search finds, or nothing. Assumes nothing.
use Rattle.std.proofs.Common.{sym, ◌∙◌}
use Rattle.node.specs.Value.{value_there, value_missing}
use Rattle.node.proofs.search.value_at.Goals as goal

pub returns-in-Ok : goal.returns-in-Ok
returns-in-Ok c = value_there c.args.v c.requires c.args.key _ c.pointer.result (sym c.find.ensures ∙ c.in-Ok.is) c.pointer.ensures

pub returns-in-Err : goal.returns-in-Err
returns-in-Err c = value_missing c.args.v c.requires c.args.key _ (sym c.find.ensures ∙ c.in-Err.is)
