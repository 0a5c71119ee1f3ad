-- `node_split::middle` meets its contract: the 13th of the keys with the new one is the 13th pair's. Assumes nothing.
use Rattle.std.proofs.Common.{◌∙◌}
use Rattle.node.specs.Halves.{middle_key}
use Rattle.node_split.specs.Split.{get_or-keys25}
use Rattle.node_split.proofs.middle.Goals as goal

pub returns : goal.returns
unfolding middle_key
returns c = c.value_at.ensures ∙ get_or-keys25 c.args.v c.args.at c.args.key c.args.pointer c.requires 12
