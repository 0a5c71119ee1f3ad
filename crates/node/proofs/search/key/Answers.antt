-- `node::search::key` meets its contract: the key of a pair is the array's. Assumes nothing.
use Rattle.std.proofs.Common.{sym}
use Rattle.node.specs.Value.{key_at-pairs_in}
use Rattle.node.proofs.search.key.Goals as goal

pub returns : goal.returns
returns c =
    sym (key_at-pairs_in c.args.v c.requires.0 c.args.at c.requires.1)
