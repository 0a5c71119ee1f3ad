-- `node::edit::repointed` meets its contract: the pointers have one stored, so the pairs have the pair there with its own key. Assumes nothing.
use Rattle.node.specs.Edits.{stands_repointed}
use Rattle.node.proofs.edit.repointed.Goals as goal

pub returns : goal.returns
returns c =
    stands_repointed c.args.v c.requires.0 c.args.at c.args.pointer c.requires.1
