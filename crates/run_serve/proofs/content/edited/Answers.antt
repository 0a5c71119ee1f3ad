-- `content::edited` meets its contract: the change redone on the content as a draft, and its node. Assumes nothing.
use mathlib.Core.Path.{ap}
use Rattle.store.specs.Store.{node_in}
use Rattle.run_serve.specs.Content.{edited_of}
use Rattle.run_serve.proofs.Laws.{becomes_is}
use Rattle.run_serve.proofs.content.edited.Goals as goal

pub returns : goal.returns
unfolding edited_of
returns c = becomes_is c.node_in.ensures (ap node_in c.redo.ensures.is)
