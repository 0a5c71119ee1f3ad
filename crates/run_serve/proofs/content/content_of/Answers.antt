-- `content::content_of` meets its contract: the draft read, and its node. Assumes nothing.
use mathlib.Core.Path.{ap}
use Rattle.store.specs.Store.{node_in}
use Rattle.run_serve.specs.Content.{content_of}
use Rattle.run_serve.proofs.Laws.{becomes_is}
use Rattle.run_serve.proofs.content.content_of.Goals as goal

pub returns : goal.returns
unfolding content_of
returns c = becomes_is c.node_in.ensures (ap node_in c.content.ensures.is)
