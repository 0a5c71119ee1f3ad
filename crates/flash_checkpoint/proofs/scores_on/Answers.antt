-- `scores_on` meets its contract: up to the next checkpoint page, or up to the last node. Assumes nothing.
use Rattle.flash_checkpoint.proofs.Laws.{size_min}
use Rattle.flash_checkpoint.proofs.scores_on.Goals as goal

pub returns : goal.returns
returns c = let a = c.args in
    size_min a.k a.nodes c.scores_before.result c.scores_before.ensures c.requires.1 c.min-end.result c.min-end.ensures
