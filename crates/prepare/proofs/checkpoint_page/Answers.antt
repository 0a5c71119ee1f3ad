-- `checkpoint_page` meets its contract: six zero bytes spell the score 0 of node 0. Assumes nothing.
use mathlib.Core.Path.{ap, ◌∙◌}
use Rattle.page.specs.Image.{image}
use Rattle.prepare.proofs.Laws.{checkpoint_page_lem}
use Rattle.prepare.proofs.checkpoint_page.Goals as goal

pub returns : goal.returns
returns c = c.checkpoint_image.ensures ∙ ap image (checkpoint_page_lem c.args.tariff)
