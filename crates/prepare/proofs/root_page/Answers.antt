-- `root_page` meets its contract: a buffer of one entry, as a log page. Assumes nothing.
use mathlib.Core.Path.{◌∙◌}
use Rattle.prepare.proofs.Laws.{root-image}
use Rattle.prepare.proofs.root_page.Goals as goal

pub returns : goal.returns
returns c = c.log_image.ensures ∙ root-image c.lay_entry.new.buffer c.lay_entry.ensures
