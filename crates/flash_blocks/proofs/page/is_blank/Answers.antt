-- `page::is_blank` meets its contract: the first byte of the page is the byte read. Assumes nothing.
use mathlib.Core.Path.{ap}
use Rattle.flash_blocks.specs.Pages.{is_blank}
use Rattle.flash_blocks.proofs.page.is_blank.Goals as goal

pub returns : goal.returns
unfolding is_blank
returns c = ap is_blank c.page_part.ensures.0
