-- `page_write::log_page::log_image` meets its contract. The page laid over FF. Assumes nothing.
use mathlib.Core.Path.{◌∙◌}
use Rattle.page_write.specs.Laid.{summed-blank}
use Rattle.page_write.specs.Pages.{log_body, log_image}
use Rattle.page_write.proofs.log_page.log_image.Goals as goal

pub returns : goal.returns
unfolding log_image
returns c = let a = c.args in
    c.lay_log.ensures ∙ summed-blank 512 (log_body a.sequence a.n a.buffer.now)
