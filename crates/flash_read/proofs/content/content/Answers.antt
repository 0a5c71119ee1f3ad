-- `content::content` meets its contract: the row loaded, then read by it. Assumes nothing.
use Rattle.flash_read.specs.Content.{content}
use Rattle.flash_read.proofs.content.content.Goals as goal

pub returns : goal.returns
unfolding content
returns c = rw (← c.row_at.ensures, ← c.buffer_part.ensures.0) c.content_by.ensures
