-- `checkpoint_image` meets its contract. The page laid over FF. Assumes nothing.
use mathlib.Core.Path.{◌∙◌}
use Rattle.page_write.specs.Laid.{summed-blank}
use Rattle.page_checkpoint.specs.Checkpoint.{records_page}
use Rattle.page_write.specs.Pages.{body_of, image-sealed}
use Rattle.page_checkpoint.proofs.checkpoint_image.Goals as goal

pub returns : goal.returns
returns c = let a = c.args in
    let p = records_page a.sequence a.tariff a.n a.records.now a.count in
    c.lay_checkpoint.ensures ∙ summed-blank 512 (body_of p) ∙ image-sealed p
