-- `page_write::node_page::node_image` meets its contract. The page laid over FF. Assumes nothing.
use mathlib.Core.Path.{◌∙◌}
use Rattle.page_write.specs.Laid.{summed-blank}
use Rattle.page_write.specs.Pages.{node_page, body_of, image-sealed}
use Rattle.page_write.proofs.node_page.node_image.Goals as goal

pub returns : goal.returns
returns c = let a = c.args in
    let p = node_page a.sequence a.id a.shape a.n a.keys.now a.pointers.now a.link in
    c.lay_node.ensures ∙ summed-blank 512 (body_of p) ∙ image-sealed p
