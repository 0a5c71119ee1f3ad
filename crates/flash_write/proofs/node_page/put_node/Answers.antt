-- `node_page::put_node` meets its contract: the image of the node's pairs, written. Assumes nothing.
use mathlib.Core.Path.{◌≡◌, ap, ◌∙◌}
use mathlib.Core.List.{List}
use Rattle.pairs.specs.Pairs.{Pair}
use Rattle.node.specs.Node.{node}
use Rattle.node.specs.Value.{node_of}
use Rattle.page.specs.Page.{page, whole}
use Rattle.page.specs.Image.{image}
use Rattle.page_write.specs.Pages.{node_page}
use Rattle.flash_write.proofs.Laws.{pairs_first}
use Rattle.flash_write.proofs.node_page.put_node.Goals as goal

pub returns : goal.returns
unfolding node_page
returns c =
    let a = c.args in
    let i : c.node_image-bytes.result ≡ image (page a.number (whole a.id (node_of a.v))) =
    c.node_image-bytes.ensures ∙
    ap (λ (ps : List Pair). image (page a.number (whole a.id (node a.v.shape ps a.v.link)))) (pairs_first a.v c.requires.2) in
    rw (← i) c.put_page.ensures.0
