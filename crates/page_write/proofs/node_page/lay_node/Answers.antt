-- `page_write::node_page::lay_node` meets its contract. Field 10, field 11 up to its pairs, the pairs and the sums laid one
-- behind another. Assumes nothing.
use mathlib.Core.Path.{◌≡◌, ◌∙◌}
use Prim.Native.Nat.{◌+◌, ◌*◌}
use native.Mathlib.Omega.{arith}
use Rattle.laws.specs.Lay.{lay}
use Rattle.page_write.specs.Laid.{summed-laid}
use Rattle.page_write.specs.Pages.{node_page, body_of}
use Rattle.page_write.specs.Parts.{node_laid, length_node_body}
use Rattle.page_write.proofs.node_page.lay_node.Goals as goal

pub returns : goal.returns
returns c =
    let a = c.args in
    let body = body_of (node_page a.sequence a.id a.shape a.n a.keys.now a.pointers.now a.link) in
    let e : c.lay_pairs.new.p ≡ lay a.p.now 0 body =
    c.lay_pairs.ensures ∙
    rw (c.lay_node_head.ensures, c.lay_sequence.ensures)
    (node_laid a.p.now a.sequence a.id a.shape a.n a.keys.now a.pointers.now a.link (omega (arith, c.requires))) in
    c.lay_sums.ensures ∙
    rw e (summed-laid a.p.now body (17 + 8 * a.n) (length_node_body a.sequence a.id a.shape a.n a.keys.now a.pointers.now a.link))
