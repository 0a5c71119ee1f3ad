-- `page_write::node_page::lay_node_head` meets its contract. Four pieces laid one behind another. Assumes nothing.
use mathlib.Core.Path.{◌∙◌}
use native.Mathlib.Omega.{arith}
use Rattle.page_write.specs.Parts.{node_head-laid}
use Rattle.page_write.proofs.node_page.lay_node_head.Goals as goal

pub returns : goal.returns
returns c =
    let a = c.args in
    c.write32.ensures ∙
    rw (
      c.lay_byte.ensures,
      c.write16.ensures,
      c.lay_head.ensures,
    )
    (node_head-laid a.p.now a.at a.id
    c.shape_number.result
    a.shape a.link a.n (omega arith)
    c.shape_number.ensures)
