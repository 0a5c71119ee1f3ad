-- `node_page::node_page_at` meets its contract: a page in the pool, none behind its end. Assumes nothing.
use Rattle.std.proofs.Common.{sym, ◌∙◌, ltb-false}
use Rattle.flash_blocks.specs.Pages.{pages_of}
use Rattle.flash_blocks.proofs.Laws.{page_inside}
use Rattle.flash_read.proofs.Laws.{redone_none, node_in_lem, node_behind}
use Rattle.flash_read.proofs.node_page.node_page_at.Goals as goal

pub page_part-requires : goal.page_part-requires
page_part-requires c = page_inside c.args.pool.now c.from-place.result (sym c.has_page.ensures ∙ c.if-not-has_page.false)

pub returns : goal.returns
returns c =
    let a = c.args in
    let here = node_in_lem (pages_of a.pool.now) c.from-place.result c.page_part.result.now c.page_part.ensures.0 in
    rw (← c.from-place.ensures, ← here) c.read_node.ensures

pub returns-then-not-has_page : goal.returns-then-not-has_page
returns-then-not-has_page c =
    let a = c.args in
    redone_none c.no_node.result c.no_node.ensures a.keys.now a.pointers.now c.requires _
    (node_behind (pages_of a.pool.now) a.page (rw c.from-place.ensures at (ltb-false _ _ (sym c.has_page.ensures ∙ c.if-not-has_page.true))))
