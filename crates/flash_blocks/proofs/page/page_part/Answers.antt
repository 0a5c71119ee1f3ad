-- `page::page_part` meets its contract: the part of the pool is the chunk of the page. Assumes nothing.
use mathlib.Core.Path.{ap, ◌∙◌}
use Prim.Native.Nat.{◌+◌, ◌-◌, ◌*◌}
use native.Mathlib.Omega.{arith}
use lib.ListN.{length}
use Rattle.flash_blocks.proofs.Laws.{page_part, length_page}
use Rattle.flash_blocks.proofs.page.page_part.Goals as goal

pub returns : goal.returns
returns c =
    let a = c.args in
    let is = page_part a.pool.now a.page c.requires (512 * a.page + 512 - 512 * a.page) (omega arith) in
    (is, ap length is ∙ length_page a.pool.now a.page c.requires)
