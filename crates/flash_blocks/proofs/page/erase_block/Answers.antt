-- `page::erase_block` meets its contract: the part filled is 32 blank pages. Assumes nothing.
use mathlib.Core.Path.{refl, ap, ◌∙◌}
use Prim.Native.Nat.{◌+◌, ◌*◌}
use native.Mathlib.Omega.{arith}
use Rattle.flash_blocks.specs.Pages.{pages_of}
use Rattle.flash_blocks.proofs.Laws.{erase_bytes, erase_pages}
use Rattle.flash_blocks.proofs.page.erase_block.Goals as goal

pub returns : goal.returns
returns c =
    let a = c.args in
    let to = 16384 * a.block + 16384 in (
      ap pages_of c.fill_part.ensures ∙ erase_pages a.pool.now a.block to refl (omega arith),
      c.fill_part.ensures ∙ erase_bytes a.pool.now a.block to refl,
    )
