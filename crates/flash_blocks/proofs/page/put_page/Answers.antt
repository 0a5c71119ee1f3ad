-- `page::put_page` meets its contract: the part that was lent comes back as the image, which is a page set. Assumes nothing.
use mathlib.Core.Path.{◌≡◌, refl, ap, ◌∙◌}
use Prim.Native.Nat.{◌+◌, ◌*◌}
use native.Mathlib.Omega.{arith}
use lib.ListN.{length}
use Rattle.flash_blocks.specs.Pages.{pages_of}
use Rattle.flash_blocks.proofs.Laws.{lay-pages, lent_page}
use Rattle.flash_blocks.proofs.page.put_page.Goals as goal

pub returns : goal.returns
returns c =
    let a = c.args in
    let p = c.fill_page in
    let whole : length a.image.now ≡ 512 = omega (arith, ap length p.ensures) in
    let is = lent_page a.pool.now a.page c.requires p.new.part a.image.now p.ensures whole (512 * a.page + 512) refl in
    (ap pages_of is ∙ lay-pages a.pool.now a.page c.requires a.image.now whole, is)
