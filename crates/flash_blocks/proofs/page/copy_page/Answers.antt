-- `page::copy_page` meets its contract: the page read, then put. Assumes nothing.
use mathlib.Core.Path.{ap, ◌∙◌}
use mathlib.Core.List.{List}
use Prim.Native.Nat.{ℕ}
use lib.ListN.{set}
use Rattle.flash_blocks.specs.Pages.{pages_of, copied}
use Rattle.flash_blocks.proofs.page.copy_page.Goals as goal

pub returns : goal.returns
unfolding copied
returns c =
    let a = c.args in
    c.put_page.ensures.0 ∙ ap (λ (p : List ℕ). set (pages_of a.pool.now) a.to p) c.read_page-bytes.ensures
