-- `page::has_page` meets its contract: a pool has a page for every 512 bytes. Assumes nothing.
use mathlib.Core.Path.{ap, sym}
use lib.Dec.{ltb}
use Rattle.flash_blocks.proofs.Laws.{length-pages}
use Rattle.flash_blocks.proofs.page.has_page.Goals as goal

pub returns : goal.returns
returns c = ap (ltb c.args.page) (sym (length-pages c.args.pool.now))
