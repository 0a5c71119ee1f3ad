-- `write_first` meets its contract: three writes, one behind another. Assumes nothing.
use lib.ListN.{length}
use Rattle.prepare.proofs.Laws.{first-written}
use Rattle.prepare.proofs.write_first.Goals as goal

pub returns : goal.returns
returns c =
    let a = c.args in
    let erased = c.erase_all in
    let one = c.put_page in
    let two = c.put_page-2 in
    first-written (length a.pool.now) a.root.now a.checkpoint.now erased.new.pool one.new.pool two.new.pool
    erased.ensures one.ensures.1 two.ensures.1
