-- `node::search::pointer` meets its contract: the pointer of a pair is the array's, and behind all pairs it is the link. Assumes nothing.
use Rattle.std.proofs.Common.{sym, arith}
use Rattle.node.specs.Search.{pointer_at-last}
use Rattle.node.specs.Value.{pairs_in, pointer_at-pairs_in, length-pairs_in}
use Rattle.node.proofs.search.pointer.Goals as goal

pub returns-then-at-v : goal.returns-then-at-v
returns-then-at-v c =
    let v = c.args.v in
    sym (pointer_at-pairs_in v c.requires v.link c.args.at c.if-at-v.true)

pub returns-else-at-v : goal.returns-else-at-v
returns-else-at-v c =
    let v = c.args.v in
    sym (pointer_at-last (pairs_in v) v.link c.args.at (omega (arith, length-pairs_in v c.requires, c.if-at-v.false)))
