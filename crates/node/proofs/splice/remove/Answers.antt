-- `node::splice::remove` meets its contract: the values behind the place are copied down by one. Assumes nothing.
use Rattle.std.proofs.Common.{arith}
use Rattle.node.proofs.Copied.{remove_at-copied}
use Rattle.node.proofs.splice.remove.Goals as goal

pub returns : goal.returns
returns c =
    let a = c.args in
    let copy = c.copy_within.ensures in (
      remove_at-copied a.a.now c.copy_within.new.self a.count a.at copy.len c.requires.0 (omega arith) copy.by_index.0 copy.by_index.1,
      omega arith,
    )
