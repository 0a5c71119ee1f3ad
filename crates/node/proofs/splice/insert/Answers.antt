-- `node::splice::insert` meets its contract: the values from the place on are copied up by one, and the new one is stored. Assumes nothing.
use Rattle.std.proofs.Common.{arith, length-set}
use Rattle.node.proofs.Copied.{insert_at-copied}
use Rattle.node.proofs.splice.insert.Goals as goal

pub returns : goal.returns
returns c =
    let a = c.args in
    let copy = c.copy_within.ensures in (
      insert_at-copied a.a.now c.copy_within.new.self a.count a.at copy.len a.x c.requires.0 (omega arith) copy.by_index.0 copy.by_index.1,
      simp length-set (omega arith),
    )
