-- `node_split::values_from` meets its contract: the first `i` values are those of the part. Assumes nothing.
use Rattle.std.proofs.Common.{length-set, arith}
use Rattle.node.specs.Splice.{insert_at, length-insert_at}
use Rattle.node_split.specs.Split.{part-turn}
use Rattle.node_split.proofs.values_from.Goals as goal

pub loop-i-preserved : goal.loop-i-preserved
loop-i-preserved c =
    let a = c.args in
    let turn = c.loop-i in
    let whole = length-insert_at a.at a.x a.a.now in (
      simp length-set turn.invariant.0,
      part-turn (insert_at a.at a.x a.a.now) turn.b a.from turn.i c.value_at.result (omega arith) (omega arith) c.value_at.ensures turn.invariant.1,
    )
