-- `node_split::upper` meets its contract: its arrays are the last 13 or 12 of those with the new pair. Assumes nothing.
use Rattle.std.proofs.Common.{arith, rules}
use Rattle.node_split.specs.Split.{becomes_upper}
use Rattle.node_split.proofs.upper.Goals as goal

pub returns : goal.returns
returns c =
    let a = c.args in
    let from = c.upper_from-from in
    let keys = c.values_from in
    let pointers = c.values_from-2 in
    becomes_upper a.v a.at a.key a.pointer c.requires from.result _ keys.result pointers.result (search rules)
    from.ensures.0 (omega (arith, from.ensures)) (omega (arith, from.ensures))
    keys.ensures.0 pointers.ensures.0 keys.ensures.1 pointers.ensures.1
