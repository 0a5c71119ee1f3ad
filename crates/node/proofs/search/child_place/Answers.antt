-- `node::search::child_place` meets its contract: the keys up to the wanted one stand in front of the place. Assumes nothing.
use Rattle.std.proofs.Common.{rules, leb}
use Rattle.std.proofs.lemmas.List.Sorted.{IsPartitionPoint-from_clause}
use Rattle.node.proofs.Searched.{keys-partitioned, child_place-partitioned}
use Rattle.node.proofs.search.child_place.Goals as goal

pub returns : goal.returns
returns c =
    let a = c.args in
    let facts = c.partition_point.ensures in
    child_place-partitioned a.v c.requires a.key c.partition_point.result facts.bound
    (IsPartitionPoint-from_clause (λ y. leb y a.key) _ _ facts.partitioned (keys-partitioned a.v c.requires a.key) (λ x r g called. search rules))
