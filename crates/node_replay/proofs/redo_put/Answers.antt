-- `node_replay::redo_put` meets its contract: a key behind all others, the first key, or any other once they are moved to the front. Assumes nothing.
use Rattle.std.proofs.Common.{rules}
use Rattle.node_replay.specs.Outline.{redone_behind, redone_front, redone_counted}
use Rattle.node_replay.proofs.redo_put.Goals as goal

pub returns-then-is_behind : goal.returns-then-is_behind
returns-then-is_behind c =
    let a = c.args in
    let b = c.is_behind.ensures in
    redone_behind a.outline a.keys.now a.pointers.now c.requires a.key a.pointer (search rules) (b.room c.if-is_behind.true)
    (b.above c.if-is_behind.true)

pub returns-then-is_first : goal.returns-then-is_first
returns-then-is_first c =
    let a = c.args in
    let f = c.is_first.ensures in
    redone_front a.outline a.keys.now a.pointers.now c.requires a.key (f.some c.if-is_first.true) (f.same c.if-is_first.true) a.pointer
    (search rules)

pub returns : goal.returns
returns c =
    let s = c.settle.ensures in
    rw c.counted.ensures (redone_counted c.args.outline c.put_in.result _ _ _ (rw (s.0, s.1) at c.put_in.ensures))
