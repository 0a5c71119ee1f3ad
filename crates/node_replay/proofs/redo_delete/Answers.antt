-- `node_replay::redo_delete` meets its contract: the first key goes by the place alone; for another the keys are moved to the front. Assumes nothing.
use Rattle.std.proofs.Common.{Some}
use Rattle.node_replay.specs.Outline.{redone_ahead, redone_counted}
use Rattle.node_replay.proofs.redo_delete.Goals as goal

pub returns-then-is_first : goal.returns-then-is_first
returns-then-is_first c =
    let a = c.args in
    let f = c.is_first.ensures in
    redone_ahead a.outline a.keys.now a.pointers.now c.requires a.key (f.some c.if-is_first.true) (f.same c.if-is_first.true)

pub returns : goal.returns
returns c =
    let s = c.settle.ensures in
    rw c.counted.ensures (redone_counted c.args.outline (Some c.delete_in.result) _ _ _ (rw (s.0, s.1) at c.delete_in.ensures))
