-- `node::search::find_in_replay` meets its contract. The invariant: the key before `low` is below the wanted one, and the key at `high` above
-- it. Assumes nothing.
use Rattle.std.proofs.Common.{◌≡◌, ◌+◌, ◌/◌, arith}
use Rattle.node.specs.FoundIn.{found_in_at, found_in_above}
use Rattle.node.proofs.search.find_in_replay.Goals as goal

pub returns-then-other-key : goal.returns-then-other-key
returns-then-other-key c =
    let a = c.args in
    let turn = c.loop-low in
    found_in_at a.keys.now a.count a.key ((turn.low + turn.high) / 2) (omega arith) c.if-other-key.true

pub returns : goal.returns
returns c =
    let a = c.args in
    let turn = c.loop-low in
    let same : turn.low ≡ turn.high = omega arith in
    found_in_above a.keys.now a.count a.key turn.low (omega arith) turn.invariant.1.0
    (λ z. rw same (turn.invariant.1.1 (omega arith)))
