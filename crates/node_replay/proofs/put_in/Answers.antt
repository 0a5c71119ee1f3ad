-- `node_replay::put_in` meets its contract: the search says whether the key is there; a 25th key breaks the draft. Assumes nothing.
use Rattle.std.proofs.Common.{rules, ◌≡◌, refl, ◌∙◌, ◌+◌, arith}
use Rattle.node.specs.Found.{found}
use Rattle.node.specs.Value.{pairs_in}
use Rattle.node.specs.Edits.{at-inside, above-inside}
use Rattle.node_replay.specs.Outline.{node_from, redone_replaced, redone_added, redone_overfull, redone_fits, redone_uncounted}
use Rattle.node_replay.proofs.put_in.Goals as goal
use Rattle.node_replay.proofs.put_in.Goals.{After-find_behind}

-- What the search answers is what is found in the draft's pairs.
answer : (c : After-find_behind) →
    let a = c.args in
    found a.key (pairs_in (node_from a.outline a.keys.now a.pointers.now)) ≡ c.find_behind.result
answer c = let a = c.args in
    c.find_behind.ensures.is (node_from a.outline a.keys.now a.pointers.now) c.requires refl refl

pub offset_bounds-pointers-i : goal.offset_bounds-pointers-i
offset_bounds-pointers-i c =
    let a = c.args in
    let e = answer (goal.at.offset_bounds-pointers-i c).After-find_behind ∙ c.in-Ok.is in
    omega (arith, at-inside (node_from a.outline a.keys.now a.pointers.now) c.requires a.key _ e, c.requires.sized.size)

pub bounds-pointers-i : goal.bounds-pointers-i
bounds-pointers-i c =
    let a = c.args in
    let e = answer (goal.at.bounds-pointers-i c).After-find_behind ∙ c.in-Ok.is in
    omega (arith, at-inside (node_from a.outline a.keys.now a.pointers.now) c.requires a.key _ e, c.requires.sized.size)

pub returns-in-Ok : goal.returns-in-Ok
returns-in-Ok c =
    let a = c.args in
    let e = answer (goal.at.returns-in-Ok c).After-find_behind ∙ c.in-Ok.is in
    redone_fits a.outline a.outline.count c.requires.sized.size _ _ _
    (redone_replaced a.outline a.keys.now a.pointers.now c.requires a.key _ a.pointer (search rules) e)

pub insert-requires : goal.insert-requires
insert-requires c =
    let a = c.args in
    let e = answer (goal.at.insert-requires c).After-find_behind ∙ c.in-Err.is in
    (above-inside (node_from a.outline a.keys.now a.pointers.now) c.requires a.key _ e, c.if-count-lt-MOST_KEYS.true, c.requires.sized.key_room)

pub insert-requires-in-Err : goal.insert-requires-in-Err
insert-requires-in-Err c =
    let a = c.args in
    let e = answer (goal.at.insert-requires-in-Err c).After-find_behind ∙ c.in-Err.is in (
      above-inside (node_from a.outline a.keys.now a.pointers.now) c.requires a.key _ e,
      c.if-count-lt-MOST_KEYS.true,
      c.requires.sized.pointer_room,
    )

pub returns-in-Err : goal.returns-in-Err
returns-in-Err c =
    let a = c.args in
    let e = answer (goal.at.returns-in-Err c).After-find_behind ∙ c.in-Err.is in
    let keys = c.insert in
    let pointers = c.insert-in-Err in
    redone_fits a.outline (a.outline.count + 1) (omega (arith, c.if-count-lt-MOST_KEYS.true)) _ _ _
    (redone_added a.outline a.keys.now a.pointers.now c.requires a.key _ a.pointer e (search rules)
    c.if-count-lt-MOST_KEYS.true keys.new.a pointers.new.a keys.ensures pointers.ensures)

pub returns-in-Err-2 : goal.returns-in-Err-2
returns-in-Err-2 c =
    let a = c.args in
    let e = answer (goal.at.returns-in-Err-2 c).After-find_behind ∙ c.in-Err.is in
    redone_uncounted a.outline _ _ _
    (redone_overfull a.outline a.keys.now a.pointers.now c.requires a.key _ a.pointer e c.if-count-lt-MOST_KEYS.false)
