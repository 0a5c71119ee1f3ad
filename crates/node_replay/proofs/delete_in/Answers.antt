-- `node_replay::delete_in` meets its contract: the search says whether the key is there, and the pair at its place goes. Assumes nothing.
use Rattle.std.proofs.Common.{◌≡◌, refl, ◌∙◌, ◌-◌, arith}
use Rattle.node.specs.Found.{found}
use Rattle.node.specs.Value.{pairs_in}
use Rattle.node.specs.Edits.{at-inside}
use Rattle.node_replay.specs.Outline.{node_from, redone_removed, redone_kept, redone_fits}
use Rattle.node_replay.proofs.delete_in.Goals as goal
use Rattle.node_replay.proofs.delete_in.Goals.{After-find_in_replay}

-- What the search answers is what is found in the draft's pairs.
answer : (c : After-find_in_replay) →
    let a = c.args in
    found a.key (pairs_in (node_from a.outline a.keys.now a.pointers.now)) ≡ c.find_in_replay.result
answer c = let a = c.args in
    c.find_in_replay.ensures.is (node_from a.outline a.keys.now a.pointers.now) c.requires refl refl

pub remove-requires : goal.remove-requires
remove-requires c =
    let a = c.args in
    let e = answer (goal.at.remove-requires c).After-find_in_replay ∙ c.in-Ok.is in
    (at-inside (node_from a.outline a.keys.now a.pointers.now) c.requires a.key _ e, c.requires.sized.size, c.requires.sized.key_room)

pub remove-requires-in-Ok : goal.remove-requires-in-Ok
remove-requires-in-Ok c =
    let a = c.args in
    let e = answer (goal.at.remove-requires-in-Ok c).After-find_in_replay ∙ c.in-Ok.is in
    (at-inside (node_from a.outline a.keys.now a.pointers.now) c.requires a.key _ e, c.requires.sized.size, c.requires.sized.pointer_room)

pub overflow_sub-result : goal.overflow_sub-result
overflow_sub-result c =
    let a = c.args in
    let e = answer (goal.at.overflow_sub-result c).After-find_in_replay ∙ c.in-Ok.is in
    omega (arith, at-inside (node_from a.outline a.keys.now a.pointers.now) c.requires a.key _ e)

pub returns-in-Ok : goal.returns-in-Ok
returns-in-Ok c =
    let a = c.args in
    let e = answer (goal.at.returns-in-Ok c).After-find_in_replay ∙ c.in-Ok.is in
    let keys = c.remove in
    let pointers = c.remove-in-Ok in
    redone_fits a.outline (a.outline.count - 1) (omega (arith, c.requires.sized.size)) _ _ _
    (redone_removed a.outline a.keys.now a.pointers.now c.requires a.key _ e keys.new.a pointers.new.a keys.ensures pointers.ensures)

pub returns-in-Err : goal.returns-in-Err
returns-in-Err c =
    let a = c.args in
    redone_fits a.outline a.outline.count c.requires.sized.size _ _ _
    (redone_kept a.outline a.keys.now a.pointers.now c.requires a.key _ (answer (goal.at.returns-in-Err c).After-find_in_replay ∙ c.in-Err.is))
