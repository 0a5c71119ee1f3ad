-- `node_split::value_at` meets its contract: before the place, at it and behind it. Assumes nothing.
use Rattle.std.proofs.Common.{◌≡◌, ◌<◌, ℕ, get_or, sym, ap, ◌∙◌, arith}
use Rattle.std.proofs.lemmas.Grind.{common_steps}
use Rattle.node.specs.Splice.{insert_at, get_or-insert_at-before, get_or-insert_at_same, get_or-insert_at-after}
use Rattle.node_split.proofs.value_at.Goals as goal

pub returns-in-Less : goal.returns-in-Less
returns-in-Less c =
    let a = c.args in
    let less : a.i < a.at = grind (arith, common_steps) in
    sym (get_or-insert_at-before a.x 0 a.at a.i a.a.now less (omega arith))

pub returns-in-Equal : goal.returns-in-Equal
returns-in-Equal c =
    let a = c.args in
    let same : a.i ≡ a.at = grind (arith, common_steps) in
    sym (ap (λ (j : ℕ). get_or (insert_at a.at a.x a.a.now) j 0) same ∙ get_or-insert_at_same a.x 0 a.at a.a.now (omega arith))

pub returns-in-Greater : goal.returns-in-Greater
returns-in-Greater c =
    let a = c.args in
    let more : a.at < a.i = grind (arith, common_steps) in
    sym (get_or-insert_at-after a.x 0 a.at a.i a.a.now more (omega arith))
