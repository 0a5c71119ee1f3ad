-- `node::edit::put` meets its contract: the search says whether the key is there, and at its place the pointer is replaced or the pair
-- added. Assumes nothing.
use Rattle.std.proofs.Common.{sym, ◌∙◌, arith, rules}
use Rattle.node.specs.Edits.{at-inside, above-inside, length-put-above, becomes_added, becomes_replaced}
use Rattle.node.proofs.edit.put.Goals as goal

pub repointed-requires : goal.repointed-requires
repointed-requires c =
    let e = sym c.find.ensures ∙ c.in-Ok.is in
    (c.requires.0.sized, at-inside c.args.v c.requires.0 c.args.key _ e)

pub added-requires : goal.added-requires
added-requires c =
    let a = c.args in
    let e = sym c.find.ensures ∙ c.in-Err.is in (
      c.requires.0.sized,
      above-inside a.v c.requires.0 a.key _ e,
      omega (arith, c.requires.1, length-put-above a.v c.requires.0 a.key _ a.pointer e),
    )

pub returns-in-Ok : goal.returns-in-Ok
returns-in-Ok c =
    let a = c.args in
    let e = sym c.find.ensures ∙ c.in-Ok.is in
    becomes_replaced a.v c.repointed.result c.requires.0 a.key _ a.pointer (search rules) e c.repointed.ensures

pub returns-in-Err : goal.returns-in-Err
returns-in-Err c =
    let a = c.args in
    let e = sym c.find.ensures ∙ c.in-Err.is in
    becomes_added a.v c.added.result c.requires.0 a.key _ a.pointer (search rules) e c.added.ensures
