-- `fit::fit` meets its contract: the search says whether the key is there, and the count whether there is room. Assumes nothing.
use Rattle.std.proofs.Common.{sym, ◌∙◌, arith}
use Rattle.node.specs.Value.{pairs_in, length-pairs_in}
use Rattle.node.specs.Fit.{fit_at, fit_room, fit_full}
use Rattle.node.proofs.fit.fit.Goals as goal

pub returns-in-Err : goal.returns-in-Err
returns-in-Err c =
    let a = c.args in
    sym (fit_full a.key (pairs_in a.v) _ (sym c.find.ensures ∙ c.in-Err.is) (omega (arith, length-pairs_in a.v c.requires.sized)))

pub returns-in_default : goal.returns-in_default
returns-in_default c =
    let a = c.args in
    sym (fit_room a.key (pairs_in a.v) _ (sym c.find.ensures ∙ c.in-Err.is) (omega (arith, length-pairs_in a.v c.requires.sized)))

pub returns-in_default-2 : goal.returns-in_default-2
returns-in_default-2 c =
    let a = c.args in
    sym (fit_at a.key (pairs_in a.v) _ (sym c.find.ensures ∙ c.in_default.is))
