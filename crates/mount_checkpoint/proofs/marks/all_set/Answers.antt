-- `marks::all_set` meets its contract: `all` asks each mark. Assumes nothing.
use Rattle.std.proofs.Common.{rules, tests, ◌∙◌, arith, not, take, eqb}
use Rattle.std.proofs.lemmas.Iterator.{YieldsList-from_slice}
use Rattle.std.proofs.lemmas.Iterator.Search.{all_from_yields_List}
use Rattle.mount_checkpoint.proofs.Laws.{all_first}
use Rattle.mount_checkpoint.proofs.marks.all_set.Goals as goal

pub returns : goal.returns
returns c =
    let marks = c.args.marks.now in
    let n = c.args.n in
    all_from_yields_List (λ m. not (eqb m 0)) _ _ _ c.all.ensures.ran (YieldsList-from_slice (take n marks) cc) (λ x b q k. search (rules, tests))
    ∙ all_first (λ m. not (eqb m 0)) marks n 0 (omega arith)
