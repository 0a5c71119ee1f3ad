-- `scores::scores_below` meets its contract: `all` asks each row. Assumes nothing.
use Rattle.std.proofs.Common.{rules, tests, refl, sym, ◌∙◌, arith}
use Rattle.std.proofs.lemmas.Iterator.{YieldsList-from_range}
use Rattle.std.proofs.lemmas.Iterator.Search.{all_from_yields_List}
use Rattle.laws.specs.Ranges.{all_from-range}
use Rattle.flash_rows.specs.Worktable.{rows_in}
use Rattle.mount_restore.specs.Scores.{is_below}
use Rattle.mount_restore.proofs.scores.scores_below.Goals as goal

pub returns : goal.returns
unfolding is_below
returns c =
    let n = c.args.nodes in
    let f = is_below c.args.limit (rows_in c.args.table.now) in
    all_from_yields_List f _ _ _ c.all.ensures.ran (YieldsList-from_range _ _ n refl (omega arith)) (λ x b q k. search (rules, tests))
    ∙ sym (all_from-range f n 0)
