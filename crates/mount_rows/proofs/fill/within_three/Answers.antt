-- `fill::within_three` meets its contract: `all` asks each row. Assumes nothing.
use Rattle.std.proofs.Common.{rules, tests, refl, sym, ◌∙◌, arith}
use Rattle.std.proofs.lemmas.Iterator.{YieldsList-from_range}
use Rattle.std.proofs.lemmas.Iterator.Search.{all_from_yields_List}
use Rattle.laws.specs.Ranges.{all_from-range}
use Rattle.flash_rows.specs.Row.{rows_of}
use Rattle.mount_rows.proofs.Laws.{few, three-all}
use Rattle.mount_rows.proofs.fill.within_three.Goals as goal

pub returns : goal.returns
returns c =
    let n = c.args.nodes in
    let rows = rows_of c.args.table.now in
    all_from_yields_List (few rows) _ _ _ c.all.ensures.ran (YieldsList-from_range _ _ n refl (omega arith)) (λ x b q k. search (rules, tests))
    ∙ sym (all_from-range (few rows) n 0) ∙ three-all rows n
