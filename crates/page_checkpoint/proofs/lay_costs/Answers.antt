-- `lay_costs` meets its contract. Three numbers laid one behind another. Assumes nothing.
use mathlib.Core.Path.{◌∙◌}
use Rattle.page_checkpoint.specs.Checkpoint.{three_laid}
use Rattle.page_checkpoint.proofs.lay_costs.Goals as goal

pub returns : goal.returns
returns c =
    let a = c.args in
    c.write32-3.ensures ∙
    rw (c.write32-2.ensures, c.write32.ensures) (three_laid a.p.now a.at a.costs.read a.costs.edit a.costs.rewrite c.requires)
