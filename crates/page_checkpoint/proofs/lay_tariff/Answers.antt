-- `lay_tariff` meets its contract. Five pieces laid one behind another are field 13. Assumes
-- nothing.
use mathlib.Core.Path.{◌∙◌}
use Rattle.page_checkpoint.specs.Checkpoint.{tariff-laid}
use Rattle.page_checkpoint.proofs.lay_tariff.Goals as goal

pub returns : goal.returns
returns c =
    let a = c.args in
    c.write32-2.ensures ∙
    rw (c.write32.ensures, c.lay_costs-2.ensures, c.lay_costs.ensures, c.lay_head.ensures)
    (tariff-laid a.p.now a.at a.tariff c.requires)
