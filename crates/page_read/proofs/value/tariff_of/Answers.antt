-- `page_read::value::tariff_of` meets its contract. The costs of both modes are the tariff. Assumes nothing.
use Rattle.page_read.specs.Value.{costs_at-tariff}
use Rattle.page_read.proofs.value.tariff_of.Goals as goal

pub returns : goal.returns
returns c = rw (c.costs_at.ensures, c.costs_at-2.ensures) (costs_at-tariff c.args.p.now)
