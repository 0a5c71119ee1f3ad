-- `page_read::value::costs_at` meets its contract. The numbers at the places of the costs. Assumes nothing.
use Rattle.page_read.specs.Value.{costs_at}
use Rattle.page_read.proofs.value.costs_at.Goals as goal

pub returns : goal.returns
unfolding costs_at
returns c = rw (
  c.read32.ensures.is,
  c.read32-2.ensures.is,
  c.read32-3.ensures.is,
  c.read32-4.ensures.is,
)
