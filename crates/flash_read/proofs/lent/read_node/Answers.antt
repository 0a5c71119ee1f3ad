-- `lent::read_node` meets its contract: the node read from the two buffers. Assumes nothing.
use mathlib.Core.Path.{ap}
use native.Mathlib.Omega.{arith}
use lib.ListN.{length}
use Rattle.flash_read.proofs.lent.read_node.Goals as goal

pub node_at-requires : goal.node_at-requires
node_at-requires c =
    let f = c.args.flash.now in
    record {
      entries = f.good.entries;
      nodes = c.requires;
      rows = omega (arith, f.good.used, f.good.table, ap length c.table.ensures);
    }

pub returns : goal.returns
returns c = rw (c.pool.ensures, c.table.ensures) at c.node_at.ensures
