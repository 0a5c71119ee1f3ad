-- `node::empty_node` meets its contract: no pair of a count of 0. Assumes nothing.
use Rattle.std.proofs.Common.{refl, ℕ, arith}
use lib.ListN.{length-replicate}
use Rattle.pairs.specs.Pairs.{Within}
use Rattle.node.specs.Value.{pairs_in}
use Rattle.node.proofs.empty_node.Goals as goal

pub returns : goal.returns
unfolding pairs_in Within
returns c =
    record {
      is = refl;
      held =
          record {
            sized = record { size = omega arith; key_room = length-replicate {A = ℕ} 24 0; pointer_room = length-replicate {A = ℕ} 24 0 };
            ascending = tt;
          };
    }
