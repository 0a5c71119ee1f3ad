-- `keyless_branch` meets its contract: the first none of any keys are no keys. Assumes nothing.
use Rattle.std.proofs.Common.{refl, arith}
use Rattle.pairs.specs.Pairs.{Within}
use Rattle.node.specs.Value.{pairs_in}
use Rattle.flash_read.proofs.by_id.keyless_branch.Goals as goal

pub returns : goal.returns
unfolding pairs_in Within
returns c =
    let held = c.requires in
    record {
      is = refl;
      held =
          record {
            sized = record { size = omega arith; key_room = held.sized.key_room; pointer_room = held.sized.pointer_room };
            ascending = tt;
          };
    }
