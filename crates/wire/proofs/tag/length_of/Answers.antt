-- `wire::tag::length_of` meets its contract: its table is the documents' rows. Assumes nothing.
use Rattle.std.proofs.Common.{refl}
use Rattle.wire.specs.Tag.{rows}
use Rattle.wire.proofs.tag.length_of.Goals as goal

-- The table has one entry for each row of the documents, in order, and none besides.
pub find-requires : goal.find-requires
unfolding rows
find-requires c = refl
