-- Every number of a row read from nothing is 0. Assumes nothing.
use Rattle.std.proofs.Common.{refl}
use Rattle.laws.specs.BigEndian.{number_at}
use Rattle.laws.specs.Lay.{part}
use Rattle.flash_rows.specs.Row.{mode_from, decode, no_row}
use Rattle.flash_rows.proofs.no_row.Goals as goal

pub returns : goal.returns
unfolding no_row decode number_at mode_from part
returns c = refl
