-- The number at a place is its bytes times their weights. Assumes nothing.
use Rattle.std.proofs.Common.{arith}
use Rattle.laws.specs.BigEndian.{number_at_2}
use Rattle.wire.proofs.number.read16.Goals as goal

pub returns : goal.returns
returns c = record { is = omega (arith, number_at_2 c.args.s.now c.args.at c.requires); small = omega arith }
