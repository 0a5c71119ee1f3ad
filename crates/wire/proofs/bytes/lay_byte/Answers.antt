-- `wire::bytes::lay_byte` meets its contract. One store is one byte laid. Assumes nothing.
use mathlib.Core.List.{[], ◌∷◌}
use native.Mathlib.Omega.{arith}
use Rattle.laws.specs.Lay.{lay_sets}
use Rattle.wire.proofs.bytes.lay_byte.Goals as goal

pub returns : goal.returns
returns c = lay_sets (c.args.byte ∷ []) c.args.dst.now c.args.at (omega arith)
