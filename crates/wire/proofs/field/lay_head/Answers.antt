-- `wire::field::lay_head` meets its contract. A store, and two bytes laid behind it. Assumes nothing.
use mathlib.Core.Path.{◌∙◌}
use native.Mathlib.Omega.{arith}
use lib.ListN.{length-set}
use Rattle.laws.specs.Lay.{lay-cons}
use Rattle.laws.specs.BigEndian.{big_endian}
use Rattle.wire.proofs.field.lay_head.Goals as goal

pub write16-requires : goal.write16-requires
write16-requires c = simp length-set (omega arith)

pub shape_of-dst : goal.shape_of-dst
shape_of-dst c = c.write16.auto.s ∙ simp length-set

pub returns : goal.returns
returns c = let a = c.args in
    c.write16.ensures ∙ lay-cons a.dst.now a.at a.tag (big_endian 2 a.bytes) (omega arith)
