-- `wire::field::lay_field` meets its contract. The payload laid behind its tag and length is the field. Assumes nothing.
use mathlib.Core.Path.{refl, ◌∙◌}
use native.Mathlib.Omega.{arith}
use Rattle.wire.specs.FieldLaws.{lay-field}
use Rattle.wire.proofs.field.lay_field.Goals as goal

pub returns : goal.returns
returns c = let a = c.args in
    c.lay_bytes.ensures ∙
    rw c.lay_head.ensures (lay-field a.dst.now a.at a.tag _ a.payload.now (omega arith) refl)
