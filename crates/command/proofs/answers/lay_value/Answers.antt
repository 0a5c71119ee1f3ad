-- `command::answers::lay_value` meets its contract: a head, then a number behind it, are the field. Assumes nothing.
use mathlib.Core.Path.{refl, ap, ◌∙◌}
use mathlib.Core.List.{List}
use Prim.Native.Nat.{ℕ, ◌+◌}
use native.Mathlib.Omega.{arith}
use Rattle.laws.specs.Lay.{lay}
use Rattle.laws.specs.BigEndian.{big_endian, length-big_endian}
use Rattle.wire.specs.FieldLaws.{lay-field}
use Rattle.command.proofs.answers.lay_value.Goals as goal

pub returns : goal.returns
returns c =
    let a = c.args in (
      c.write32.ensures ∙
          ap (λ (s : List ℕ). lay s (a.at + 3) (big_endian 4 a.value)) c.lay_head.ensures ∙
          lay-field a.buffer.now a.at a.tag 4 (big_endian 4 a.value) (omega (arith, c.requires)) (length-big_endian 4 a.value),
      refl,
    )
