-- `command::answers::lay_ceiling` meets its contract: a head, then a pair behind it, are the field. Assumes nothing.
use mathlib.Core.Path.{refl, ap, ◌∙◌}
use mathlib.Core.List.{List}
use Prim.Native.Nat.{ℕ, ◌+◌}
use native.Mathlib.Omega.{arith}
use Rattle.laws.specs.Lay.{lay}
use Rattle.wire.specs.FieldLaws.{lay-field}
use Rattle.command.specs.Answer.{pair_bytes, ceiling_bytes}
use Rattle.command.specs.AnswerLaws.{length-pair_bytes}
use Rattle.command.proofs.answers.lay_ceiling.Goals as goal

pub returns : goal.returns
unfolding ceiling_bytes
returns c =
    let a = c.args in (
      c.lay_pair.ensures ∙
          ap (λ (s : List ℕ). lay s (a.at + 3) (pair_bytes (a.key, a.value))) c.lay_head.ensures ∙
          lay-field a.buffer.now a.at 0x87 8 (pair_bytes (a.key, a.value)) (omega (arith, c.requires)) (length-pair_bytes (a.key, a.value)),
      refl,
    )
