-- `command::answers::lay_refused` meets its contract: a head, then the number behind it, are the field. Assumes nothing.
use mathlib.Core.Path.{refl, ap, ◌∙◌}
use mathlib.Core.List.{List, [], ◌∷◌}
use Prim.Native.Nat.{ℕ, ◌+◌}
use native.Mathlib.Omega.{arith}
use Rattle.laws.specs.Lay.{lay}
use Rattle.wire.specs.FieldLaws.{lay-field}
use Rattle.command.specs.Answer.{answer_bytes}
use Rattle.command.proofs.answers.lay_refused.Goals as goal

pub returns : goal.returns
unfolding answer_bytes
returns c =
    let a = c.args in (
      c.lay_byte.ensures ∙
          ap (λ (s : List ℕ). lay s (a.at + 3) (a.number ∷ [])) c.lay_head.ensures ∙
          lay-field a.buffer.now a.at 0x8F 1 (a.number ∷ []) (omega (arith, c.requires)) refl,
      refl,
    )
