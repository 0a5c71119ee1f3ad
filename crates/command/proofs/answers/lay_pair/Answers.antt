-- `command::answers::lay_pair` meets its contract: one number behind the other. Assumes nothing.
use mathlib.Core.Path.{ap, ◌∙◌}
use mathlib.Core.List.{List}
use Prim.Native.Nat.{ℕ, ◌+◌}
use native.Mathlib.Omega.{arith}
use Rattle.laws.specs.Lay.{lay, lay-next}
use Rattle.laws.specs.BigEndian.{big_endian, length-big_endian}
use Rattle.command.proofs.answers.lay_pair.Goals as goal

pub returns : goal.returns
returns c =
    let a = c.args in
    c.write32-2.ensures ∙
    ap (λ (s : List ℕ). lay s (a.at + 4) (big_endian 4 a.value)) c.write32.ensures ∙
    lay-next a.buffer.now a.at (big_endian 4 a.key) (big_endian 4 a.value) (a.at + 4)
    (omega (arith, c.requires)) (omega (arith, length-big_endian 4 a.key))
