-- `lay_score` meets its contract. Two numbers laid one behind the other. Assumes nothing.
use mathlib.Core.Path.{refl, ◌∙◌}
use Prim.Native.Nat.{◌+◌}
use native.Mathlib.Omega.{arith}
use Rattle.laws.specs.Lay.{lay-next}
use Rattle.laws.specs.BigEndian.{big_endian}
use Rattle.page.specs.Image.{score_bytes}
use Rattle.page_checkpoint.proofs.lay_score.Goals as goal

pub returns : goal.returns
unfolding score_bytes
returns c = let a = c.args in
    c.write32.ensures ∙
    rw c.write16.ensures
    (lay-next a.records.now a.at (big_endian 2 a.id) (big_endian 4 a.score) (a.at + 2) (omega arith) refl)
