-- `clear` meets its contract: the second half of the table filled with zeros. Assumes nothing.
use mathlib.Core.Path.{◌≡◌, ap, ◌∙◌}
use Prim.Native.Nat.{ℕ, ◌+◌, ◌-◌, ◌*◌}
use native.Mathlib.Omega.{arith}
use lib.ListN.{replicate}
use Rattle.laws.specs.Lay.{lay}
use Rattle.mount_filter.proofs.clear.Goals as goal

pub returns : goal.returns
returns c =
    let a = c.args in
    let from = 512 * a.blocks in
    let width : from + from - from ≡ from = omega arith in
    c.fill_part.ensures ∙ ap (λ (k : ℕ). lay a.table.now from (replicate k 0)) width
