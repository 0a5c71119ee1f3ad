-- `area::begin` meets its contract: the marks made blank, then the root pushed. Assumes nothing.
use Prim.Native.Nat.{◌+◌, ◌-◌, ◌*◌}
use native.Mathlib.Omega.{arith}
use Rattle.mount_tree.specs.AreaLaws.{begin-leaves}
use Rattle.mount_tree.proofs.area.begin.Goals as goal

pub returns : goal.returns
returns c =
    let a = c.args in
    let from = a.kept + 16 * a.nodes in
    begin-leaves a.kept a.nodes a.depth (from + a.nodes - from) a.table.now c.fill_part.new.dst c.push_root.new.table c.requires.0
    (omega arith) c.fill_part.ensures c.push_root.ensures
