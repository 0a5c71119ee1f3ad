-- `area::push_root` meets its contract: the root stands in the last slot. Assumes nothing.
use mathlib.Core.Path.{ap, ◌∙◌}
use mathlib.Core.List.{[], ◌∷◌}
use Prim.Native.Nat.{◌-◌}
use native.Mathlib.Omega.{arith}
use lib.ListN.{length}
use Rattle.mount_tree.specs.Due.{dues_of}
use Rattle.mount_tree.specs.Area.{root_due}
use Rattle.mount_tree.specs.AreaLaws.{push_leaves, root-last, dues_between, length-dues_in}
use Rattle.mount_tree.proofs.area.push_root.Goals as goal

pub returns : goal.returns
returns c =
    let a = c.args in
    let p = c.write in
    push_leaves a.kept a.nodes a.table.now c.requires.0 (a.nodes - 1) a.nodes (root_due a.depth ∷ []) p.new.table
    (omega (arith, p.auto.table))
    (root-last a.nodes a.depth _ (dues_of p.new.table) c.requires.1
    (ap length (dues_between a.kept a.nodes a.table.now) ∙ length-dues_in a.kept a.nodes a.table.now c.requires.0)
    p.ensures)
