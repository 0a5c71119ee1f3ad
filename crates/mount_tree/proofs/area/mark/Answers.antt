-- `area::mark` meets its contract: one byte set behind the stack. Assumes nothing.
use mathlib.Core.Path.{refl}
use Rattle.mount_tree.specs.AreaLaws.{mark_leaves}
use Rattle.mount_tree.proofs.area.mark.Goals as goal

pub returns : goal.returns
returns c = let a = c.args in mark_leaves a.kept a.nodes a.table.now c.requires.0 a.id _ c.requires.1 refl
