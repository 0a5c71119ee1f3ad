-- `area::due_at` meets its contract: the part lent is the stack. Assumes nothing.
use mathlib.Core.Path.{ap, ◌∙◌}
use mathlib.Core.List.{List}
use lib.ListN.{get_or}
use Rattle.mount_tree.specs.declared.due.Due.{Due}
use Rattle.mount_tree.specs.Due.{no_due}
use Rattle.mount_tree.specs.AreaLaws.{dues_between}
use Rattle.mount_tree.proofs.area.due_at.Goals as goal

pub returns : goal.returns
returns c = let a = c.args in
    c.read.ensures ∙ ap (λ (ds : List Due). get_or ds a.slot no_due) (dues_between a.kept a.nodes a.table.now)
