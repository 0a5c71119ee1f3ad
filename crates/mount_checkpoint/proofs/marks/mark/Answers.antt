-- `marks::mark` meets its contract: below the window, inside, behind. Assumes nothing.
use Rattle.mount_checkpoint.proofs.Laws.{mark_below, mark_inside, mark_behind}
use Rattle.mount_checkpoint.proofs.marks.mark.Goals as goal

pub returns-then-id-start : goal.returns-then-id-start
returns-then-id-start c = let a = c.args in
    mark_below a.start a.id a.marks.now c.if-id-start.true

pub returns-then-i-marks : goal.returns-then-i-marks
returns-then-i-marks c = let a = c.args in
    mark_inside a.start a.id a.marks.now c.if-id-start.false c.if-i-marks.true

pub returns-else-i-marks : goal.returns-else-i-marks
returns-else-i-marks c = let a = c.args in
    mark_behind a.start a.id a.marks.now c.if-id-start.false c.if-i-marks.false
