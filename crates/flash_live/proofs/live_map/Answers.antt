-- `live::live_map` meets its contract. The invariant: marking the rows left gives the whole map. Assumes nothing.
use mathlib.Core.Path.{sym, ◌∙◌}
use native.Mathlib.Omega.{arith}
use lib.ListN.{replicate}
use Rattle.laws.specs.Loops.{steps-begin, steps_more, steps-done}
use Rattle.flash_rows.specs.Row.{rows_of}
use Rattle.flash_live.specs.Live.{mark_nth, live_map}
use Rattle.flash_live.specs.Bits.{marks_in, no_marks_lem}
use Rattle.flash_live.proofs.live_map.Goals as goal

pub loop-n-init : goal.loop-n-init
loop-n-init c = let a = c.args in
    rw no_marks_lem (steps-begin (mark_nth (rows_of a.table.now)) a.used (replicate 2048 0))

pub loop-n-preserved : goal.loop-n-preserved
unfolding mark_nth
loop-n-preserved c = let l = c.loop-n in
    let a = c.args in
    rw (c.mark_row.ensures, c.read.ensures) (steps_more (mark_nth (rows_of a.table.now)) a.used l.n (marks_in l.live) (omega arith) ∙ l.invariant)

pub returns : goal.returns
unfolding live_map
returns c = let l = c.loop-n in
    let a = c.args in
    sym (steps-done (mark_nth (rows_of a.table.now)) a.used l.n (marks_in l.live) (omega arith)) ∙ l.invariant
