-- `marks::covers` meets its contract: one window, or two. Assumes nothing.
use native.Mathlib.Omega.{arith}
use Rattle.std.proofs.Common.{length, ◌-◌}
use Rattle.std.proofs.lemmas.Bool.{lt-leb}
use Rattle.flash_blocks.specs.Pages.{pages_of}
use Rattle.mount_checkpoint.proofs.Laws.{covers_one, covers-first, covers_two, covers_third}
use Rattle.mount_checkpoint.proofs.marks.covers.Goals as goal

pub returns-then-nodes-width : goal.returns-then-nodes-width
returns-then-nodes-width c =
    let a = c.args in
    covers_one (pages_of a.pool.now) a.pages a.since a.nodes (length a.marks.now) c.window.new.marks
    c.if-nodes-width.true c.window.result c.window.ensures

pub returns-then-not-window : goal.returns-then-not-window
returns-then-not-window c =
    let a = c.args in
    let w = c.window-2 in
    covers-first (pages_of a.pool.now) a.pages a.since a.nodes (length a.marks.now) w.new.marks
    c.if-nodes-width.false w.result w.ensures.is c.if-not-window.true w.ensures.marks_are

pub returns-then-rest-width : goal.returns-then-rest-width
returns-then-rest-width c =
    let a = c.args in
    let w = c.window-2 in
    let v = c.window-then-rest-width in
    covers_two (pages_of a.pool.now) a.pages a.since a.nodes (length a.marks.now) v.new.marks c.if-nodes-width.false w.result
    w.ensures.is c.if-not-window.false c.if-rest-width.true (length w.new.marks) (omega arith) v.result v.ensures

pub returns-else-rest-width : goal.returns-else-rest-width
returns-else-rest-width c =
    let a = c.args in
    let w = c.window-2 in
    rw (lt-leb (a.nodes - length a.marks.now) (length a.marks.now) c.if-rest-width.false)
    (covers_third (pages_of a.pool.now) a.pages a.since a.nodes (length a.marks.now) w.new.marks
    c.if-nodes-width.false w.result w.ensures.is c.if-not-window.false c.if-rest-width.false w.ensures.marks_are)
