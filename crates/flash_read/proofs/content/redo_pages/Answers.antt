-- `content::redo_pages` meets its contract: a case for each number of pages. Assumes nothing.
use Rattle.std.proofs.Common.{arith}
use Rattle.flash_blocks.specs.Pages.{pages_of}
use Rattle.node_replay.specs.Outline.{draft_in, redone_as}
use Rattle.flash_read.specs.Slots.{redo_each, redo_two, redo_three}
use Rattle.flash_read.proofs.Laws.{pages-none, pages-one, pages_two, pages_three}
use Rattle.flash_read.proofs.content.redo_pages.Goals as goal

pub returns-in-0 : goal.returns-in-0
returns-in-0 c =
    let a = c.args in
    rw (← pages-none (pages_of a.pool.now) a.row a.n (draft_in a.outline a.keys.now a.pointers.now) c.in-0.is)
    (redone_as a.outline a.keys.now a.pointers.now c.requires)

pub returns-in-1 : goal.returns-in-1
returns-in-1 c =
    let a = c.args in
    rw (← pages-one (pages_of a.pool.now) a.row a.n (draft_in a.outline a.keys.now a.pointers.now) (λ e. omega (arith, c.in-1.is)) c.in-1.is)
    c.redo_at.ensures

pub returns-in-2 : goal.returns-in-2
unfolding redo_each redo_two
returns-in-2 c =
    let a = c.args in
    let o = c.in_order.ensures in
    rw (← pages_two (pages_of a.pool.now) a.row a.n (draft_in a.outline a.keys.now a.pointers.now)
    (λ e. omega (arith, c.in-2.is)) (λ e. omega (arith, c.in-2.is)) c.in-2.is)
    (rw (← c.slot_at.ensures, ← c.slot_at-in-2.ensures, ← o.first, ← o.last) c.redo_each.ensures)

pub returns-in_default : goal.returns-in_default
unfolding redo_each redo_two redo_three
returns-in_default c =
    let a = c.args in
    let o = c.in_order-in_default.ensures in
    let p = c.in_order-in_default-2.ensures in
    let q = c.in_order-in_default-3.ensures in
    rw (← pages_three (pages_of a.pool.now) a.row a.n (draft_in a.outline a.keys.now a.pointers.now)
    (λ e. omega arith) (λ e. omega arith) (λ e. omega arith))
    (rw (
      ← c.slot_at-in_default.ensures,
      ← c.slot_at-in_default-2.ensures,
      ← c.slot_at-in_default-3.ensures,
      ← o.first,
      ← o.last,
      ← p.first,
      ← p.last,
      ← q.first,
      ← q.last,
    ) c.redo_each-in_default.ensures)
