-- `edit::edit` meets its contract: room, the row read again, then one entry or the whole content. Assumes nothing.
use mathlib.Core.Path.{◌∙◌}
use Rattle.flash_rows.specs.Worktable.{table_from}
use Rattle.node.specs.Value.{node_of}
use Rattle.node.specs.Drafts.{change_of}
use Rattle.flash_allocate.specs.Flash.{world_of, after_two}
use Rattle.flash_log.specs.Entry.{logged}
use Rattle.flash_write.proofs.Laws.{edit-entry, edit-group}
use Rattle.flash_write.proofs.edit.edit.Goals as goal

pub invariant_of-flash : goal.invariant_of-flash
invariant_of-flash c =
    let a = c.args in
    let m = c.make_room in
    let l = c.row_at-row in
    let p = c.append-flash in
    let made =
    edit-entry a.id (change_of a.change) (node_of a.edited) (world_of a.flash.now) (world_of m.new.flash) m.ensures.left
    l.result (rw c.table.ensures at l.ensures) (logged (table_from p.new.table) p.result) p.auto.table c.if-row-lt3.true p.ensures in
    record { good = made.good }

pub returns-then-row-lt3 : goal.returns-then-row-lt3
returns-then-row-lt3 c =
    let a = c.args in
    let m = c.make_room in
    let l = c.row_at-row in
    let p = c.append-flash in
    let made =
    edit-entry a.id (change_of a.change) (node_of a.edited) (world_of a.flash.now) (world_of m.new.flash) m.ensures.left
    l.result (rw c.table.ensures at l.ensures) (logged (table_from p.new.table) p.result) p.auto.table c.if-row-lt3.true p.ensures in
    record {
      same_pool = m.ensures.same_pool;
      same_table = m.ensures.same_table;
      long = p.auto.table ∙ m.ensures.long;
      left = made;
    }

pub returns-else-row-lt3 : goal.returns-else-row-lt3
returns-else-row-lt3 c =
    let a = c.args in
    let m = c.make_room in
    let l = c.row_at-row in
    let g = c.group in
    after_two m.ensures g.ensures
    (edit-group a.id (change_of a.change) (node_of a.edited) (world_of a.flash.now) (world_of m.new.flash) m.ensures.left
    l.result (rw c.table.ensures at l.ensures) (world_of g.new.flash) c.if-row-lt3.false g.ensures.left)
