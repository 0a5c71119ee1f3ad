-- `node_page::write_node` meets its contract: the page, the row, the state behind it. Assumes nothing.
use mathlib.Core.Path.{refl}
use Rattle.flash_rows.specs.Worktable.{table_from}
use Rattle.flash_blocks.specs.Pages.{pages_of}
use Rattle.node.specs.Value.{node_of}
use Rattle.flash_write.proofs.Laws.{node_written}
use Rattle.flash_write.proofs.node_page.write_node.Goals as goal

pub invariant_of-flash-2 : goal.invariant_of-flash-2
invariant_of-flash-2 c =
    let a = c.args in
    let f = a.flash.now in
    let p = c.requires in
    let n = c.next_sequence-number in
    let w = c.put_node in
    let d = c.node_page_row in
    let made =
    node_written a.id (node_of a.v) (pages_of f.pool.now) (pages_of w.new.pool) (table_from f.table.now)
    (table_from d.new.table) f.state c.advance-flash.result n.result f.good w.auto.pool d.auto.table p.room
    n.ensures w.ensures d.ensures c.advance-flash.ensures in
    record { good = made.good }

pub returns : goal.returns
returns c =
    let a = c.args in
    let f = a.flash.now in
    let p = c.requires in
    let n = c.next_sequence-number in
    let w = c.put_node in
    let d = c.node_page_row in
    let made =
    node_written a.id (node_of a.v) (pages_of f.pool.now) (pages_of w.new.pool) (table_from f.table.now)
    (table_from d.new.table) f.state c.advance-flash.result n.result f.good w.auto.pool d.auto.table p.room
    n.ensures w.ensures d.ensures c.advance-flash.ensures in
    record { same_pool = refl; same_table = refl; long = d.auto.table; left = made }
