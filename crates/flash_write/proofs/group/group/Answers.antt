-- `group::group` meets its contract: room, the number behind it, the fresh start. Assumes nothing.
use mathlib.Core.Path.{ap, sym, ◌∙◌}
use Prim.Native.Nat.{ℕ, ◌+◌}
use Rattle.flash_rows.specs.Worktable.{table_from}
use Rattle.node.specs.Value.{node_of, length-pairs_in}
use Rattle.flash_allocate.specs.Flash.{world_of}
use Rattle.flash_log.specs.Entry.{logged}
use Rattle.flash_write.proofs.Laws.{group-made}
use Rattle.flash_write.proofs.group.group.Goals as goal

pub invariant_of-flash : goal.invariant_of-flash
invariant_of-flash c =
    let a = c.args in
    let m = c.begin-version in
    let l = c.row_at-row in
    let t = c.start-flash in
    let made =
    group-made (node_of a.v) (world_of a.flash.now) (world_of m.new.flash) (a.v.count + 1)
    (ap (λ (k : ℕ). k + 1) (sym (length-pairs_in a.v c.requires.sized))) m.ensures.room.left t.auto.table m.result
    m.ensures.version a.id l.result (logged (table_from t.new.table) t.result) (rw c.table.ensures at l.ensures) t.ensures in
    record { good = made.good }

pub returns : goal.returns
returns c =
    let a = c.args in
    let m = c.begin-version in
    let l = c.row_at-row in
    let t = c.start-flash in
    let made =
    group-made (node_of a.v) (world_of a.flash.now) (world_of m.new.flash) (a.v.count + 1)
    (ap (λ (k : ℕ). k + 1) (sym (length-pairs_in a.v c.requires.sized))) m.ensures.room.left t.auto.table m.result
    m.ensures.version a.id l.result (logged (table_from t.new.table) t.result) (rw c.table.ensures at l.ensures) t.ensures in
    record {
      same_pool = m.ensures.room.same_pool;
      same_table = m.ensures.room.same_table;
      long = t.auto.table ∙ m.ensures.room.long;
      left = made;
    }
