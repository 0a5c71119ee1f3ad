-- `group::create` meets its contract: room, the number behind it, the fresh start of the next node. Assumes nothing.
use mathlib.Core.Path.{ap, sym, refl, ◌∙◌}
use Rattle.flash_allocate.specs.State.{with_nodes}
use Prim.Native.Nat.{ℕ, ◌+◌}
use Rattle.flash_rows.specs.Worktable.{table_from}
use Rattle.node.specs.Value.{node_of, length-pairs_in}
use Rattle.flash_allocate.specs.Flash.{world_of}
use Rattle.flash_log.specs.Entry.{logged}
use Rattle.flash_write.proofs.Laws.{create-made}
use Rattle.flash_write.proofs.group.create.Goals as goal

pub invariant_of-flash : goal.invariant_of-flash
unfolding with_nodes
invariant_of-flash c =
    let a = c.args in
    let m = c.begin-version in
    let t = c.start-started in
    let made =
    create-made (node_of a.v) (world_of a.flash.now) (world_of m.new.flash) (a.v.count + 1)
    (ap (λ (k : ℕ). k + 1) (sym (length-pairs_in a.v c.requires.sized))) m.ensures.room.left t.auto.table m.result m.ensures.version
    c.no_row.result (logged (table_from t.new.table) t.result) _ c.no_row.ensures t.ensures refl c.requires.room in
    record { good = made.good }

pub returns : goal.returns
unfolding with_nodes
returns c =
    let a = c.args in
    let m = c.begin-version in
    let t = c.start-started in
    let made =
    create-made (node_of a.v) (world_of a.flash.now) (world_of m.new.flash) (a.v.count + 1)
    (ap (λ (k : ℕ). k + 1) (sym (length-pairs_in a.v c.requires.sized))) m.ensures.room.left t.auto.table m.result m.ensures.version
    c.no_row.result (logged (table_from t.new.table) t.result) _ c.no_row.ensures t.ensures refl c.requires.room in
    record {
      same_pool = m.ensures.room.same_pool;
      same_table = m.ensures.room.same_table;
      long = t.auto.table ∙ m.ensures.room.long;
      left = made;
    }
