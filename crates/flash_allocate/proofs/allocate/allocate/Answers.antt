-- `allocate::allocate` meets its contract: room, two blank blocks or more, or a compaction. Assumes nothing.
use mathlib.Core.Path.{refl, ap, ◌∙◌}
use native.Mathlib.Omega.{arith}
use Rattle.flash_rows.specs.Row.{rows_of}
use Rattle.flash_rows.specs.Worktable.{table_from}
use Rattle.flash_rows.specs.WorktableLaws.{rows-part, lent_rows, lent_length}
use Rattle.flash_blocks.specs.Pages.{pages_of}
use Rattle.flash_allocate.specs.World.{world, used}
use Rattle.flash_allocate.specs.Compact.{compact}
use Rattle.flash_allocate.proofs.Laws.{allocate-room, allocate-next, allocate-compact, good_in_block, kept_in_block}
use Rattle.flash_allocate.proofs.allocate.allocate.Goals as goal

pub returns-then-state-lt-PAGES_IN_BLOCK : goal.returns-then-state-lt-PAGES_IN_BLOCK
returns-then-state-lt-PAGES_IN_BLOCK c =
    let f = c.args.flash.now in
    record {
      same_pool = refl;
      same_table = refl;
      long = refl;
      left =
          record {
            is = allocate-room (world (pages_of f.pool.now) (table_from f.table.now) f.state) c.if-state-lt-PAGES_IN_BLOCK.true;
            good = f.good;
            blocks = refl;
            nodes = refl;
            checkpoint = refl;
          };
    }

pub invariant_of-flash : goal.invariant_of-flash
invariant_of-flash c =
    let f = c.args.flash.now in
    let n = c.next_blank-to in
    record { good = good_in_block f.good refl refl n.ensures.1 (omega arith) c.in_block-flash.ensures }

pub returns-then-count_blank-ge2 : goal.returns-then-count_blank-ge2
returns-then-count_blank-ge2 c =
    let f = c.args.flash.now in
    let n = c.next_blank-to in
    let b = c.count_blank in
    record {
      same_pool = refl;
      same_table = refl;
      long = refl;
      left =
          kept_in_block _ _ n.result 0
          (allocate-next (pages_of f.pool.now) (table_from f.table.now) f.state n.result b.result
          c.if-state-lt-PAGES_IN_BLOCK.false (rw c.pool.ensures at n.ensures.0) (rw c.pool-2.ensures at b.ensures)
          c.if-count_blank-ge2.true c.in_block-flash.result c.in_block-flash.ensures)
          refl c.in_block-flash.ensures
          (good_in_block f.good refl refl n.ensures.1 (omega arith) c.in_block-flash.ensures);
    }

pub invariant_of-flash-2 : goal.invariant_of-flash-2
invariant_of-flash-2 c =
    let f = c.args.flash.now in
    let n = c.next_blank-to in
    let m = c.compact-fill in
    record {
      good =
          good_in_block f.good m.auto.pool (lent_length f.table.now (omega arith) m.new.table m.auto.table)
          n.ensures.1 m.ensures.1 c.in_block-flash-2.ensures;
    }

pub returns : goal.returns
returns c =
    let f = c.args.flash.now in
    let n = c.next_blank-to in
    let b = c.count_blank in
    let m = c.compact-fill in
    record {
      same_pool = refl;
      same_table = refl;
      long = lent_length f.table.now (omega arith) m.new.table m.auto.table;
      left =
          kept_in_block _ _ n.result m.result
          (allocate-compact (pages_of f.pool.now) (table_from f.table.now) f.state n.result b.result
          c.if-state-lt-PAGES_IN_BLOCK.false (rw c.pool.ensures at n.ensures.0) (rw c.pool-2.ensures at b.ensures) c.if-count_blank-ge2.false (pages_of m.new.pool) (rows_of m.new.table) m.result
          (m.ensures.0 ∙
          ap (compact (used f.state) f.state.blocks n.result (pages_of f.pool.now)) (rows-part f.table.now (omega arith)))
          _ (lent_rows f.table.now (omega arith) m.new.table m.auto.table)
          c.in_block-flash-2.result c.in_block-flash-2.ensures)
          refl c.in_block-flash-2.ensures
          (good_in_block f.good m.auto.pool (lent_length f.table.now (omega arith) m.new.table m.auto.table)
          n.ensures.1 m.ensures.1 c.in_block-flash-2.ensures);
    }
