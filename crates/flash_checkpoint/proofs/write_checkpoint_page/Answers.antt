-- `write_checkpoint_page` meets its contract: the page, the row, the state behind it. Assumes nothing.
use mathlib.Core.Path.{refl, ap, ◌∙◌}
use native.Mathlib.Omega.{arith}
use lib.ListN.{set, length}
use Rattle.flash_rows.specs.Worktable.{table_from}
use Rattle.flash_blocks.specs.Pages.{pages_of}
use Rattle.flash_allocate.specs.World.{spot}
use Rattle.flash_checkpoint.proofs.Laws.{checkpoint_page_written}
use Rattle.flash_checkpoint.proofs.write_checkpoint_page.Goals as goal

pub page_image-image-requires : goal.page_image-image-requires
page_image-image-requires c =
    let f = c.args.flash.now in
    let p = c.requires.closing in
    record {
      rows = omega (arith, f.good.table, f.good.used, ap length c.table.ensures);
      few = omega (arith, p.limit, f.good.most);
      needed = p.needed;
    }

pub invariant_of-flash-2 : goal.invariant_of-flash-2
invariant_of-flash-2 c =
    let a = c.args in
    let f = a.flash.now in
    let n = c.next_sequence-number in
    let i = c.page_image-image in
    let w = c.put_page in
    let r = c.store_checkpoint_page in
    let made =
    checkpoint_page_written a.tariff a.k (pages_of f.pool.now) (pages_of w.new.pool)
    (table_from f.table.now) (table_from r.new.table) f.state c.count_page-flash.result n.result f.good c.requires.closing
    w.auto.pool r.auto.table c.requires.room n.ensures
    (w.ensures.0 ∙ ap (set (pages_of f.pool.now) (spot f.state)) (rw c.table.ensures at i.ensures)) r.ensures c.count_page-flash.ensures in
    record { good = made.good }

pub returns : goal.returns
returns c =
    let a = c.args in
    let f = a.flash.now in
    let n = c.next_sequence-number in
    let i = c.page_image-image in
    let w = c.put_page in
    let r = c.store_checkpoint_page in
    let made =
    checkpoint_page_written a.tariff a.k (pages_of f.pool.now) (pages_of w.new.pool)
    (table_from f.table.now) (table_from r.new.table) f.state c.count_page-flash.result n.result f.good c.requires.closing
    w.auto.pool r.auto.table c.requires.room n.ensures
    (w.ensures.0 ∙ ap (set (pages_of f.pool.now) (spot f.state)) (rw c.table.ensures at i.ensures)) r.ensures c.count_page-flash.ensures in
    record { same_pool = refl; same_table = refl; long = r.auto.table; left = made }
