-- `flush::write_buffer` meets its contract: the page, the claims on it, the state behind it. Assumes nothing.
use mathlib.Core.Path.{refl, ap, ◌∙◌}
use mathlib.Core.List.{List}
use Prim.Native.Nat.{ℕ}
use lib.ListN.{set}
use Rattle.flash_rows.specs.Worktable.{table_from}
use Rattle.flash_allocate.specs.World.{spot}
use Rattle.page_write.specs.Pages.{log_image}
use Rattle.flash_blocks.specs.Pages.{pages_of}
use Rattle.flash_log.proofs.Laws.{buffer_written, good_written}
use Rattle.flash_log.proofs.flush.write_buffer.Goals as goal

pub invariant_of-flash-2 : goal.invariant_of-flash-2
invariant_of-flash-2 c =
    let f = c.args.flash.now in
    record { good = good_written _ f.good c.put_page.auto.pool c.claim_entries.auto.table c.requires c.advance.ensures c.without_entries-flash.ensures }

pub returns : goal.returns
returns c =
    let f = c.args.flash.now in
    let n = c.next_sequence-number in
    let i = c.log_image-image in
    let w = c.put_page in
    let k = c.claim_entries in
    record {
      same_pool = refl;
      same_table = refl;
      long = k.auto.table;
      left =
          buffer_written (pages_of f.pool.now) (pages_of w.new.pool) (table_from f.table.now) (table_from k.new.table)
          f.state c.advance.result c.without_entries-flash.result n.result f.good w.auto.pool k.auto.table c.requires
          n.ensures
          (w.ensures.0 ∙ ap (set (pages_of f.pool.now) (spot f.state)) (i.ensures ∙ ap (log_image n.result f.state.entries) (rw c.table.ensures at c.buffer_part.ensures.0)))
          k.ensures c.advance.ensures c.without_entries-flash.ensures;
    }
