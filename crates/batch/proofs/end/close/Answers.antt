-- `end::close` meets its contract: the checkpoint, then zeros. Assumes nothing.
use Rattle.std.proofs.Common.{refl, ap, ◌∙◌, length}
use Rattle.flash_rows.specs.Worktable.{table_from}
use Rattle.batch.specs.Closed.{zeros}
use Rattle.batch.proofs.end.close.Goals as goal

pub returns-clause-closed : goal.returns-clause-closed
returns-clause-closed c =
    let x = c.checkpoint in
    record {
      says = refl;
      zero = c.fill.ensures ∙ ap zeros x.ensures.long;
      sizes = (length x.new.flash.pool.now, length x.new.flash.table.now);
      rows = table_from x.new.flash.table.now;
      state = x.new.flash.state;
      ended = x.ensures.left;
    }
