-- `mark` meets its contract: the marks lie behind the row. Assumes nothing.
use mathlib.Core.Path.{◌∙◌}
use Prim.Native.Nat.{◌*◌}
use native.Mathlib.Omega.{arith}
use lib.ListN.{replicate}
use Rattle.mount_sequences.specs.Row.{row-lay-before}
use Rattle.mount_filter.proofs.mark.Goals as goal

pub returns : goal.returns
returns c =
    let a = c.args in
    let r = c.set_marks.ensures in
    record {
      kept =
          r.kept ∙
          rw c.clear.ensures
          (row-lay-before a.table.now (512 * a.blocks) (replicate (512 * a.blocks) 0)
          (omega (arith, c.requires.size)) a.n 0 (omega (arith, c.requires.few)));
      marked = r.marked;
    }
