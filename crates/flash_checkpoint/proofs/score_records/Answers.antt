-- `score_records` meets its contract. The invariant: the records left, laid behind those there are, give all. Assumes nothing.
use mathlib.Core.Path.{sym, ◌∙◌}
use Prim.Native.Nat.{ℕ}
use native.Mathlib.Omega.{arith}
use lib.ListN.{replicate, length-replicate}
use Rattle.flash_rows.specs.Worktable.{rows_in}
use Rattle.flash_checkpoint.proofs.Laws.{records_begin, records_more, records_done}
use Rattle.flash_checkpoint.proofs.score_records.Goals as goal

pub loop-i-init : goal.loop-i-init
loop-i-init c = let a = c.args in
    (length-replicate {A = ℕ} 324 0, records_begin (rows_in a.table.now) a.from a.n (replicate 324 0))

pub loop-i-preserved : goal.loop-i-preserved
loop-i-preserved c = let l = c.loop-i in
    let a = c.args in (
      omega (arith, c.lay_score.auto.records),
      rw
          (c.lay_score.ensures, c.row_at-row.ensures)
          (records_more (rows_in a.table.now) a.from a.n l.records l.i (omega arith) (omega arith) ∙
          l.invariant.1),
    )

pub returns : goal.returns
returns c = let l = c.loop-i in
    let a = c.args in
    sym (records_done (rows_in a.table.now) a.from a.n l.records l.i (omega arith)) ∙ l.invariant.1
