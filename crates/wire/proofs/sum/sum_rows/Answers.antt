-- `wire::sum::sum_rows` meets its contract. The invariants: after so many rows the columns come to the sums of the bytes so far; within a
-- row, the places that are left, added from here, give the whole row added. Assumes nothing.
use mathlib.Core.Path.{refl, sym, ◌∙◌}
use Rattle.std.proofs.Common.{◌+◌, ◌*◌, arith}
use Rattle.wire.proofs.Columns.{row, length-row, row_at, columns_none, columns_at, columns_small}
use Rattle.wire.proofs.Columns.{adding_none, adding_fits, adding_next, adding_end}
use Rattle.wire.proofs.sum.sum_rows.Goals as goal

pub loop-k-init : goal.loop-k-init
loop-k-init c = columns_none c.args.s.now _ _ refl refl

pub loop-j-init : goal.loop-j-init
loop-j-init c = let l = c.loop-k in
    adding_none (row l.k c.args.s.now) l.low l.high l.invariant.few

pub overflow_add-high : goal.overflow_add-high
overflow_add-high c = let i = c.loop-j in
    let l = c.loop-k in
    let s = c.args.s.now in
    let f = l.invariant.few in
    omega (arith, adding_fits (row l.k s) l.low l.high i.low i.high i.j (omega arith) i.invariant f.lows f.highs)

pub overflow_add-low : goal.overflow_add-low
overflow_add-low c = let i = c.loop-j in
    let l = c.loop-k in
    let s = c.args.s.now in
    let f = l.invariant.few in
    omega (arith, adding_fits (row l.k s) l.low l.high i.low i.high i.j (omega arith) i.invariant f.lows f.highs)

pub loop-j-preserved : goal.loop-j-preserved
loop-j-preserved c = let i = c.loop-j in
    let l = c.loop-k in
    let s = c.args.s.now in
    adding_next (row l.k s) l.low l.high i.low i.high i.j (omega arith) i.invariant c.from.result
    (length-row s l.k (omega arith)) (c.from.ensures ∙ sym (row_at s l.k i.j (omega arith))) (omega (arith, c.type_inv.s (16 * l.k + i.j)))

pub loop-k-preserved : goal.loop-k-preserved
loop-k-preserved c = let i = c.loop-j in
    let l = c.loop-k in
    let s = c.args.s.now in
    adding_end s l.low l.high i.low i.high l.k i.j (omega arith) (omega arith) (omega arith) l.invariant i.invariant

pub sum_columns-requires : goal.sum_columns-requires
sum_columns-requires c = let l = c.loop-k in
    let x = c.args in
    (omega arith, (columns_at x.s.now l.low l.high l.k x.rows (omega arith) l.invariant).few)

pub returns : goal.returns
returns c = let l = c.loop-k in
    let x = c.args in
    columns_small x.s.now l.low l.high c.sum_columns.result x.rows
    (columns_at x.s.now l.low l.high l.k x.rows (omega arith) l.invariant) c.sum_columns.ensures
