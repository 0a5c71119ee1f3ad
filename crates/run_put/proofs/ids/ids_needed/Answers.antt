-- `ids::ids_needed` meets its contract: all nodes from a place on are full. Assumes nothing.
use Rattle.std.proofs.Common.{◌-◌, length, get_or, arith}
use Rattle.flash_blocks.specs.Pages.{pages_of}
use Rattle.flash_rows.specs.Worktable.{table_from}
use Rattle.flash_read.specs.NodeTable.{table_of}
use Rattle.run_put.specs.FullRun.{full-leaf, full-above, needed_gap, needed_all, size-read}
use Rattle.run_put.proofs.ids.ids_needed.Goals as goal

pub loop-i-init : goal.loop-i-init
loop-i-init c =
    let a = c.args in
    let nodes = table_of (pages_of a.pool.now) (table_from a.table.now) a.state in
    full-leaf nodes a.ids.now (length a.ids.now - 1) (omega (arith, c.requires.some)) c.requires.full

pub returns-then-above-lt-MOST_KEYS-clause-exact : goal.returns-then-above-lt-MOST_KEYS-clause-exact
returns-then-above-lt-MOST_KEYS-clause-exact c =
    let a = c.args in
    let ids = a.ids.now in
    let nodes = table_of (pages_of a.pool.now) (table_from a.table.now) a.state in
    let i = c.loop-i.i - 1 in
    let v = c.node_at-above in
    let size = size-read nodes (get_or ids (i - 1) 0) v.result v.ensures in
    needed_gap nodes ids i (i - 1) c.loop-i.invariant (omega (arith, c.loop-i-test.true)) (omega (arith, size, c.if-above-lt-MOST_KEYS.true))

pub loop-i-preserved : goal.loop-i-preserved
loop-i-preserved c =
    let a = c.args in
    let ids = a.ids.now in
    let nodes = table_of (pages_of a.pool.now) (table_from a.table.now) a.state in
    let i = c.loop-i.i - 1 in
    let v = c.node_at-above in
    let size = size-read nodes (get_or ids (i - 1) 0) v.result v.ensures in
    full-above nodes ids i (i - 1) c.loop-i.invariant (omega (arith, c.loop-i-test.true)) (omega (arith, size, c.if-above-lt-MOST_KEYS.false))

pub returns-clause-exact : goal.returns-clause-exact
returns-clause-exact c = needed_all _ c.args.ids.now (c.loop-i.i - 1) c.loop-i.invariant (omega (arith, c.loop-i-test.false))
