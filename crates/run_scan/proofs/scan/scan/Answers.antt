-- `scan::scan` meets its contract: the walk down, then the pairs and the leaves gathered from its leaf on, then these leaves read. Assumes nothing.
use Rattle.std.proofs.Common.{rules}
use Prim.Native.Nat.{◌≤◌}
use native.Mathlib.Omega.{arith}
use lib.ListN.{length}
use lib.Seq.{length-take-le}
use Rattle.flash_allocate.specs.Flash.{world_of}
use Rattle.run_path.specs.Reading.{reads-front}
use Rattle.run_scan.specs.Pairs.{listed-none}
use Rattle.run_scan.specs.Scan.{scanned_none, scanned}
use Rattle.run_scan.proofs.scan.scan.Goals as goal

pub returns-then-high-low-clause-served : goal.returns-then-high-low-clause-served
returns-then-high-low-clause-served c =
    let a = c.args in
    scanned_none a.tariff a.low a.high a.most (world_of a.flash.now) _ a.ids.now c.if-high-low.true a.flash.now.good (listed-none _ _)
    (record { size = omega arith; key_room = search rules; value_room = search rules }) (omega arith) c.requires.room

pub returns-clause-served : goal.returns-clause-served
returns-clause-served c =
    let a = c.args in
    let found = c.gather-visited in
    let leaves = found.new.leaves in
    let x = c.descend-down in
    let down = x.ensures.served.charged in
    let few : found.result.visited ≤ length leaves = omega (arith, found.ensures.few, found.ensures.room, down.kept.nodes, c.requires.limited) in
    scanned a.tariff a.low a.high a.most (world_of a.flash.now) c.if-high-low.false c.requires.limited x.ensures.served
    (rw (← c.pool.ensures, ← c.table.ensures) found.ensures)
    (reads-front a.tariff (world_of x.new.flash) found.result.visited leaves few c.read_nodes-along.ensures.served)
