-- `find::has` meets its contract. The invariant: the number is not among those below the lower bound, nor from the upper one on. Assumes nothing.
use mathlib.Core.Path.{refl}
use Prim.Native.Nat.{◌+◌, ◌-◌, ◌/◌, ◌<◌}
use native.Mathlib.Nat.{sub_self}
use native.Mathlib.Omega.{arith}
use Rattle.mount_sequences.specs.Row.{row}
use Rattle.mount_sequences.proofs.Laws.{found_at, none_below, none_above, not_found}
use Rattle.mount_sequences.proofs.find.has.Goals as goal

pub loop-low-init : goal.loop-low-init
unfolding row
loop-low-init c = let a = c.args in
    (omega arith, (refl, rw (sub_self a.n) refl))

pub overflow_mul-middle : goal.overflow_mul-middle
overflow_mul-middle c = omega (arith, c.requires.room)

pub read32-number-requires : goal.read32-number-requires
read32-number-requires c = omega (arith, c.requires.room)

pub returns-then-number-v : goal.returns-then-number-v
returns-then-number-v c = let a = c.args in
    let l = c.loop-low in
    found_at a.table.now a.n (l.low + (l.high - l.low) / 2) a.v c.read32-number.result
    (omega arith) c.read32-number.ensures.is c.if-number-v.true

pub loop-low-preserved-then-number-v-2 : goal.loop-low-preserved-then-number-v-2
loop-low-preserved-then-number-v-2 c = let a = c.args in
    let l = c.loop-low in (
      omega arith,
      (
        none_below a.table.now a.n (l.low + (l.high - l.low) / 2) a.v
            c.read32-number.result (omega arith) c.read32-number.ensures.is
            c.requires.ascends c.if-number-v-2.true,
        l.invariant.1.1,
      ),
    )

pub loop-low-preserved : goal.loop-low-preserved
loop-low-preserved c = let a = c.args in
    let l = c.loop-low in
    let x = c.read32-number in
    let more : a.v < x.result = omega arith in (
      omega arith,
      (
        l.invariant.1.0,
        none_above a.table.now a.n (l.low + (l.high - l.low) / 2) a.v x.result (omega arith)
            x.ensures.is c.requires.ascends more,
      ),
    )

pub returns : goal.returns
returns c = let a = c.args in
    let l = c.loop-low in
    not_found a.table.now a.n l.low l.high a.v (omega arith) (omega arith) l.invariant.1.0 l.invariant.1.1
