-- `live::count_live` meets its contract. The invariant: what was counted and the live pages left are all of the block. Assumes nothing.
use Rattle.std.proofs.Common.{◌≡◌, ap, ◌+◌, ◌*◌, get_or}
use Rattle.std.specs.Int.{from_bool}
use Rattle.laws.specs.Counts.{bit, bit_le_one}
use Rattle.flash_blocks.specs.Blank.{from_bool-bit}
use Rattle.flash_live.specs.Live.{marked}
use mathlib.Core.Path.{sym, ◌∙◌}
use native.Mathlib.Omega.{arith}
use Rattle.laws.specs.Loops.{sum-begin, sum_more, sum_done}
use Rattle.flash_live.specs.Live.{live_bit, live_in}
use Rattle.flash_live.specs.Bits.{marks_in}
use Rattle.flash_live.proofs.count_live.Goals as goal

pub loop-k-init : goal.loop-k-init
loop-k-init c = let a = c.args in
    (omega arith, sum-begin (live_bit (marks_in a.live.now) a.block) 32)

pub loop-k-preserved : goal.loop-k-preserved
unfolding live_bit
loop-k-preserved c = let l = c.loop-k in
    let a = c.args in
    let mark = get_or (marks_in a.live.now) (32 * a.block + l.k) 0 in
    let e : c.from-n.result ≡ bit (marked mark) = c.from-n.ensures ∙ ap from_bool c.is_live.ensures ∙ from_bool-bit (marked mark) in (
      omega (arith, bit_le_one (marked mark)),
      rw e (sum_more (live_bit (marks_in a.live.now) a.block) 32 l.k l.n (omega arith) ∙ l.invariant.1),
    )

pub returns : goal.returns
unfolding live_in
returns c = let l = c.loop-k in
    let a = c.args in
    (sym (sum_done (live_bit (marks_in a.live.now) a.block) 32 l.k l.n (omega arith)) ∙ l.invariant.1, omega arith)
