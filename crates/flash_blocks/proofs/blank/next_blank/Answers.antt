-- `blank::next_blank` meets its contract: above the current block, else the lowest, else block 0. Assumes nothing.
use native.Mathlib.Omega.{arith}
use Rattle.flash_blocks.specs.Pages.{pages_of}
use Rattle.flash_blocks.proofs.Laws.{next-above, next-lowest, next-none}
use Rattle.flash_blocks.proofs.blank.next_blank.Goals as goal

pub returns-then-above-blocks : goal.returns-then-above-blocks
returns-then-above-blocks c = let a = c.args in
    let x = c.blank_from-above in
    (next-above a.blocks a.current (pages_of a.pool.now) x.result x.ensures.0 c.if-above-blocks.true, c.if-above-blocks.true)

pub returns-then-lowest-blocks : goal.returns-then-lowest-blocks
returns-then-lowest-blocks c =
    let a = c.args in
    let x = c.blank_from-above in
    let y = c.blank_from-lowest in (
      next-lowest a.blocks a.current (pages_of a.pool.now) x.result x.ensures.0 y.result
          y.ensures.0 c.if-above-blocks.false c.if-lowest-blocks.true,
      c.if-lowest-blocks.true,
    )

pub returns-else-lowest-blocks : goal.returns-else-lowest-blocks
returns-else-lowest-blocks c = let a = c.args in
    let x = c.blank_from-above in
    let y = c.blank_from-lowest in (
      next-none a.blocks a.current (pages_of a.pool.now) x.result x.ensures.0 y.result
          y.ensures.0 c.if-above-blocks.false c.if-lowest-blocks.false,
      omega arith,
    )
