-- The invariant: what was counted and the blank blocks left are all blank blocks. Assumes nothing.
use Rattle.std.proofs.Common.{◌≡◌, sym, ap, ◌∙◌, arith}
use Rattle.std.specs.Int.{from_bool}
use Rattle.laws.specs.Counts.{bit, bit_le_one}
use Rattle.laws.specs.Loops.{sum-begin, sum_more, sum_done}
use Rattle.flash_blocks.specs.Pages.{pages_of}
use Rattle.flash_blocks.specs.Blank.{blank_block, blank_bit, from_bool-bit, blank_blocks}
use Rattle.flash_blocks.proofs.blank.count_blank.Goals as goal

pub loop-block-init : goal.loop-block-init
loop-block-init c = (omega arith, sum-begin (blank_bit (pages_of c.args.pool.now)) c.args.blocks)

pub loop-block-preserved : goal.loop-block-preserved
unfolding blank_bit
loop-block-preserved c = let l = c.loop-block in
    let is = blank_block (pages_of c.args.pool.now) l.block in
    let e : c.from-n.result ≡ bit is = c.from-n.ensures ∙ ap from_bool c.is_blank_block.ensures ∙ from_bool-bit is in (
      omega (arith, bit_le_one is),
      rw e (sum_more (blank_bit (pages_of c.args.pool.now)) c.args.blocks l.block l.n (omega arith) ∙ l.invariant.1),
    )

pub returns : goal.returns
unfolding blank_blocks
returns c = let l = c.loop-block in
    sym (sum_done (blank_bit (pages_of c.args.pool.now)) c.args.blocks l.block l.n (omega arith)) ∙ l.invariant.1
