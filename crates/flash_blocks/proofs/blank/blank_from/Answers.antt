-- The invariant: the first blank block from here on is the first from the start on. Assumes nothing.
use Rattle.std.proofs.Common.{◌≡◌, sym, ◌∙◌, arith}
use Rattle.laws.specs.Loops.{first_found, first_more, first_done}
use Rattle.flash_blocks.specs.Pages.{pages_of}
use Rattle.flash_blocks.specs.Blank.{blank_block, blank_from}
use Rattle.flash_blocks.proofs.blank.blank_from.Goals as goal

pub returns-then-is_blank_block : goal.returns-then-is_blank_block
unfolding blank_from
returns-then-is_blank_block c =
    let l = c.loop-block in
    let a = c.args in (
      first_found (blank_block (pages_of a.pool.now)) a.blocks l.block (omega arith) (sym c.is_blank_block.ensures ∙ c.if-is_blank_block.true) ∙
          l.invariant,
      omega arith,
    )

pub loop-block-preserved : goal.loop-block-preserved
loop-block-preserved c =
    let l = c.loop-block in
    let a = c.args in
    first_more (blank_block (pages_of a.pool.now)) a.blocks l.block (omega arith) (sym c.is_blank_block.ensures ∙ c.if-is_blank_block.false) ∙
    l.invariant

pub returns : goal.returns
unfolding blank_from
returns c =
    let l = c.loop-block in
    let a = c.args in
    let e : a.blocks ≡ l.block = omega arith in
    (e ∙ first_done (blank_block (pages_of a.pool.now)) a.blocks l.block (omega arith) ∙ l.invariant, omega arith)
