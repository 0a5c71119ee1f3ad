-- `erase_all` meets its contract. Assumes nothing.
use Rattle.std.proofs.Common.{List, ℕ, ◌*◌, sym, ap, ◌∙◌, arith}
use Rattle.laws.specs.Lay.{lay, lay-nil}
use Rattle.flash_blocks.specs.Pages.{erased_bytes}
use Rattle.prepare.proofs.Laws.{erase_next, erase_end}
use Rattle.prepare.proofs.erase_all.Goals as goal

pub loop-block-init : goal.loop-block-init
loop-block-init c = sym (lay-nil c.args.pool.now 0)

pub loop-block-preserved : goal.loop-block-preserved
loop-block-preserved c =
    c.erase_block.ensures.1 ∙ ap (λ (s : List ℕ). lay s (16384 * c.loop-block.block) erased_bytes) c.loop-block.invariant ∙
    erase_next c.args.pool.now c.loop-block.block

pub returns : goal.returns
returns c = c.loop-block.invariant ∙ erase_end c.args.pool.now (16384 * c.loop-block.block) (omega arith)
