use Rattle.std.proofs.Common.{◌≡◌, ◌-◌}
use Rattle.laws.specs.Loops.{first_from}
use Rattle.flash_blocks.specs.Pages.{pages_of}
use Rattle.flash_blocks.specs.Blank.{blank_block}
use Rattle.flash_blocks.proofs.blank.blank_from.Given as goal

abbrev pub invariant-loop-block : goal.invariant-loop-block
invariant-loop-block l =
    first_from (blank_block (pages_of l.pool)) (l.blocks - l.block) l.block ≡ first_from (blank_block (pages_of l.pool)) (l.blocks - l.from) l.from
