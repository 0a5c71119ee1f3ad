use Rattle.std.proofs.Common.{◌≡◌, ◌+◌, ◌-◌, ◌≤◌}
use Rattle.laws.specs.Loops.{sum_from}
use Rattle.flash_blocks.specs.Pages.{pages_of}
use Rattle.flash_blocks.specs.Blank.{blank_bit}
use Rattle.flash_blocks.proofs.blank.count_blank.Given as goal

abbrev pub invariant-loop-block : goal.invariant-loop-block
invariant-loop-block l = (l.n ≤ l.block) ×
    (l.n + sum_from (blank_bit (pages_of l.pool)) (l.blocks - l.block) l.block ≡ sum_from (blank_bit (pages_of l.pool)) l.blocks 0)
