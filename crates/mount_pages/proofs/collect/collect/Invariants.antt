use Rattle.std.proofs.Common.{◌≡◌, ◌-◌, ◌≤◌}
use Rattle.flash_blocks.specs.Pages.{pages_of}
use Rattle.mount_sequences.specs.Row.{row}
use Rattle.mount_pages.specs.Collect.{sequences_from, behind}
use Rattle.mount_pages.proofs.collect.collect.Given as goal

abbrev pub invariant-loop-page : goal.invariant-loop-page
invariant-loop-page l =
    (l.count ≤ l.page) ×
    (behind (row l.count 0 l.table) (sequences_from (pages_of l.pool) (l.pages - l.page) l.page)
    ≡ sequences_from (pages_of l.pool) l.pages 0)
