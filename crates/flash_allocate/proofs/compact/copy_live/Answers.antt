-- `compact::copy_live` meets its contract: dead, or copied and its place noted. Assumes nothing.
use mathlib.Core.Path.{sym, ◌∙◌}
use native.Mathlib.Omega.{arith}
use Rattle.flash_blocks.specs.Pages.{pages_of}
use Rattle.flash_live.specs.Bits.{marks_in}
use Rattle.flash_allocate.specs.Compact.{copying, copy_page}
use Rattle.flash_allocate.proofs.Laws.{copy_dead, copy_live_lem}
use Rattle.flash_allocate.proofs.compact.copy_live.Goals as goal

pub returns-then-not-is_live : goal.returns-then-not-is_live
returns-then-not-is_live c =
    let a = c.args in (
      copy_dead (marks_in a.live.now) a.base a.first a.k (copying (pages_of a.pool.now) a.places.now a.fill)
          (sym c.is_live.ensures ∙ c.if-not-is_live.true),
      omega arith,
    )

pub returns : goal.returns
unfolding copy_page
returns c =
    let a = c.args in (
      rw c.copy_page.ensures
          (copy_live_lem (marks_in a.live.now) a.base a.first a.k (copying (pages_of a.pool.now) a.places.now a.fill)
          (sym c.is_live.ensures ∙ c.if-not-is_live.false)),
      omega arith,
    )
