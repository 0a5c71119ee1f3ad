-- `numbers_pass` meets its contract: neighbours of the sorted row tell whether the numbers differ, and the versions are held against the same
-- numbers. Assumes nothing.
use mathlib.Core.Path.{sym, ◌∙◌}
use native.Mathlib.Omega.{arith}
use Rattle.flash_blocks.specs.Pages.{pages_of}
use Rattle.mount_survey.proofs.Laws.{numbers_twice, ascending_marked, numbers_apart}
use Rattle.mount_survey.proofs.numbers_pass.Goals as goal

pub returns-then-not-is_strict : goal.returns-then-not-is_strict
returns-then-not-is_strict c =
    let a = c.args in
    numbers_twice a.table.now c.sort.new.table a.n a.blocks c.sort.ensures (pages_of a.pool.now)
    (sym c.is_strict.ensures ∙ c.if-not-is_strict.true)

pub versions_are_new-requires : goal.versions_are_new-requires
versions_are_new-requires c =
    let a = c.args in
    let m = c.mark in (
      omega (arith, c.requires.whole),
      ascending_marked a.table.now c.sort.new.table a.n a.blocks c.sort.ensures m.new.table m.ensures,
      m.ensures.marked,
    )

pub returns : goal.returns
returns c =
    let a = c.args in
    let m = c.mark in
    c.versions_are_new.ensures ∙
    numbers_apart a.table.now c.sort.new.table a.n a.blocks c.sort.ensures m.new.table m.ensures (pages_of a.pool.now)
    (sym c.is_strict.ensures ∙ c.if-not-is_strict.false)
