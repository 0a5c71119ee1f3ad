-- `versions::versions_are_new` meets its contract: `all` asks each page. Assumes nothing.
use Rattle.std.proofs.Common.{rules, tests, refl, sym, ◌∙◌, arith}
use Rattle.std.proofs.lemmas.Iterator.{YieldsList-from_range}
use Rattle.std.proofs.lemmas.Iterator.Search.{all_from_yields_List}
use Rattle.laws.specs.Ranges.{all_from-range}
use Rattle.flash_blocks.specs.Pages.{pages_of}
use Rattle.mount_sequences.specs.Row.{row}
use Rattle.mount_pages.specs.Versions.{page_apart, pages_apart}
use Rattle.mount_pages.proofs.versions.versions_are_new.Goals as goal

pub returns : goal.returns
unfolding pages_apart page_apart
returns c =
    let a = c.args in
    let f = page_apart (row a.n 0 a.table.now) (pages_of a.pool.now) in
    all_from_yields_List f _ _ _ c.all.ensures.ran (YieldsList-from_range _ _ a.pages refl (omega arith)) (λ x b q k. search (rules, tests))
    ∙ sym (all_from-range f a.pages 0)
