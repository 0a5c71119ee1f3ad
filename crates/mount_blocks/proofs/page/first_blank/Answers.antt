-- `page::first_blank` meets its contract: what the search finds. Assumes nothing.
use Rattle.std.proofs.Common.{◌-◌, rules, tests, refl, arith}
use Rattle.std.proofs.lemmas.Iterator.{YieldsList-from_range}
use Rattle.std.proofs.lemmas.Iterator.Search.{find_from_yields_List}
use Rattle.laws.specs.Ranges.{first_found, first_from_low, first_from_high}
use Rattle.flash_blocks.specs.Pages.{pages_of}
use Rattle.mount_blocks.specs.Rules.{blank_at}
use Rattle.mount_blocks.proofs.page.first_blank.Goals as goal

pub returns : goal.returns
unfolding blank_at
returns c =
    let a = c.args in
    let f = blank_at (pages_of a.pool.now) in
    let found = find_from_yields_List f _ _ c.find.result c.find.ensures.ran (YieldsList-from_range _ _ _ refl refl) in
    rw (c.unwrap_or.ensures, first_found f a.from a.to _ c.find.result (omega arith) (found (λ x b q k. search (rules, tests))))
    (refl, first_from_low f _ _, omega (arith, first_from_high f (a.to - a.from) a.from))
