-- `rules::block_of` meets its contract: what the search finds. Assumes nothing.
use Rattle.std.proofs.Common.{rules, tests, refl, arith}
use Rattle.std.proofs.lemmas.Iterator.{YieldsList-from_range}
use Rattle.std.proofs.lemmas.Iterator.Search.{find_from_yields_List}
use Rattle.laws.specs.Ranges.{first_found, first_from_high}
use Rattle.flash_blocks.specs.Pages.{pages_of}
use Rattle.mount_blocks.specs.Rules.{holds, block_of}
use Rattle.mount_blocks.proofs.rules.block_of.Goals as goal

pub returns : goal.returns
unfolding block_of
returns c =
    let n = c.args.blocks in
    let f = holds (pages_of c.args.pool.now) c.args.number in
    let found = find_from_yields_List f _ _ c.find.result c.find.ensures.ran (YieldsList-from_range _ _ n refl (omega arith)) in
    rw (c.unwrap_or.ensures, first_found f 0 n n c.find.result (omega arith) (found (λ x b q k. search (rules, tests))))
    (refl, omega (arith, first_from_high f n 0))
