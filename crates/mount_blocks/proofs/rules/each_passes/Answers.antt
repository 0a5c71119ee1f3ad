-- `rules::each_passes` meets its contract: `all` asks each block. Assumes nothing.
use Rattle.std.proofs.Common.{rules, tests, refl, sym, ◌∙◌, arith}
use Rattle.std.proofs.lemmas.Iterator.{YieldsList-from_range}
use Rattle.std.proofs.lemmas.Iterator.Search.{all_from_yields_List}
use Rattle.laws.specs.Ranges.{all_from-range}
use Rattle.flash_blocks.specs.Pages.{pages_of}
use Rattle.mount_blocks.specs.Rules.{block_passes}
use Rattle.mount_blocks.proofs.rules.each_passes.Goals as goal

pub returns : goal.returns
returns c =
    let n = c.args.blocks in
    let f = block_passes (pages_of c.args.pool.now) c.args.newest in
    all_from_yields_List f _ _ _ c.all.ensures.ran (YieldsList-from_range _ _ n refl (omega arith)) (λ x b q k. search (rules, tests))
    ∙ sym (all_from-range f n 0)
