-- `block::is_rest_blank` meets its contract: no page behind the first blank one is written. Assumes nothing.
use Rattle.std.proofs.Common.{rules, tests, refl, arith}
use Rattle.std.proofs.lemmas.Iterator.{YieldsList-from_range}
use Rattle.std.proofs.lemmas.Iterator.Search.{all_from_yields_List}
use Rattle.laws.specs.Ranges.{all_found}
use Rattle.flash_blocks.specs.Pages.{pages_of}
use Rattle.mount_blocks.specs.Rules.{blank_at, written_at, first_blank, rest_blank, end_of}
use Rattle.mount_blocks.proofs.block.is_rest_blank.Goals as goal

pub returns : goal.returns
unfolding rest_blank first_blank written_at blank_at
returns c =
    let f = blank_at (pages_of c.args.pool.now) in
    rw (← c.first_blank-blank.ensures.0)
    (all_found f c.first_blank-blank.result (end_of c.args.block) c.all.result (omega arith)
    (all_from_yields_List f _ _ _ c.all.ensures.ran (YieldsList-from_range _ _ _ refl refl) (λ x b q k. search (rules, tests))))
