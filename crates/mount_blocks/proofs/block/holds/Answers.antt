-- `block::holds` meets its contract: one of the pages before the first blank one has the number. Assumes nothing.
use Rattle.std.proofs.Common.{rules, tests, refl, arith}
use Rattle.std.proofs.lemmas.Iterator.{YieldsList-from_range}
use Rattle.std.proofs.lemmas.Iterator.Search.{any_from_yields_List}
use Rattle.laws.specs.Ranges.{any_found}
use Rattle.flash_blocks.specs.Pages.{pages_of}
use Rattle.mount_blocks.specs.Rules.{numbered_at, first_blank, holds, start_of}
use Rattle.mount_blocks.proofs.block.holds.Goals as goal

pub returns : goal.returns
unfolding holds first_blank numbered_at
returns c =
    let f = numbered_at (pages_of c.args.pool.now) c.args.number in
    rw (← c.first_blank-blank.ensures.0)
    (any_found f (start_of c.args.block) c.first_blank-blank.result c.any.result (omega arith)
    (any_from_yields_List f _ _ _ c.any.ensures.ran (YieldsList-from_range _ _ _ refl refl) (λ x b q k. search (rules, tests))))
