-- `checkpoint_page::scores_of` meets its contract: field 13 has 32 bytes, or there is none and the scores begin in its place. Assumes nothing.
use mathlib.Core.Path.{sym, ap, ◌∙◌}
use lib.ListN.{length}
use Rattle.page.specs.Tags.{only_13}
use Rattle.page_read.specs.Payload.{payload-empty}
use Rattle.mount_checkpoint_pages.proofs.Laws.{scores_plain, scores-first}
use Rattle.mount_checkpoint_pages.proofs.checkpoint_page.scores_of.Goals as goal

pub returns-then-tariff-ne-TARIFF_BYTES : goal.returns-then-tariff-ne-TARIFF_BYTES
returns-then-tariff-ne-TARIFF_BYTES c = let b = c.args.page.now in
    scores_plain b c.count_scores.result
    (payload-empty b 7 0x13 32 only_13 (λ z. c.if-tariff-ne-TARIFF_BYTES.true (ap length c.payload-tariff.ensures ∙ z)))
    c.count_scores.ensures.0 c.count_scores.ensures.1

pub returns : goal.returns
returns c = let b = c.args.page.now in
    scores-first b c.count_scores-2.result (ap length (sym c.payload-tariff.ensures) ∙ c.if-tariff-ne-TARIFF_BYTES.false)
    c.count_scores-2.ensures.0 c.count_scores-2.ensures.1
