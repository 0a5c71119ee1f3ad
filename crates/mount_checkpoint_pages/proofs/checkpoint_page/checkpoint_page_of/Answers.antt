-- `checkpoint_page::checkpoint_page_of` meets its contract: field 15 behind the scores has 2 bytes, or there is none. Assumes nothing.
use Rattle.std.proofs.Common.{ap, ◌∙◌, ◌+◌, ◌*◌, length}
use Rattle.laws.specs.BigEndian.{number_at-whole}
use Rattle.page.specs.Tags.{only_15}
use Rattle.page_read.specs.Payload.{payload-empty}
use Rattle.mount_checkpoint_pages.proofs.Laws.{checkpoint_page_open, checkpoint_page_counted}
use Rattle.mount_checkpoint_pages.proofs.checkpoint_page.checkpoint_page_of.Goals as goal

pub returns-then-count-eq2 : goal.returns-then-count-eq2
returns-then-count-eq2 c =
    let s = c.scores_of-s in
    let p = c.payload-count.result.now in
    checkpoint_page_counted c.args.page.now s.result s.ensures p c.payload-count.ensures c.if-count-eq2.true
    c.read16.result (c.read16.ensures.is ∙ number_at-whole 2 p c.if-count-eq2.true) c.read16.ensures.small

pub returns-else-count-eq2 : goal.returns-else-count-eq2
returns-else-count-eq2 c =
    let b = c.args.page.now in
    let s = c.scores_of-s.result in
    checkpoint_page_open b s c.scores_of-s.ensures
    (payload-empty b (s.from + 9 * s.count) 0x15 2 only_15 (λ z. c.if-count-eq2.false (ap length c.payload-count.ensures ∙ z)))
