-- `page_read::seal::sequence` meets its contract. A payload of field 10 has four bytes, or there is none and the number is 0.
-- Assumes nothing.
use mathlib.Core.Path.{sym, ap, ◌∙◌}
use lib.ListN.{length}
use Rattle.laws.specs.BigEndian.{number, number_at-whole}
use Rattle.page.specs.Tags.{only_10}
use Rattle.page_read.specs.Payload.{payload-empty}
use Rattle.page_read.proofs.seal.sequence.Goals as goal

pub returns-then-p-ne4 : goal.returns-then-p-ne4
returns-then-p-ne4 c = sym (ap number (payload-empty c.args.page.now 0 0x10 4 only_10
    (λ z. c.if-p-ne4.true (ap length c.payload-p.ensures ∙ z))))

pub returns : goal.returns
returns c = c.read32.ensures.is ∙ number_at-whole 4 c.payload-p.result.now
    c.if-p-ne4.false ∙ ap number c.payload-p.ensures
