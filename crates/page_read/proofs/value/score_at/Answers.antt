-- `page_read::value::score_at` meets its contract. A payload of field 14 has 6 bytes, or there is none. Assumes nothing.
use mathlib.Core.Path.{sym, ap, ◌∙◌}
use Prim.Native.Nat.{◌+◌, ◌*◌}
use lib.ListN.{length}
use Rattle.page.specs.Tags.{only_14}
use Rattle.page_read.specs.Payload.{payload-empty}
use Rattle.page_read.specs.Value.{score_value, score_value-empty}
use Rattle.page_read.proofs.value.score_at.Goals as goal

pub returns-then-p-ne-SCORE_BYTES : goal.returns-then-p-ne-SCORE_BYTES
returns-then-p-ne-SCORE_BYTES c = let a = c.args in
    sym (ap score_value (payload-empty a.page.now (a.from + 9 * a.i) 0x14 6 only_14
    (λ z. c.if-p-ne-SCORE_BYTES.true (ap length c.payload-p.ensures ∙ z))) ∙ score_value-empty)

pub returns : goal.returns
unfolding score_value
returns c = rw (c.read16.ensures.is, c.read32.ensures.is) (ap score_value c.payload-p.ensures)
