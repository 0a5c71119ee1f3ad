-- `find::tariff_at` meets its contract: field 13 has 32 bytes, or there is none and all costs are 0. Assumes nothing.
use mathlib.Core.Path.{sym, ap, ◌∙◌}
use mathlib.Core.List.{List}
use Prim.Native.Nat.{ℕ}
use lib.ListN.{length}
use Rattle.wire.specs.Field.{payload_at}
use Rattle.page.specs.Decode.{tariff_of}
use Rattle.page.specs.Tags.{only_13}
use Rattle.page_read.specs.Payload.{payload-empty}
use Rattle.mount_checkpoint.specs.Find.{tariff_at}
use Rattle.mount_checkpoint.proofs.Laws.{tariff-none}
use Rattle.mount_checkpoint.proofs.find.tariff_at.Goals as goal

pub returns-then-p-ne-TARIFF_BYTES : goal.returns-then-p-ne-TARIFF_BYTES
unfolding tariff_at
returns-then-p-ne-TARIFF_BYTES c = let b = c.page_part.result.now in
    tariff-none ∙
    ap tariff_of (sym (payload-empty b 7 0x13 32 only_13 (λ z. c.if-p-ne-TARIFF_BYTES.true (ap length c.payload-p.ensures ∙ z)))) ∙
    ap (λ (x : List ℕ). tariff_of (payload_at x 7 0x13)) c.page_part.ensures.0

pub returns : goal.returns
unfolding tariff_at
returns c = c.tariff_of.ensures ∙ ap tariff_of c.payload-p.ensures ∙ ap (λ (x : List ℕ). tariff_of (payload_at x 7 0x13))
    c.page_part.ensures.0
