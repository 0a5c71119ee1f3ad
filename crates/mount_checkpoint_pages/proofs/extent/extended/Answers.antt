-- `extent::extended` meets its contract: a page with the tariff and a greater number is the first of a newer set. Assumes nothing.
use Rattle.std.proofs.Common.{sym, ap, ◌∙◌, length}
use Rattle.page.specs.Tags.{only_13}
use Rattle.page_read.specs.Payload.{payload-empty}
use Rattle.mount_checkpoint_pages.proofs.Laws.{extended-later, extended_older, extended_none}
use Rattle.mount_checkpoint_pages.proofs.extent.extended.Goals as goal
use Rattle.mount_checkpoint_pages.proofs.extent.extended.Goals.{else-later-via-then-later+else-payload-eq-TARIFF_BYTES, else-later-via-else-later}

pub returns-then-payload-eq-TARIFF_BYTES : goal.returns-then-payload-eq-TARIFF_BYTES
returns-then-payload-eq-TARIFF_BYTES c =
    extended-later c.args.page c.args.bytes.now c.args.e c.sequence-number.result c.max-newest.result c.sequence-number.ensures
    c.max-newest.ensures (ap length (sym c.payload.ensures) ∙ c.if-payload-eq-TARIFF_BYTES.true) c.if-later.true

pub returns : goal.returns
returns c =
    let a = c.args in
    elim c.else-later.branch [
      | else-later-via-then-later+else-payload-eq-TARIFF_BYTES w ↦
          extended_none a.page a.bytes.now a.e c.sequence-number.result c.max-newest.result c.sequence-number.ensures c.max-newest.ensures
          (payload-empty a.bytes.now 7 0x13 32 only_13 (λ z. w.if-payload-eq-TARIFF_BYTES.false (ap length w.payload.ensures ∙ z)))
      | else-later-via-else-later w ↦
          extended_older a.page a.bytes.now a.e c.sequence-number.result c.max-newest.result c.sequence-number.ensures c.max-newest.ensures
          w.if-later.false
    ]
