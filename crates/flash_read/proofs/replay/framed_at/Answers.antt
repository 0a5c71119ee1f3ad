-- `replay::framed_at` meets its contract: another tag, another length, or the payload behind them. Assumes nothing.
use Rattle.std.proofs.Common.{sym}
use Rattle.wire.specs.FieldLaws.{payload_at-absent}
use Rattle.flash_read.proofs.Laws.{field-other, field_there}
use Rattle.flash_read.proofs.replay.framed_at.Goals as goal
use Rattle.flash_read.proofs.replay.framed_at.Goals.{then-bytes-at-ne18-via-then-bytes-at-ne18, then-bytes-at-ne18-via-else-bytes-at-ne18+then-read16-ne-ENTRY_BYTES}

pub returns-then-bytes-at-ne18 : goal.returns-then-bytes-at-ne18
returns-then-bytes-at-ne18 c =
    elim c.then-bytes-at-ne18.branch [
      | then-bytes-at-ne18-via-then-bytes-at-ne18 w ↦ sym (payload_at-absent _ _ 0x12 w.if-bytes-at-ne18.true)
      | then-bytes-at-ne18-via-else-bytes-at-ne18+then-read16-ne-ENTRY_BYTES w ↦
          field-other _ _ c.requires w.if-bytes-at-ne18.false _ w.read16.ensures.is w.if-read16-ne-ENTRY_BYTES.true
    ]

pub returns : goal.returns
returns c = field_there _ _ c.requires c.if-bytes-at-ne18.false _ c.read16.ensures.is c.if-read16-ne-ENTRY_BYTES.false
