-- Seven pieces laid one behind another are the bytes of the row, whose numbers fit their widths. Assumes nothing.
use Rattle.std.proofs.Common.{ap, ◌∙◌, arith}
use Rattle.flash_rows.specs.Row.{decode, Fits}
use Rattle.flash_rows.proofs.Laws.{row_laid, decode-encode}
use Rattle.flash_rows.proofs.RowRecord.encode.Goals as goal

pub returns-clause-bytes : goal.returns-clause-bytes
returns-clause-bytes c =
    c.write16-3.ensures ∙
    rw (
      c.write16-2.ensures,
      c.write16.ensures,
      c.lay_byte-2.ensures,
      c.lay_byte.ensures,
      c.mode_byte.ensures,
      c.write32-2.ensures,
      c.write32.ensures,
      c.from.ensures,
      c.from-2.ensures,
      c.from-3.ensures,
    )
    (row_laid c.args.part.now c.args.self c.requires)

pub returns-clause-back : goal.returns-clause-back
returns-clause-back c =
    let r = c.args.self in
    let f : Fits r = record { version = omega arith; score = omega arith; first = omega arith; second = omega arith; third = omega arith } in
    ap decode (returns-clause-bytes c) ∙ decode-encode r f
