-- The bytes laid over a chunk make it that of the record. Assumes nothing.
use Rattle.wire.proofs.Records.{record_laid}
use Rattle.wire.proofs.record.write.Goals as goal

pub returns : goal.returns
returns g c =
    let laws = g.met.R.Record in
    let r = g.R.Record in
    record_laid r.BYTES laws.some_bytes r.decoded r.table laws.tabled c.args.table.now c.args.slot c.requires _ c.BYTES-size.ensures
    c.encode.new.part c.args.row c.encode.auto.part c.encode.ensures
