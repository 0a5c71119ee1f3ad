-- The part of the table is the chunk of the slot. Assumes nothing.
use Rattle.std.proofs.Common.{◌∙◌}
use Rattle.wire.proofs.Records.{record_at}
use Rattle.wire.proofs.record.read.Goals as goal

pub returns : goal.returns
returns g c =
    let laws = g.met.R.Record in
    let r = g.R.Record in
    c.decode.ensures ∙
    record_at r.BYTES laws.some_bytes r.decoded r.table laws.tabled c.args.table.now c.args.slot c.requires _ c.BYTES-size.ensures r.nothing laws.behind
