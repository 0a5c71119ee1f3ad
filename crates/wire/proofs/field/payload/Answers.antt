-- The part from start to end is the payload's. Assumes nothing.
use Rattle.std.proofs.Common.{ap, sym, ◌∙◌}
use Rattle.wire.specs.Field.{payload_of, payload_at}
use Rattle.laws.specs.Lay.{part}
use Rattle.wire.proofs.field.payload.Goals as goal

pub returns-in-Ok : goal.returns-in-Ok
unfolding payload_at part
returns-in-Ok c = ap (payload_of c.args.s.now) (sym c.in-Ok.is ∙ c.field_at.ensures.is)

pub returns-in-Err : goal.returns-in-Err
unfolding payload_at part
returns-in-Err c = ap (payload_of c.args.s.now) (sym c.in-Err.is ∙ c.field_at.ensures.is)
