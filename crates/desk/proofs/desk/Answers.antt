-- `desk` meets its contract: refused for what is lent, or its work done in the part of the table that it needs. Assumes nothing.
use Rattle.std.proofs.Common.{refl, ap, List, ℕ, rules, arith}
use Rattle.refusal.specs.Number.{number_some}
use Rattle.layout.specs.Layout.{table_bytes}
use Rattle.desk_queues.specs.Joined.{joined}
use Rattle.model.specs.PoolLaws.{is-pool}
use Rattle.model.specs.Call.{Call}
use Rattle.model.specs.Passes.{Passes}
use Rattle.batch.specs.AnyCall.{may_refuse, call-refused, call_passes, call_worked}
use Rattle.desk.specs.Accepts.{desk_accepts, lists_read, runs_read}
use Rattle.desk.proofs.desk.Goals as goal
use Rattle.desk.proofs.desk.Goals.{In-Ok}

abbrev call_of : List ℕ → List ℕ → List ℕ → List ℕ → Call
call_of table lengths queues answers = Call.desk (record { table = table; lengths = lengths; queues = queues; buffer = answers })

-- Nothing that is lent was answered with no.
passes : (c : In-Ok) → Passes c.args.pool.now (call_of c.args.table.now c.args.lengths.now c.args.queues.now c.args.answers.now)
passes c = call_passes _ _ _ c.in-Ok.ensures.number refl

pub refuse-requires : goal.refuse-requires
refuse-requires c =
    may_refuse _ (call_of c.args.table.now c.args.lengths.now c.args.queues.now c.args.answers.now) _ c.in-Err.ensures.number
    (λ z. omega (arith, z, number_some c.in-Err.refusal))

pub returns-in-Err : goal.returns-in-Err
returns-in-Err c =
    call-refused _ (call_of c.args.table.now c.args.lengths.now c.args.queues.now c.args.answers.now) _ c.in-Err.ensures.number
    (λ z. omega (arith, z, number_some c.in-Err.refusal)) c.refuse.ensures c.clear.ensures

pub overflow_mul-bytes : goal.overflow_mul-bytes
overflow_mul-bytes c =
    omega (arith, c.in-Ok.ensures.blocks, (is-pool _ (passes (goal.at.overflow_mul-bytes c).In-Ok).size).most)

pub slice_bounds-work-end : goal.slice_bounds-work-end
slice_bounds-work-end c = omega (arith, c.in-Ok.ensures.blocks, (passes (goal.at.slice_bounds-work-end c).In-Ok).table)

pub work-requires : goal.work-requires
work-requires c =
    let h = is-pool c.args.pool.now (passes (goal.at.work-requires c).In-Ok).size in
    let is = c.in-Ok.ensures.blocks in
    let d = c.in-Ok.ensures.ready in (
      desk_accepts _ _ d.fill _ (omega (arith, h.whole, is)) (omega (arith, h.least, is)) (omega (arith, h.most, is)) (search rules) d.ready d.enough,
      c.clear.ensures,
    )

pub returns : goal.returns
returns c =
    let d = c.in-Ok.ensures.ready in
    let css = d.ready.commands in
    call_worked _ (call_of c.args.table.now c.args.lengths.now c.args.queues.now c.args.answers.now) _ c.in-Ok.ensures.number refl refl (joined css)
    (runs_read _ _ d.fill d.ready) _ (ap table_bytes c.in-Ok.ensures.blocks) (c.work.ensures.leaves (joined css) (lists_read _ _ css d.ready.are d.ready.read))
