-- `work` meets its contract: a pool refused, or its queues served and its checkpoint written. Assumes nothing.
use Rattle.std.proofs.Common.{sym, ◌∙◌, rules}
use Rattle.laws.specs.BigEndian.{bytes-get_or}
use Rattle.batch.specs.Work.{worked_unopened, worked_lent}
use Rattle.desk.specs.Accepts.{bytes_are}
use Rattle.desk.proofs.work.Goals as goal

pub returns-in-Err : goal.returns-in-Err
returns-in-Err c = worked_unopened c.requires.0.accepts c.mount.auto.table c.in-Err.ensures.refused c.args.charges.now c.requires.1 c.unopened.ensures

pub run_rounds-done-requires-clause-serves : goal.run_rounds-done-requires-clause-serves
run_rounds-done-requires-clause-serves c = c.requires.0.serves

pub returns : goal.returns
returns c =
    let a = c.args in
    let pre = c.requires.0 in
    let run = c.run_rounds-done.ensures in
    let bytes = bytes-get_or a.queues.now (λ i. (c.type_inv.queues i).fits) in
    worked_lent pre.accepts (bytes_are a.lengths.now a.queues.now pre.serves.fill bytes pre.serves.valid) c.in-Ok.ensures.opened
    (sym pre.commands_are) run.served c.close.ensures.closed (run.buffers.long ∙ c.mount.auto.table)
    (search rules) (search rules) (search rules)
