-- `work` meets its contract: a pool refused, or its commands run and its checkpoint written. Assumes nothing.
use Rattle.std.proofs.Common.{◌∙◌, length, rules}
use Rattle.laws.specs.BigEndian.{bytes-get_or}
use Rattle.run.specs.Valid.{commands_in-is, valid_fits}
use Rattle.batch.specs.Work.{worked_unopened, worked_lent}
use Rattle.batch.proofs.work.Goals as goal

pub returns-in-Err : goal.returns-in-Err
returns-in-Err c = worked_unopened c.requires.0 c.mount.auto.table c.in-Err.ensures.refused c.args.charges.now c.requires.1 c.unopened.ensures

pub run_commands-done-requires-clause-fits : goal.run_commands-done-requires-clause-fits
run_commands-done-requires-clause-fits c =
    let a = c.requires.0 in
    valid_fits c.args.commands.now a.commands a.are (length c.args.answers.now) a.enough

pub returns : goal.returns
returns c =
    let a = c.requires.0 in
    let run = c.run_commands-done.ensures in
    let close = c.close.ensures in
    worked_lent a (bytes-get_or c.args.commands.now (λ i. (c.type_inv.commands i).fits))
    c.in-Ok.ensures.opened (commands_in-is c.args.commands.now a.commands a.are) run.served close.closed
    (run.buffers.long ∙ c.mount.auto.table)
    (search rules) (search rules) (search rules)
