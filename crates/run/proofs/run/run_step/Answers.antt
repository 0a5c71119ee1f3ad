-- `run::run_step` meets its contract: a stretch of one command. Assumes nothing.
use Rattle.flash_allocate.specs.Flash.{world_of}
use Rattle.run.specs.Stretch.{one-fits, on_one}
use Rattle.run.proofs.run.run_step.Goals as goal

pub add-requires : goal.add-requires
add-requires c =
    let ready = c.requires.starts in
    (ready.sixteen, ready.current, one-fits {w = world_of c.args.flash.now} ready c.requires.range c.run_command-done.ensures.served)

pub returns-clause-served : goal.returns-clause-served
returns-clause-served c =
    on_one {w = world_of c.args.flash.now} c.requires.starts c.requires.range c.run_command-done.ensures.served _ c.add.ensures _
    c.session_after.ensures
