-- `run::run_command` meets its contract: each command is served by its own function, then its reply is laid. Assumes nothing.
use Rattle.flash_allocate.specs.Flash.{world_of}
use Rattle.run.specs.Session.{session_of}
use Rattle.run.specs.Replies.{panel_replied}
use Rattle.run.proofs.run.run_command.Goals as goal

pub returns-in-Panel-clause-served : goal.returns-in-Panel-clause-served
returns-in-Panel-clause-served c =
    panel_replied (session_of c.args.session) (world_of c.args.flash.now) c.requires.grows c.in-Panel.is
