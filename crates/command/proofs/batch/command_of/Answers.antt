-- `command::batch::command_of` meets its contract: each tag has the payload length of the table. Assumes nothing.
use Rattle.std.proofs.Common.{arith}
use Rattle.command.specs.CommandLaws.{payload-get, payload-put, payload-delete, payload-scan, payload-panel, payload-ceiling}
use Rattle.command.proofs.batch.command_of.Goals as goal

pub read32-requires : goal.read32-requires
read32-requires c = omega (arith, payload-get _ _ c.requires c.in-1.is)

pub read32-requires-in-2 : goal.read32-requires-in-2
read32-requires-in-2 c = omega (arith, payload-put _ _ c.requires c.in-2.is)

pub read32-requires-in-2-2 : goal.read32-requires-in-2-2
read32-requires-in-2-2 c = omega (arith, payload-put _ _ c.requires c.in-2.is)

pub read32-requires-in-3 : goal.read32-requires-in-3
read32-requires-in-3 c = omega (arith, payload-delete _ _ c.requires c.in-3.is)

pub scan_of-requires : goal.scan_of-requires
scan_of-requires c = payload-scan _ _ c.requires c.in-4.is

pub panel_of-requires : goal.panel_of-requires
panel_of-requires c = payload-panel _ _ c.requires c.in-5.is

pub read32-requires-in-7 : goal.read32-requires-in-7
read32-requires-in-7 c = omega (arith, payload-ceiling _ _ c.requires c.in-7.is)
