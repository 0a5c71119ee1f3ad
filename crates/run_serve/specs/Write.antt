-- What a request writes of its node, by the mode that the node is in then (document 01, "Nodes and tree").
use Rattle.std.specs.Prelude.{ℕ}
use Rattle.account.specs.declared.Mode.{Mode}
use Rattle.account.specs.declared.Mode.TheVariants.{Log, Disk}
use Rattle.node.specs.Node.{Node}
use Rattle.node.specs.Change.{Change}
use Rattle.store.specs.Serve.{Work, read, edit, rewrite}
use Rattle.flash_allocate.specs.World.{World}
use Rattle.flash_write.specs.Group.{group}
use Rattle.flash_write.specs.NodePage.{node_page}
use Rattle.flash_write.specs.Edit as LogMode

-- "Rewrite, create, and switch to log write the whole content"; "in disk mode every change, and a switch to disk, writes a new disk page".
abbrev pub write_whole : Mode → ℕ → Node → World → World
write_whole Log n x w = group n x w
write_whole Disk n x w = node_page n x w

-- An edit that leaves the content x.
abbrev pub write_edit : Mode → ℕ → Change → Node → World → World
write_edit Log n c x w = LogMode.edit n c x w
write_edit Disk n c x w = node_page n x w

-- What a request that leaves the content x writes, in the mode that serves it.
abbrev pub write : Mode → ℕ → Work → Node → World → World
write mode n read x w = w
write mode n (edit c) x w = write_edit mode n c x w
write mode n (rewrite y) x w = write_whole mode n x w
