-- What a node request writes, by the mode that the node has and the mode that serves it (document 01, "Nodes and tree", its last
-- paragraph). Assumes nothing.
use Rattle.std.specs.Prelude.{[], ◌∷◌, ◌++◌, ℕ}
use Rattle.account.specs.declared.Mode.{Mode}
use Rattle.account.specs.declared.Mode.TheVariants.{Log, Disk}
use Rattle.node.specs.Node.{Node}
use Rattle.node.specs.Change.{Change, change}
use Rattle.store.specs.Store.{node_of, mode_of}
use Rattle.store.specs.Run.{Run, moment, write_group, write_edit, write_node}

-- What a request does to its node: nothing, one change, or a new content.
pub data Work : Type 0 where
  read : Work
  edit : Change → Work
  rewrite : Node → Work

-- the node after it
abbrev pub work_on : Work → Node → Node
work_on read x = x
work_on (edit c) x = change c x
work_on (rewrite y) x = y

-- "A request that switches writes the content for the switch": from the mode that the node has, to the one that serves.
abbrev pub switch : Mode → Mode → ℕ → Node → Run → Run
switch Log Log n old run = run
switch Log Disk n old run = write_node n old run
switch Disk Log n old run = write_group n old run
switch Disk Disk n old run = run

-- ".. then its own change", in the mode that serves.
abbrev pub work : Mode → ℕ → Work → Node → Run → Run
work mode n read old run = run
work Log n (edit c) old run = write_edit n c (change c old) run
work Disk n (edit c) old run = write_node n (change c old) run
work Log n (rewrite new) old run = write_group n new run
work Disk n (rewrite new) old run = write_node n new run

-- The state after a request is among those passed.
abbrev pub note : Run → Run
note run = record { nodes = run.nodes; now = run.now; passed = run.passed ++ (moment run.nodes run.now ∷ []) }

-- One node request, served in a mode: content and mode before it are what the store says.
unfoldable pub serve : Mode → ℕ → Work → Run → Run
serve mode n w run =
    let old = node_of run.now n in
    note (work mode n w old (switch (mode_of run.now n) mode n old run))

-- A create: "new nodes start in log mode". It is no request, but its state is passed like one.
unfoldable pub create : ℕ → Node → Run → Run
create n x run = note (write_group n x run)
