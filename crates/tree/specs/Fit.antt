-- What the store has to know of a list of node requests: each is of a node that is there, each new content is a neat node, an
-- edit sets a link by the node's own kind, and a create takes the next id, below the limit (document 01: "Node 0 is the root; ids
-- run from 0 without gaps"). Assumes nothing.
use Rattle.std.specs.Prelude.{◌≡◌, List, [], ◌∷◌, ℕ, ◌<◌}
use Rattle.node.specs.Node.{Neat}
use Rattle.node.specs.Change.{Suits, change}
use Rattle.tree.specs.Table.{Table}
use Rattle.tree.specs.NodeRequest.{NodeRequest, read, edit, rewrite, create, apply, count_after}

-- One request at a table with a count.
abbrev pub Fit : ℕ → NodeRequest → Table → ℕ → Type 0
Fit limit (read id) table count = id < count
Fit limit (edit id c) table count = (id < count) × Neat (change c (table id)) × Suits c (table id)
Fit limit (rewrite id n) table count = (id < count) × Neat n
Fit limit (create id n) table count = (id ≡ count) × (id < limit) × Neat n

-- A list of them, each at the table and count of its moment, up to a final count.
abbrev pub Fits : ℕ → List NodeRequest → Table → ℕ → ℕ → Type 0
Fits limit [] table count final = count ≡ final
Fits limit (r ∷ rs) table count final = Fit limit r table count × Fits limit rs (apply r table) (count_after r count) final
