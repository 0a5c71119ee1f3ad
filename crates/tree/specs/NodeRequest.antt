-- What a command asks of a node, with the node's new content, and what it makes of a table (document 01, "Nodes and tree" and
-- "Account"). Assumes nothing.
use Rattle.std.specs.Prelude.{List, [], ◌∷◌, ℕ, suc}
use Rattle.laws.specs.Update.{update}
use Rattle.node.specs.Node.{Node}
use Rattle.node.specs.Change.{Change, change}
use Rattle.tree.specs.Table.{Table}

-- A read; an edit, which is one log entry's change; a rewrite of the whole content; a create of a new node.
pub data NodeRequest : Type 0 where
  read : ℕ → NodeRequest
  edit : ℕ → Change → NodeRequest
  rewrite : ℕ → Node → NodeRequest
  create : ℕ → Node → NodeRequest

-- The node of a request.
abbrev pub id_of : NodeRequest → ℕ
id_of (read id) = id
id_of (edit id c) = id
id_of (rewrite id n) = id
id_of (create id n) = id

-- The table after a request: a read leaves it, every other changes one node.
abbrev pub apply : NodeRequest → Table → Table
apply (read id) table = table
apply (edit id c) table = update table id (change c (table id))
apply (rewrite id n) table = update table id n
apply (create id n) table = update table id n

-- The table after a list of requests, in order.
abbrev pub apply_all : List NodeRequest → Table → Table
apply_all [] table = table
apply_all (r ∷ rs) table = apply_all rs (apply r table)

-- The node count after a request: a create adds one.
abbrev pub count_after : NodeRequest → ℕ → ℕ
count_after (read id) count = count
count_after (edit id c) count = count
count_after (rewrite id n) count = count
count_after (create id n) count = suc count

-- The node count after a list of requests.
abbrev pub count_after_all : List NodeRequest → ℕ → ℕ
count_after_all [] count = count
count_after_all (r ∷ rs) count = count_after_all rs (count_after r count)

-- A node after a list of changes, in order.
abbrev pub change_all : List Change → Node → Node
change_all [] n = n
change_all (c ∷ cs) n = change_all cs (change c n)
