-- Look up (command 01): reads from root to leaf, and the value at the key there. Assumes nothing.
use Rattle.std.specs.Prelude.{List, map, ℕ, Option}
use Rattle.pairs.specs.Pairs.{lookup}
use Rattle.node.specs.Node.{pairs_of}
use Rattle.tree.specs.Table.{Table, path, leaf_for}
use Rattle.tree.specs.NodeRequest.{NodeRequest, read}

-- Every command reads the nodes from root to leaf.
abbrev pub reads_to : ℕ → Table → ℕ → List NodeRequest
reads_to count table k = map read (path count table k 0)

-- A look up does no more.
abbrev pub get_requests : ℕ → Table → ℕ → List NodeRequest
get_requests = reads_to

-- The value at the key in its leaf, if it is there.
unfoldable pub get_answer : ℕ → Table → ℕ → Option ℕ
get_answer count table k = lookup k (pairs_of (table (leaf_for count table k 0)))
