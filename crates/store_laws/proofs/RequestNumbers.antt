-- How many sequence numbers a node request takes: at most four, and a create at most two. Assumes nothing.
use Rattle.std.specs.Prelude.{ℕ, ◌+◌, ◌≤◌, ◌<◌}
use Rattle.account.specs.declared.Mode.{Mode}
use Rattle.node.specs.Node.{Node}
use Rattle.store.specs.Run.{Run}
use Rattle.store.specs.Serve.{Work, serve, create}
use Rattle.store_laws.specs.Keeps.{Keeps}
use Rattle.store_laws.proofs.Keeps.{holds_node, holds_mode}
use Rattle.store_laws.specs.Numbers.{last}
use Rattle.store_laws.proofs.Numbers.{write_group-last, switched-last}

module _ {B N : ℕ} {table : ℕ → Node} {modes : ℕ → Mode} {run : Run} (v : Keeps B N table modes run) (n : ℕ) (l : n < N) where
  -- A REQUEST takes at most four numbers
  pub serve-last : (m : Mode) (w : Work) → last (serve m n w run) ≤ 4 + last run
  unfolding serve
  serve-last m w =
      rw (holds_node (v.holds n l), holds_mode (modes n) (v.holds n l)) (switched-last v n l (modes n) m w)

-- A CREATE takes at most two
pub create-last : (n : ℕ) (x : Node) (run : Run) → last (create n x run) ≤ 2 + last run
unfolding create
create-last n x run = write_group-last n x run
