-- What a store that keeps a table of nodes and their modes is, and when a node request fits it. Assumes nothing.
use Rattle.std.specs.Prelude.{◌≡◌, ℕ, ◌<◌}
use Rattle.account.specs.declared.Mode.{Mode}
use Rattle.node.specs.Node.{Node, Neat}
use Rattle.node.specs.Change.{change, Suits}
use Rattle.node.specs.Replay.{made}
use Rattle.store.specs.Store.{Store, draft_of}
use Rattle.store.specs.Run.{Run}
use Rattle.store.specs.Serve.{Work, read, edit, rewrite}
use Rattle.store_laws.specs.Versions.{InMode}
use Rattle.store_laws.specs.Good.{Good}

-- A node's content is x, unbroken, and it is in this mode.
pub record Holds (st : Store) (n : ℕ) (x : Node) (m : Mode) : Type 0 where
  pub content : draft_of st n ≡ made x
  pub mode : InMode m st n

-- A run in good order with N nodes that holds a table of nodes and modes; every node is neat.
pub record Keeps (B N : ℕ) (table : ℕ → Node) (modes : ℕ → Mode) (run : Run) : Type 0 where
  pub good : Good B run
  pub nodes : run.nodes ≡ N
  pub holds : (n : ℕ) → n < N → Holds run.now n (table n) (modes n)
  pub neat : (n : ℕ) → n < N → Neat (table n)

-- What a request asks of its node: a change suits it and leaves it neat; a new content is neat.
abbrev pub Fits : Work → Node → Type 0
Fits read x = Unit {0}
Fits (edit c) x = Suits c x × Neat (change c x)
Fits (rewrite y) x = Neat y
