-- THE WALK DOWN to the leaf of a key (document 01, "Nodes and tree": every command reads "the nodes from root to leaf"): each node is read when it
-- is come to, and where it leads is said by its content of before that read.
use Rattle.std.specs.Prelude.{◌≡◌, List, ℕ, zero, suc, ◌+◌, None, Some}
use Rattle.layout.specs.Layout.{node_limit, most_blocks}
use Rattle.account.specs.declared.Tariff.{Tariff}
use Rattle.node.specs.declared.NodeValue.{NodeValue}
use Rattle.node.specs.Node.{Node}
use Rattle.node.specs.Value.{Becomes}
use Rattle.tree.specs.Table.{child_for}
use Rattle.store.specs.Serve.{read}
use Rattle.flash_rows.specs.Worktable.{Worktable}
use Rattle.flash_allocate.specs.declared.state.State.{State}
use Rattle.flash_allocate.specs.declared.flash.Flash.{Flash}
use Rattle.flash_allocate.specs.Flash.{world_of}
use Rattle.flash_allocate.specs.World.{World, Kept}
use Rattle.run_serve.specs.Serve.{serve, charge}
use Rattle.run_serve.specs.Step.{Charged, ChargedAs, InBytes}
use Rattle.run_path.specs.declared.descend.Descended.{Descended}
use Rattle.run_path.specs.Path.{table_in, steps_in}

-- A walk: the world after its reads, what they are charged, and the node at its end, with its id.
pub record Descent : Type 0 where
  pub now : World
  pub charge : ℕ
  pub leaf : ℕ
  pub node : Node

-- A walk that ends at a node: its read, and its content in hand.
abbrev pub ended : Tariff → ℕ → World → Descent
ended t id w = record { now = serve t id read w; charge = charge t id read w; leaf = id; node = table_in w id }

-- A walk behind reads that were charged so much.
abbrev pub further : ℕ → Descent → Descent
further paid d = record { now = d.now; charge = paid + d.charge; leaf = d.leaf; node = d.node }

-- From a node on, by at most so many steps: the node is read, and the walk goes on at the child that the key leads to, in the world after the read.
unfoldable pub descend : ℕ → Tariff → ℕ → ℕ → World → Descent
descend zero t k id w = ended t id w
descend (suc fuel) t k id w =
    elim (child_for k (table_in w id)) [
      | None ↦ ended t id w
      | Some child ↦ further (charge t id read w) (descend fuel t k child (serve t id read w))
    ]

-- From the root on: "Node 0 is the root".
abbrev pub descent : Tariff → ℕ → World → Descent
descent t k w = descend (steps_in w) t k 0 w

-- What the code of it answers, with the state that it leaves.
pub record Arrived : Type 0 where
  pub charged : Charged
  pub id : ℕ
  pub leaf : NodeValue

abbrev pub arrived : State → Descended → Arrived
arrived s r = record { charged = record { state = s; charge = r.charge }; id = r.id; leaf = r.leaf }

-- What the code of it leaves: this world and this charge, the id of the node at the end, and its content.
pub record DescendedAs (pool_length table_length : ℕ) (pages : List (List ℕ)) (table : Worktable) (r : Arrived) (t : Tariff) (k : ℕ) (w : World) : Type 0 where
  pub charged : ChargedAs Kept pool_length table_length pages table r.charged w.state (node_limit most_blocks) (descent t k w).now
      (descent t k w).charge
  pub id : r.id ≡ (descent t k w).leaf
  pub leaf : Becomes r.leaf (descent t k w).node

-- The same said of lent buffers and their state.
abbrev pub Descends : Flash → Flash → Descended → Tariff → ℕ → Type 0
Descends before behind r t k = InBytes DescendedAs behind.pool.now behind.table.now (arrived behind.state r) t k (world_of before)
