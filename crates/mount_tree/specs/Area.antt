-- What the check keeps behind the kept bytes of the work table: a slot for each node due, then a mark for each id. Assumes nothing.
use Rattle.std.specs.Prelude.{◌≡◌, Bool, true, List, [], ◌∷◌, ◌++◌, ℕ, suc, ◌+◌, ◌-◌, ◌*◌, ◌≤◌, ◌<◌, length, get_or, take, drop, set, Option, None, Some, IfSome}
use Rattle.laws.specs.Lay.{part}
use Rattle.layout.specs.Layout.{bound32, due_bytes, work_bytes}
use Rattle.node.specs.declared.NodeValue.{NodeValue}
use Rattle.node.specs.Value.{node_of, Sized}
use Rattle.tree.specs.Table.{Table}
use Rattle.tree.specs.Sound.{Walk, no_marks, complete}
use Rattle.flash_allocate.specs.declared.state.State.{State}
use Rattle.flash_read.specs.NodeTable.{Readable}
use Rattle.mount_tree.specs.declared.due.Due.{Due}
use Rattle.mount_tree.specs.declared.walk.WalkValue.{WalkValue}
use Rattle.mount_tree.specs.Due.{dues_of, no_due}
use Rattle.mount_tree.specs.Passes.{passes}
use Rattle.mount_tree.specs.Pending.{visit_all}
use Rattle.mount_tree.specs.Reached.{reached_in}

unfoldable pub dues_in : ℕ → ℕ → List ℕ → List Due
dues_in kept nodes table = dues_of (part table kept (due_bytes * nodes))

unfoldable pub marks_in : ℕ → ℕ → List ℕ → List ℕ
marks_in kept nodes table = part table (kept + due_bytes * nodes) nodes

-- What a check asks: nodes that can be read by the kept bytes, and room behind these.
pub record Checkable (s : State) (kept : ℕ) (table : List ℕ) : Type 0 where
  pub readable : Readable s (take kept table)
  pub room : kept + work_bytes s.nodes ≤ length table

-- A walk by value stands in the table: the nodes due from a slot on, and at least as many slots in front of them as ids were reached.
pub record Standing (kept nodes : ℕ) (table : List ℕ) (w : WalkValue) : Type 0 where
  pub top : w.top ≤ nodes
  pub free : w.reached ≤ w.top
  pub reached : w.reached ≡ reached_in (marks_in kept nodes table)

-- The walk so far, and what it comes to: the nodes due, visited.
abbrev pub walk_in : ℕ → ℕ → List ℕ → WalkValue → Walk
walk_in kept nodes table w = record { awaited = w.awaited; marks = marks_in kept nodes table }

unfoldable pub comes_to : Table → ℕ → ℕ → List ℕ → WalkValue → Option Walk
comes_to tree kept nodes table w = visit_all tree (drop w.top (dues_in kept nodes table)) w.low (walk_in kept nodes table w)

-- The same behind a step: nothing, where the step gave none.
abbrev pub goes_on : Table → ℕ → ℕ → List ℕ → Option WalkValue → Option Walk
goes_on tree kept nodes table None = None
goes_on tree kept nodes table (Some w) = comes_to tree kept nodes table w

-- What a mark leaves of the table; and what children leave that are pushed from a base slot on, in front of what stands behind them.
pub record Marks (kept nodes id : ℕ) (before after : List ℕ) : Type 0 where
  pub same : take kept after ≡ take kept before
  pub dues : dues_in kept nodes after ≡ dues_in kept nodes before
  pub marks : marks_in kept nodes after ≡ set (marks_in kept nodes before) id 1

pub record Pushes (kept nodes base behind : ℕ) (children : List Due) (before after : List ℕ) : Type 0 where
  pub same : take kept after ≡ take kept before
  pub dues : drop base (dues_in kept nodes after) ≡ children ++ drop behind (dues_in kept nodes before)
  pub marks : marks_in kept nodes after ≡ marks_in kept nodes before

-- The root alone due in the last slot, and no id reached.
abbrev pub root_due : ℕ → Due
root_due depth = record { id = 0; depth = depth; high = bound32 }

pub record Begun (kept nodes depth : ℕ) (before after : List ℕ) : Type 0 where
  pub same : take kept after ≡ take kept before
  pub dues : drop (nodes - 1) (dues_in kept nodes after) ≡ root_due depth ∷ []
  pub marks : marks_in kept nodes after ≡ no_marks nodes

-- A step of the walk: what is left, done from here, gives the whole, and one id more was reached; or nothing comes of it.
pub record Stepped (tree : Table) (kept nodes : ℕ) (before : List ℕ) (w : WalkValue) (after : List ℕ) (r : Option WalkValue) : Type 0 where
  pub same : take kept after ≡ take kept before
  pub is : goes_on tree kept nodes after r ≡ comes_to tree kept nodes before w
  pub standing : IfSome r (λ v. Standing kept nodes after v)
  pub more : IfSome r (λ v. v.reached ≡ suc w.reached)

-- What a visit of the next node due is given, once that node was read and passes; and what the visit is, in every tree that has this node.
pub record NextDue (kept nodes : ℕ) (table : List ℕ) (v : NodeValue) (due : Due) (w : WalkValue) : Type 0 where
  pub room : kept + work_bytes nodes ≤ length table
  pub standing : Standing kept nodes table w
  pub inside : w.top < nodes
  pub is : due ≡ get_or (dues_in kept nodes table) w.top no_due
  pub sized : Sized v
  pub pass : passes due.depth due.id w.low due.high (walk_in kept nodes table w) (node_of v) ≡ true

abbrev pub Visits : ℕ → ℕ → List ℕ → NodeValue → Due → WalkValue → List ℕ → Option WalkValue → Type 0
Visits kept nodes before v due w after r = (tree : Table) → node_of v ≡ tree due.id → Stepped tree kept nodes before w after r

-- The answer of a whole walk.
pub record Walked (tree : Table) (kept nodes : ℕ) (before : List ℕ) (w : WalkValue) (after : List ℕ) (answer : Bool) : Type 0 where
  pub same : take kept after ≡ take kept before
  pub is : answer ≡ complete (comes_to tree kept nodes before w)
