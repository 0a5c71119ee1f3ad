-- THE COMMAND PUT over pages, work table and state (document 01, "Nodes and tree", and question 9). The table of the moment decides; then come
-- "the nodes from root to leaf" read, and one edit, or the splits.
use Rattle.std.specs.Prelude.{List, ℕ, ◌+◌, ◌*◌, ◌-◌, ltb, length, get_or}
use Rattle.laws.specs.Tests.{choose}
use Rattle.layout.specs.Layout.{node_limit, most_nodes}
use Rattle.account.specs.declared.Tariff.{Tariff}
use Rattle.command.specs.declared.Answer.{Answer}
use Rattle.command.specs.declared.Answer.TheVariants.{Absent, Replaced, Refused}
use Rattle.command.specs.Answer.{value_or}
use Rattle.pairs.specs.Pairs.{lookup}
use Rattle.node.specs.Node.{Node, pairs_of}
use Rattle.node.specs.Change as Change
use Rattle.tree.specs.Table.{Table, path, leaf_for}
use Rattle.tree.specs.Put.{ids_needed}
use Rattle.book.specs.Command.{no_ids}
use Rattle.flash_rows.specs.Worktable.{Worktable}
use Rattle.store.specs.Serve.{edit}
use Rattle.flash_allocate.specs.declared.state.State.{State}
use Rattle.flash_allocate.specs.World.{World}
use Rattle.run_serve.specs.Step.{Charged, Answered, ChargedAs, AnsweredAs}
use Rattle.run_serve.specs.Serve.{serve_holding, charge}
use Rattle.run_path.specs.Path.{table_in, steps_in}
use Rattle.run_path.specs.Reads.{read_all, read_charges}
use Rattle.node.specs.Fit.{by_fit, fit_of}
use Rattle.run_split.specs.Growing.{Grew}
use Rattle.run_split.specs.SplitUpwards.{split_upwards}

-- Requests that were served: the world after them, and what they were charged.
pub record Requests : Type 0 where
  pub now : World
  pub charge : ℕ

abbrev pub requests : World → ℕ → Requests
requests now charge = record { now = now; charge = charge }

-- The last node of a path.
abbrev pub last_of : List ℕ → ℕ
last_of ids = get_or ids (length ids - 1) 0

-- "Hang .. of a present route, and a hang that fits, are one edit": of a leaf whose content x of before the reads is in hand.
unfoldable pub read_and_edit : Tariff → List ℕ → ℕ → Node → ℕ → ℕ → World → Requests
read_and_edit t on_path leaf x key value w =
    let read = read_all t on_path w in
    let work = edit (Change.put key value) in
    requests (serve_holding t leaf x work read) (read_charges t on_path w + charge t leaf work read)

unfoldable pub read_and_split : Tariff → List ℕ → ℕ → ℕ → World → Requests
read_and_split t on_path key value w =
    let read = read_all t on_path w in
    requests (split_upwards t key value on_path read).now (read_charges t on_path w + (split_upwards t key value on_path read).charge)

-- A command that is done: the world after it, what was charged, and its answer.
pub record Doing : Type 0 where
  pub now : World
  pub charge : ℕ
  pub answer : Answer

abbrev pub doing : World → ℕ → Answer → Doing
doing now charge answer = record { now = now; charge = charge; answer = answer }

abbrev pub answering : Answer → Requests → Doing
answering answer r = doing r.now r.charge answer

-- "Then it changes nothing, serves no node request and charges nothing."
abbrev pub refused : World → Doing
refused w = doing w 0 (Refused no_ids)

-- A new key for a full leaf: "are enough node ids unused? (9)"
unfoldable pub put_splitting : Tariff → List ℕ → ℕ → ℕ → ℕ → World → Doing
put_splitting t on_path needed key value w =
    choose (ltb (node_limit w.state.blocks) (w.state.nodes + needed)) (refused w) (answering Absent (read_and_split t on_path key value w))

unfoldable pub put_in : Table → Tariff → ℕ → ℕ → World → Doing
put_in table t key value w =
    let on_path = path (steps_in w) table key 0 in
    let leaf = leaf_for (steps_in w) table key 0 in
    by_fit (fit_of key (pairs_of (table leaf)))
    (answering (value_or Replaced (lookup key (pairs_of (table leaf)))) (read_and_edit t on_path leaf (table leaf) key value w))
    (put_splitting t on_path (ids_needed table on_path) key value w)

abbrev pub put : Tariff → ℕ → ℕ → World → Doing
put t key value w = put_in (table_in w) t key value w

-- At most so many requests are charged for one command: a node of a path is read, and edited twice at most, and a path has no more nodes than there
-- are. It keeps the sum of a batch within 64 bits; how many a sound tree takes is counted in `demands`.
abbrev pub most_served : ℕ
most_served = 3 * most_nodes

-- What the code of the requests leaves.
abbrev pub RequestsAs : ℕ → ℕ → List (List ℕ) → Worktable → Charged → State → Requests → Type 0
RequestsAs pool_length table_length pages table r before right =
    ChargedAs Grew pool_length table_length pages table r before most_served right.now right.charge

-- What the code of a command leaves: the world, the charge and the answer of the definition.
abbrev pub DoneAs : ℕ → ℕ → List (List ℕ) → Worktable → Answered → State → Doing → Type 0
DoneAs pool_length table_length pages table r before right =
    AnsweredAs Grew pool_length table_length pages table r before most_served right.now right.charge right.answer
