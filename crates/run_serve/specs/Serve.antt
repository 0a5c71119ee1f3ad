-- ONE NODE REQUEST (document 01, "Nodes and tree": "A request that switches writes the content for the switch, then its own change").
use Rattle.std.specs.Prelude.{List, ℕ, ltb}
use Rattle.laws.specs.Tests.{choose}
use Rattle.account.specs.declared.Request.{Request}
use Rattle.account.specs.declared.Request.TheVariants.{Read, Edit, Rewrite}
use Rattle.account.specs.declared.Tariff.{Tariff}
use Rattle.node.specs.Node.{Node}
use Rattle.flash_rows.specs.Worktable.{Worktable}
use Rattle.store.specs.Serve.{Work, read, edit, rewrite}
use Rattle.flash_allocate.specs.World.{World, Kept}
use Rattle.run_serve.specs.Step.{Charged, ChargedAs}
use Rattle.run_serve.specs.Content.{content_of, content_after}
use Rattle.run_serve.specs.Write.{write}
use Rattle.run_serve.specs.Settle.{served_at, settle}

-- What Account calls it.
abbrev pub request_of : Work → Request
request_of read = Read
request_of (edit c) = Edit
request_of (rewrite x) = Rewrite

-- A request of a node that is there and has the content x: its account settled, then its own change.
unfoldable pub serve_there : Tariff → ℕ → Node → Work → World → World
serve_there t n x work w =
    write (served_at t (request_of work) n w).account.mode n work (content_after work x) (settle t (request_of work) n x w)

-- A request of a node whose content x the caller has in hand. Of a node that is not there nothing is served, and nothing charged.
unfoldable pub serve_holding : Tariff → ℕ → Node → Work → World → World
serve_holding t n x work w = choose (ltb n w.state.nodes) (serve_there t n x work w) w

-- A request that reads its content itself, before any page is written.
unfoldable pub serve : Tariff → ℕ → Work → World → World
serve t n work w = serve_holding t n (content_of n w) work w

unfoldable pub charge : Tariff → ℕ → Work → World → ℕ
charge t n work w = choose (ltb n w.state.nodes) (served_at t (request_of work) n w).charge 0

-- What the code of a request leaves: this world, and this charge.
abbrev pub ServedAs : ℕ → ℕ → List (List ℕ) → Worktable → Charged → Tariff → ℕ → Work → World → Type 0
ServedAs pool_length table_length pages table r t n work w =
    ChargedAs Kept pool_length table_length pages table r w.state 1 (serve t n work w) (charge t n work w)

-- The same of a request whose content is in hand: the charge does not ask for it.
abbrev pub ServedHolding : ℕ → ℕ → List (List ℕ) → Worktable → Charged → Tariff → ℕ → Node → Work → World → Type 0
ServedHolding pool_length table_length pages table r t n x work w =
    ChargedAs Kept pool_length table_length pages table r w.state 1 (serve_holding t n x work w) (charge t n work w)
