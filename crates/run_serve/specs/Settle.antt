-- The account of a request settled (document 01, "Account": "switch first, charge switch and t, score 0; else charge h, score s").
use Rattle.std.specs.Prelude.{◌≡◌, Bool, true, false, List, ℕ, get_or}
use Rattle.laws.specs.Tests.{choose}
use Rattle.account.specs.declared.Mode.{Mode}
use Rattle.account.specs.declared.Mode.TheVariants.{Log, Disk}
use Rattle.account.specs.declared.Request.{Request}
use Rattle.account.specs.declared.Tariff.{Tariff}
use Rattle.account.specs.declared.Account.{Account}
use Rattle.account.specs.declared.Served.{Served}
use Rattle.account.specs.Serve.{serve_of}
use Rattle.node.specs.Node.{Node}
use Rattle.flash_rows.specs.Row.{no_row}
use Rattle.flash_rows.specs.Worktable.{Worktable, with_row}
use Rattle.flash_rows.specs.Step.{scored}
use Rattle.flash_rows.specs.declared.Row.{Row}
use Rattle.flash_allocate.specs.declared.state.State.{State}
use Rattle.flash_allocate.specs.World.{World, world, Kept}
use Rattle.run_serve.specs.Step.{Charged, ChargedAs}
use Rattle.run_serve.specs.Write.{write_whole}

-- The account that a row keeps, and that of node n.
abbrev pub account_in : Row → Account
account_in row = record { mode = row.mode; score = row.score }

abbrev pub account_at : ℕ → World → Account
account_at n w = account_in (get_or w.table.rows n no_row)

-- What the account of node n makes of a request: the account after it, and the charge.
abbrev pub served_at : Tariff → Request → ℕ → World → Served
served_at t q n w = serve_of t (account_at n w) q

abbrev pub same_mode : Mode → Mode → Bool
same_mode Log Log = true
same_mode Log Disk = false
same_mode Disk Log = false
same_mode Disk Disk = true

-- "A request that switches writes the content for the switch": the content x that the node has, in the mode that serves.
unfoldable pub switch : Mode → Mode → ℕ → Node → World → World
switch from to n x w = choose (same_mode from to) w (write_whole to n x w)

-- The work table with another score of node n.
unfoldable pub rescored : ℕ → ℕ → Worktable → Worktable
rescored n score t = with_row n (scored score (get_or t.rows n no_row)) t

-- The switch from a mode as the account after the request says, then its score. The row is the one that the switch leaves.
unfoldable pub settle_by : Mode → Account → ℕ → Node → World → World
settle_by from after n x w =
    let switched = switch from after.mode n x w in
    world switched.pages (rescored n after.score switched.table) switched.state

abbrev pub settle : Tariff → Request → ℕ → Node → World → World
settle t q n x w = settle_by (account_at n w).mode (served_at t q n w).account n x w

-- What is charged in the state that the switch left, and the mode that serves the request.
pub record Settled : Type 0 where
  pub charged : Charged
  pub mode : Mode

abbrev pub settled_by : State → Served → Settled
settled_by s served = record { charged = record { state = s; charge = served.charge }; mode = served.account.mode }

-- What the code of it leaves: this world and this charge, and the mode that the account says.
pub record SettledAs (pool_length table_length : ℕ) (pages : List (List ℕ)) (table : Worktable) (r : Settled) (t : Tariff) (q : Request) (n : ℕ)
    (x : Node) (w : World) : Type 0 where
  pub charged : ChargedAs Kept pool_length table_length pages table r.charged w.state 1 (settle t q n x w) (served_at t q n w).charge
  pub mode : r.mode ≡ (served_at t q n w).account.mode
