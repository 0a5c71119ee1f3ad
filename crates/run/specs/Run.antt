-- What commands make of pages, table and state: the world after one and after all, what is charged, and what is answered (document 01, "Commands
-- and answers"; document 02, P2 and P3).
use Rattle.std.specs.Prelude.{◌≡◌, List, ℕ, ◌+◌, length}
use Rattle.laws.specs.Lay.{lay}
use Rattle.layout.specs.Layout.{last_key}
use Rattle.pairs.specs.Pairs.{first}
use Rattle.account.specs.declared.Tariff.{Tariff}
use Rattle.command.specs.declared.Answer.TheVariants.{Got, Deleted}
use Rattle.command.specs.declared.Command.{Command}
use Rattle.command.specs.declared.Command.TheVariants.{Get, Put, Delete, Scan, Panel, Ceiling}
use Rattle.command.specs.Answer.{value_or}
use Rattle.book.specs.Command.{Reply, short, listed, silent, ceiling_reply, reply_bytes, replies_bytes}
use Rattle.book.specs.Session.{Session, at_first}
use Rattle.book.specs.InTurn.{each_panel, after_all, replies_to, charge_on}
use Rattle.flash_rows.specs.Worktable.{Worktable}
use Rattle.flash_allocate.specs.declared.state.State.{State}
use Rattle.flash_allocate.specs.declared.flash.Flash.{Flash}
use Rattle.flash_allocate.specs.World.{World, world}
use Rattle.flash_allocate.specs.Flash.{world_of}
use Rattle.run_serve.specs.Step.{Charged, ChargedAs, InBytes}
use Rattle.run_path.specs.Descend.{descent}
use Rattle.run_lookup.specs.Value.{value_in}
use Rattle.run_lookup.specs.Delete.{delete, delete_charge}
use Rattle.run_scan.specs.Scan.{scan_world, scan_charge, scan_pairs}
use Rattle.run_split.specs.Growing.{Grew}
use Rattle.run_put.specs.Put.{put, most_served}
use Rattle.run.specs.declared.Progress as code
use Rattle.run.specs.declared.Ran as code_ran
use Rattle.run.specs.Session.{Ran, ran_in}

-- One command in a session: the world after it, its charge, its reply.
abbrev pub command_world : Session → Command → World → World
command_world n (Get k) w = (descent n.tariff k w).now
command_world n (Put k v) w = (put n.tariff k v w).now
command_world n (Delete k) w = delete n.tariff k w
command_world n (Scan low high most) w = scan_world n.tariff low high most w
command_world n (Panel panel) w = w
command_world n (Ceiling k) w = scan_world n.tariff k last_key 1 w

abbrev pub command_charge : Session → Command → World → ℕ
command_charge n (Get k) w = (descent n.tariff k w).charge
command_charge n (Put k v) w = (put n.tariff k v w).charge
command_charge n (Delete k) w = delete_charge n.tariff k w
command_charge n (Scan low high most) w = scan_charge n.tariff low high most w
command_charge n (Panel panel) w = 0
command_charge n (Ceiling k) w = scan_charge n.tariff k last_key 1 w

abbrev pub command_reply : Session → Command → World → Reply
command_reply n (Get k) w = short (value_or Got (value_in n.tariff k w))
command_reply n (Put k v) w = short (put n.tariff k v w).answer
command_reply n (Delete k) w = short (value_or Deleted (value_in n.tariff k w))
command_reply n (Scan low high most) w = listed (scan_pairs n.tariff low high most w)
command_reply n (Panel panel) w = silent
command_reply n (Ceiling k) w = ceiling_reply (first (scan_pairs n.tariff k last_key 1 w))

-- All commands in turn: the world after them, what they are answered, the charge of one panel and of each.
abbrev pub run_world : List Command → Session → World → World
run_world = after_all command_reply command_world

abbrev pub run_replies : List Command → Session → World → List Reply
run_replies = replies_to command_reply command_world

abbrev pub run_charge : ℕ → List Command → Session → World → ℕ
run_charge = charge_on command_reply command_world command_charge

abbrev pub run_charges : List Command → Session → World → List ℕ
run_charges cs n w = each_panel (λ q. run_charge q cs n w)

-- How far a command has come: the state, what was charged, and how many bytes of answers are laid.
pub record Progress : Type 0 where
  pub charged : Charged
  pub at : ℕ

abbrev pub progress_in : State → code.Progress → Progress
progress_in s r = record { charged = record { state = s; charge = r.charge }; at = r.at }

-- What the code of one command leaves: this world, this charge, and its reply laid at a place of the answer buffer.
pub record CommandAs (pool_length table_length : ℕ) (pages : List (List ℕ)) (table : Worktable) (before after : List ℕ) (r : Progress) (n : Session)
    (c : Command) (at : ℕ) (w : World) : Type 0 where
  pub charged : ChargedAs Grew pool_length table_length pages table r.charged w.state most_served (command_world n c w) (command_charge n c w)
  pub answers : after ≡ lay before at (reply_bytes (command_reply n c w))
  pub behind : r.at ≡ at + length (reply_bytes (command_reply n c w))

-- What the code of a whole batch leaves.
pub record RunAs (pool_length table_length : ℕ) (pages : List (List ℕ)) (table : Worktable) (before after charges : List ℕ) (r : Ran) (t : Tariff)
    (cs : List Command) (w : World) : Type 0 where
  pub kept : Grew pool_length table_length w.state (world pages table r.state) (run_world cs (at_first t) w)
  pub paid : charges ≡ run_charges cs (at_first t) w
  pub answers : after ≡ lay before 0 (replies_bytes (run_replies cs (at_first t) w))
  pub behind : r.at ≡ length (replies_bytes (run_replies cs (at_first t) w))

-- The same of lent buffers and a state.
abbrev pub Commands : Flash → Flash → List ℕ → List ℕ → code.Progress → Session → Command → ℕ → Type 0
Commands before behind empty after r n c at =
    InBytes CommandAs behind.pool.now behind.table.now empty after (progress_in behind.state r) n c at (world_of before)

abbrev pub Runs : Flash → Flash → List ℕ → List ℕ → List ℕ → code_ran.Ran → Tariff → List Command → Type 0
Runs before behind empty after charges r t cs =
    InBytes RunAs behind.pool.now behind.table.now empty after charges (ran_in behind.state r) t cs (world_of before)
