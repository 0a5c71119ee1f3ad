-- AN ACCEPTED BATCH: from a pool that the code mounted, the code's commands and its checkpoint leave what the model's batch leaves. Assumes nothing.
use Rattle.std.specs.Prelude.{◌≡◌, refl, List, ℕ, ◌*◌, ◌≤◌, length, Option, None, Some}
use Rattle.std.proofs.Common.{sym, ap, ◌∙◌, subst, arith}
use Rattle.laws.specs.BigEndian.{Bytes}
use Rattle.laws.specs.Lay.{lay}
use Rattle.layout.specs.Layout.{fewest_blocks, block_bytes, node_limit}
use Rattle.account.specs.declared.Tariff.{Tariff}
use Rattle.command.specs.declared.Command.{Command}
use Rattle.command.specs.Batch.{commands_of}
use Rattle.tree.specs.Spells.{map_of}
use Rattle.book.specs.Command.{Reply, replies_bytes}
use Rattle.book.specs.Session.{at_first}
use Rattle.book.specs.EachPanel.{each_same}
use Rattle.store.specs.Reopen.{Cells}
use Rattle.model.specs.State.{book_of}
use Rattle.model.specs.State as Model
use Rattle.model.specs.Batch.{charge_of}
use Rattle.model.specs.Mount.{Mounted, refused, opened, mount_cells}
use Rattle.model.specs.Bytes.{cells_of}
use Rattle.model.specs.Pool.{blocks_of, mount_by, mount_of}
use Rattle.model.specs.PoolLaws.{blocks-length}
use Rattle.model.specs.Outcome.{Outcome, accept}
use Rattle.store_laws.specs.Numbers.{last}
use Rattle.demands.specs.Mount.{opened_mounts, mounts_ready}
use Rattle.demands.specs.Run.{Holds}
use Rattle.demands.specs.CommandBytes.{Batch, commands_of_batch}
use Rattle.flash_rows.specs.Worktable.{Worktable}
use Rattle.flash_blocks.specs.Pages.{pages_of}
use Rattle.flash_allocate.specs.declared.state.State.{State}
use Rattle.flash_allocate.specs.World.{World, world}
use Rattle.flash_checkpoint.specs.CheckpointPages.{checkpoint}
use Rattle.mount_refines.specs.Mount.Opens.{Opens}
use Rattle.run.specs.Run.{run_world, run_charge, run_charges, run_replies}
use Rattle.batch_refines.specs.Run.{RunAgrees, run_agrees}
use Rattle.batch_refines.specs.Ending.{pool-closed}

-- What a batch leaves of pool and answers, the length of its answers and the charges.
pub record Left (pool' answers' : List ℕ) (long : ℕ) (paid : List ℕ) (right : Outcome) : Type 0 where
  pub pool : pool' ≡ right.pool
  pub answers : answers' ≡ right.answers
  pub length : long ≡ right.length
  pub charges : paid ≡ right.charges

-- A pool that opens spells a map.
module _ {blocks : ℕ} (least : fewest_blocks ≤ blocks) (t : Tariff) (s : Model.State) where
  cells_hold : (c : Cells) → mount_cells blocks c ≡ opened t s → Holds (node_limit blocks) (book_of s) (map_of (book_of s).count (book_of s).table)
  cells_hold c e =
      let m = opened_mounts e in
      subst (λ (z : Model.State). Holds (node_limit blocks) (book_of z) (map_of (book_of z).count (book_of z).table)) (sym m.is)
      (mounts_ready least m.mounts).holds

  open_holds : (o : Option Cells) → mount_by blocks o ≡ opened t s → Holds (node_limit blocks) (book_of s) (map_of (book_of s).count (book_of s).table)
  open_holds (Some c) e = cells_hold c e
  open_holds None e = absurd (apart (refused 5) refl e)
    where
      number : Mounted → ℕ
      number (refused n) = n
      number (opened t s) = 0

      apart : (m : Mounted) → refused 5 ≡ m → m ≡ opened t s → ⊥
      apart m a b = let z : ◌≡◌ {A = ℕ} 5 0 = ap number (a ∙ b) in omega arith

module _ {pool : List ℕ} {table_length blocks : ℕ} {held : Worktable} {t : Tariff} {st : State} (o : Opens pool table_length blocks held t st)
    (least : fewest_blocks ≤ blocks) (size : length pool ≡ block_bytes * blocks) (batch : List ℕ) (bytes : Bytes batch)
    (cs : List Command) (are : commands_of batch ≡ Some cs) where
  abbrev w : World
  w = world (pages_of pool) held st

  abbrev s : Model.State
  s = o.state

  blocks_are : blocks_of pool ≡ blocks
  blocks_are = blocks-length pool blocks size

  holds : Holds (node_limit blocks) (book_of s) (map_of (book_of s).count (book_of s).table)
  unfolding mount_of
  holds = open_holds least t s (cells_of pool) (subst (λ (b : ℕ). mount_by b (cells_of pool) ≡ opened t s) blocks_are o.is)

  asked : Batch batch bytes cs
  asked = commands_of_batch batch bytes cs are

  number-left : last s.run ≤ 4000000000
  number-left = omega (arith, o.left, o.runs.agrees.mirrors.last)

  -- THE COMMANDS
  pub ran : RunAgrees blocks cs (at_first t) w s
  ran =
      run_agrees cs (at_first t) o.runs (map_of (book_of s).count (book_of s).table) holds asked.valid
      (omega (arith, asked.few, number-left))

  -- THE BATCH
  pub accepted : (table answers : List ℕ) (pool' : List ℕ) → pages_of pool' ≡ (checkpoint t (run_world cs (at_first t) w)).pages →
      (checkpoint t (run_world cs (at_first t) w)).state.blocks ≡ blocks → length pool' ≡ block_bytes * blocks →
      Left pool' (lay answers 0 (replies_bytes (run_replies cs (at_first t) w))) (length (replies_bytes (run_replies cs (at_first t) w)))
      (run_charges cs (at_first t) w) (accept blocks t cs s table answers)
  accepted table answers pool' e b l =
      record {
        pool = pool-closed ran.runs t (omega (arith, ran.number, asked.few, number-left)) pool' e b l;
        answers = ap (λ (rs : List Reply). lay answers 0 (replies_bytes rs)) ran.replies;
        length = ap (λ (rs : List Reply). length (replies_bytes rs)) ran.replies;
        charges =
            each_same (λ q. run_charge q cs (at_first t) w) (λ q. charge_of (node_limit blocks) q cs (at_first t) s) ran.charge;
      }
