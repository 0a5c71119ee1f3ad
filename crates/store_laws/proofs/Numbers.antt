-- How many sequence numbers are taken: a page takes one, a fresh start one. A node just written as a group lies on no page, so the edit
-- behind a switch to log writes no second group. Assumes nothing.
use Rattle.std.specs.Prelude.{◌≡◌, refl, Bool, true, false, List, ℕ, suc, ◌+◌, ◌≤◌, ◌<◌, leb, length}
use Rattle.std.proofs.Common.{arith, leb-true}
use Rattle.layout.specs.Layout.{most_entries, most_log_pages}
use Rattle.account.specs.declared.Mode.{Mode}
use Rattle.account.specs.declared.Mode.TheVariants.{Log, Disk}
use Rattle.node.specs.Node.{Node}
use Rattle.node.specs.Change.{Change, change, changes_of}
use Rattle.page.specs.Page.{Entry, Content, Page}
use Rattle.store.specs.View.{pages}
use Rattle.store.specs.Store.{view}
use Rattle.store.specs.Write.{place, enter, start}
use Rattle.store.specs.Run.{Run, write, room_by, make_room, write_group, edit_by, write_edit, write_node}
use Rattle.store.specs.Serve.{Work, read, edit, rewrite, switch, work}
use Rattle.store_laws.specs.Contents.{neat_fits}
use Rattle.store_laws.specs.Good.{Good}
use Rattle.store_laws.proofs.Good.{make_room-roomy, write_group-done, write_group-pages}
use Rattle.store_laws.specs.Keeps.{Keeps}
use Rattle.store_laws.proofs.Keeps.{write_group-nodes}
use Rattle.store_laws.specs.Numbers.{last}

pub write-last : (closing : Page → Bool) (c : Content) (rest : List Entry) (run : Run) → last (write closing c rest run) ≡ suc (last run)
unfolding write place
write-last closing c rest run = refl

pub make_room-last : (k : ℕ) (run : Run) → last (make_room k run) ≤ suc (last run)
unfolding make_room write place
make_room-last k run = go (leb (k + length run.now.buffer) most_entries)
  where
    go : (b : Bool) → last (room_by b run) ≤ suc (last run)
    go true = omega arith
    go false = omega arith

pub write_group-last : (n : ℕ) (x : Node) (run : Run) → last (write_group n x run) ≤ 2 + last run
unfolding write_group start
write_group-last n x run = omega (arith, make_room-last (length (changes_of x)) run)

write_node-last : (n : ℕ) (x : Node) (run : Run) → last (write_node n x run) ≡ suc (last run)
unfolding write place
write_node-last n x run = refl

write_edit-last : (n : ℕ) (c : Change) (x : Node) (run : Run) → last (write_edit n c x run) ≤ 3 + last run
unfolding write_edit enter
write_edit-last n c x run = go (leb most_log_pages (pages (view (make_room 1 run).now) n))
  where
    go : (b : Bool) → last (edit_by b n c x (make_room 1 run)) ≤ 3 + last run
    go true = omega (arith, write_group-last n x (make_room 1 run), make_room-last 1 run)
    go false = omega (arith, make_room-last 1 run)

-- where the node lies on few pages it is one entry
write_edit-entry : (n : ℕ) (c : Change) (x : Node) (run : Run) → pages (view (make_room 1 run).now) n < most_log_pages →
    last (write_edit n c x run) ≤ 1 + last run
unfolding write_edit enter
write_edit-entry n c x run l = go (leb most_log_pages (pages (view (make_room 1 run).now) n)) refl
  where
    go : (b : Bool) → leb most_log_pages (pages (view (make_room 1 run).now) n) ≡ b → last (edit_by b n c x (make_room 1 run)) ≤ 1 + last run
    go true e = absurd (omega (arith, leb-true most_log_pages (pages (view (make_room 1 run).now) n) e))
    go false e = omega (arith, make_room-last 1 run)

-- an edit behind a switch to log
switch-edit-last : {B N : ℕ} {table : ℕ → Node} {modes : ℕ → Mode} {run : Run} → Keeps B N table modes run → (n : ℕ) → n < N →
    (c : Change) (x : Node) → last (write_edit n c x (write_group n (table n) run)) ≤ 3 + last run
switch-edit-last {B} {N} {table} {modes} {run} v n l c x =
    let h = v.neat n l in
    let d : Good B (write_group n (table n) run) =
    (write_group-done v.good n (table n) (neat_fits (table n) h) (omega (arith, v.nodes)) (omega (arith, v.nodes, v.good.invariant.nodes))).good in
    let there : n < (write_group n (table n) run).nodes = more n (table n) run in
    let r = (make_room-roomy d 1 (omega arith)).pages n there in
    omega (
      arith,
      write_edit-entry n c x (write_group n (table n) run) (omega (arith, r, write_group-pages v.good n (table n) (neat_fits (table n) h))),
      write_group-last n (table n) run,
    )
  where
    more : (n : ℕ) (x : Node) (run : Run) → n < (write_group n x run).nodes
    more n x run = omega (arith, write_group-nodes n x run)

disk_last : (n : ℕ) (w : Work) (x : Node) (run : Run) → last (work Disk n w x run) ≤ 1 + last run
disk_last n read x run = omega arith
disk_last n (edit c) x run = omega (arith, write_node-last n (change c x) run)
disk_last n (rewrite y) x run = omega (arith, write_node-last n y run)

log_last : (n : ℕ) (w : Work) (x : Node) (run : Run) → last (work Log n w x run) ≤ 3 + last run
log_last n read x run = omega arith
log_last n (edit c) x run = write_edit-last n c (change c x) run
log_last n (rewrite y) x run = omega (arith, write_group-last n y run)

module _ {B N : ℕ} {table : ℕ → Node} {modes : ℕ → Mode} {run : Run} (v : Keeps B N table modes run) (n : ℕ) (l : n < N) where
  -- two groups, each with a page that it forces out, are the most
  pub switched-last : (m m' : Mode) (w : Work) → last (work m' n w (table n) (switch m m' n (table n) run)) ≤ 4 + last run
  switched-last Log Log w = omega (arith, log_last n w (table n) run)
  switched-last Log Disk w = omega (arith, disk_last n w (table n) (write_node n (table n) run), write_node-last n (table n) run)
  switched-last Disk Log read = omega (arith, write_group-last n (table n) run)
  switched-last Disk Log (edit c) = omega (arith, switch-edit-last v n l c (change c (table n)))
  switched-last Disk Log (rewrite y) =
      omega (arith, write_group-last n y (write_group n (table n) run), write_group-last n (table n) run)
  switched-last Disk Disk w = omega (arith, disk_last n w (table n) run)
