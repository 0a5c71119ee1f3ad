-- WHAT A REQUEST WRITES in log mode follows the store's: a group, the group of a new node, an edit. Assumes nothing.
use Rattle.std.specs.Prelude.{◌≡◌, Bool, ◌⊎◌, ℕ, suc, ◌+◌, ◌≤◌, ◌<◌}
use Rattle.std.proofs.Math.Path.{refl, subst}
use Rattle.std.proofs.Math.Bool.{true, false}
use Rattle.std.proofs.Common.{inl, inr, arith}
use borrow.Author.Tests.{leb-false, le-leb, lt-leb, lt-ltb, le-ltb}
use Rattle.std.proofs.Math.Dec.{leb}
use Rattle.std.proofs.Math.ListN.{length}
use Rattle.laws.specs.Order.{le_or}
use Rattle.laws.specs.Update.{update}
use Rattle.layout.specs.Layout.{most_entries, most_log_pages, node_limit, bound32}
use Rattle.node.specs.Node.{Node}
use Rattle.node.specs.Change.{Change, changes_of}
use Rattle.store.specs.View.{pages}
use Rattle.store.specs.Store.{view}
use Rattle.store.specs.Live.{no_checkpoint}
use Rattle.store.specs.Write.{flush}
use Rattle.store.specs.Run.{Run, write, room_by, make_room, begin, write_group, edit_by, write_edit}
use Rattle.store_laws.specs.Contents.{length-changes_of}
use Rattle.store_laws.proofs.Good.{make_room-roomy}
use Rattle.store_laws.proofs.Keeps.{make_room-nodes}
use Rattle.store_laws.proofs.Numbers.{make_room-last}
use Rattle.store_laws.specs.StoreFits.{StoreFits}
use Rattle.store_laws.proofs.WriteFits.{flush-fits}
use Rattle.flash_rows.specs.declared.Row.{Row}
use Rattle.flash_allocate.specs.World.{World}
use Rattle.flash_log.specs.Flush.{room}
use Rattle.flash_write.specs.Group.{room_for, group, start_next, create}
use Rattle.flash_write.specs.Edit as Code
use Rattle.flash_refines.specs.Store.Mirror.{row_at}
use Rattle.flash_refines.specs.Store.Follows.{Follows, Writable}
use Rattle.flash_refines.specs.Write.Flush.{room_follows}
use Rattle.flash_refines.specs.Write.Starts.{restart_follows, start_next_follows}
use Rattle.flash_refines.specs.Write.Entries.{enter_follows}

module _ {B : ℕ} {run : Run} (b : Writable B run) (k : ℕ) (few : k ≤ most_entries) (number : suc run.now.last < bound32) where
  room_fits : StoreFits (make_room k run).now
  unfolding make_room write flush
  room_fits = go (leb (k + length run.now.buffer) most_entries) refl
    where
      go : (t : Bool) → leb (k + length run.now.buffer) most_entries ≡ t → StoreFits (room_by t run).now
      go true e = b.fits
      go false e = flush-fits b.fits number no_checkpoint run.nodes (omega (arith, leb-false (k + length run.now.buffer) most_entries e))

  -- A run stays writable where room is made.
  pub room_writable : Writable B (make_room k run)
  room_writable = record { few = b.few; good = (make_room-roomy b.good k few).good; fits = room_fits }

-- Room for a content, in the code and in the store.
module _ {B : ℕ} {score : ℕ → ℕ} {w : World} {run : Run} (b : Writable B run) (f : Follows score w run) (x : Node) (small : length (changes_of x) ≤ most_entries)
    (number : 2 + run.now.last < bound32) where
  abbrev k : ℕ
  k = length (changes_of x)

  abbrev roomy : Run
  roomy = make_room k run

  b' : Writable B roomy
  b' = room_writable b k small (omega arith)

  f' : Follows score (room_for x w) roomy
  f' = subst (λ (i : ℕ). Follows score (room i w) roomy) (omega (arith, length-changes_of x)) (room_follows b (omega arith) f k)

  there : roomy.nodes ≡ run.nodes
  there = make_room-nodes k run

  fits : k + length roomy.now.buffer ≤ most_entries
  fits = (make_room-roomy b.good k small).fits

  number' : suc roomy.now.last < bound32
  number' = omega (arith, make_room-last k run)

  -- A GROUP of a node that is there
  pub group_follows : (n : ℕ) → n < run.nodes → Follows score (group n x w) (write_group n x run)
  unfolding group write_group
  group_follows n l = restart_follows b' f' number' x fits n (omega (arith, there))

  -- A NEW NODE
  pub create_follows : suc run.nodes ≤ node_limit B → Follows (update score run.nodes 0) (create x w) (write_group run.nodes x run)
  unfolding create write_group
  create_follows limit =
      subst (λ (n : ℕ). Follows (update score n 0) (start_next x (room_for x w)) (begin n (changes_of x) roomy)) there
      (start_next_follows b' f' number' x fits (omega (arith, there)))

-- AN EDIT in log mode: one entry more, or the whole edited content
module _ {B : ℕ} {score : ℕ → ℕ} {w : World} {run : Run} (b : Writable B run) (f : Follows score w run) (n : ℕ) (there : n < run.nodes) (c : Change) (x : Node)
    (small : length (changes_of x) ≤ most_entries) (number : 3 + run.now.last < bound32) where
  pub edit_follows : Follows score (Code.edit n c x w) (write_edit n c x run)
  unfolding Code.edit Code.edit_by write_edit
  edit_follows = go (le_or most_log_pages row.pages)
    where
      roomy : Run
      roomy = make_room 1 run

      b' : Writable B roomy
      b' = room_writable b 1 (omega arith) (omega arith)

      f' : Follows score (room 1 w) roomy
      f' = room_follows b (omega arith) f 1

      inside : n < roomy.nodes
      inside = omega (arith, make_room-nodes 1 run)

      row : Row
      row = row_at (room 1 w).table.rows n

      pages_are : row.pages ≡ pages (view roomy.now) n
      pages_are = f'.mirrors.rows.pages n (omega (arith, f'.nodes, inside))

      go : (most_log_pages ≤ row.pages) ⊎ (row.pages < most_log_pages) →
          Follows score (Code.edit_by row n c x (room 1 w)) (edit_by (leb most_log_pages (pages (view roomy.now) n)) n c x roomy)
      go (inl l) =
          rw (le-ltb row.pages most_log_pages l, le-leb most_log_pages (pages (view roomy.now) n) (omega (arith, pages_are)))
          (group_follows b' f' x small (omega (arith, make_room-last 1 run)) n inside)
      go (inr l) =
          rw (lt-ltb row.pages most_log_pages l, lt-leb most_log_pages (pages (view roomy.now) n) (omega (arith, pages_are)))
          (enter_follows b' f' n inside c (make_room-roomy b.good 1 (omega arith)).fits x)
