-- Every write of a run leaves a fitting store, as long as the numbers taken have 32 bits: a buffer is written only when it holds
-- something, a group begins only where it finds room, and a version lies between 1 and the last number taken. Assumes nothing.
use Rattle.std.specs.Prelude.{◌≡◌, refl, Bool, true, false, leb, length}
use mathlib.Core.List.{List, [], ◌∷◌}
use Prim.Native.Nat.{ℕ, suc, ◌+◌, ◌≤◌, ◌<◌}
use Rattle.std.proofs.Common.{arith, leb-true, leb-false}
use Rattle.std.proofs.Math.ListN.{length-append}
use Rattle.laws.specs.Every.{Every, none, both, every_append}
use Rattle.layout.specs.Layout.{most_entries, most_keys, most_log_pages, bound32}
use Rattle.account.specs.declared.Mode.TheVariants.{Log}
use Rattle.pairs.specs.Pairs.{Pair}
use Rattle.node.specs.Node.{Node, node, pairs_of}
use Rattle.node.specs.Change.{Change, put, link, puts, changes_of}
use Rattle.page.specs.Page.{Page, log, whole}
use Rattle.page.specs.Limits.{bound16, EntryFits, Fits}
use Rattle.node.specs.Narrow.{NarrowPair, Narrow, NarrowChange}
use Rattle.store.specs.Item.{entries}
use Rattle.store_laws.specs.ItemLaws.{length-entries}
use Rattle.store.specs.View.{greatest, pages}
use Rattle.store.specs.Store.{Store, view}
use Rattle.store.specs.Live.{no_checkpoint}
use Rattle.store.specs.Write.{place, flush, enter, start, node_page}
use Rattle.store.specs.Run.{Run, write, flush_run, room_by, make_room, write_group, edit_by, write_edit, write_node}
use Rattle.store_laws.specs.Versions.{InLog}
use Rattle.store_laws.specs.Good.{Good, Roomy}
use Rattle.store_laws.proofs.Good.{make_room-roomy}
use Rattle.store_laws.specs.Numbers.{last}
use Rattle.store_laws.specs.StoreFits.{StoreFits, RunFits, later-entries, place-fits, write-fits}

-- The changes that spell a node, and its entries under a version.
puts_fit : (ps : List Pair) → Every NarrowPair ps → Every NarrowChange (puts ps)
puts_fit [] none = none
puts_fit (p ∷ ps) (both n e) = both {x = put p.0 p.1} n (puts_fit ps e)

pub changes_of_fit : (x : Node) → Narrow x → Every NarrowChange (changes_of x)
changes_of_fit (node shape ps l) n = every_append (puts_fit ps n.pairs) (both {x = link shape l} n.last none)

entries_fit : (s n v : ℕ) → n < bound16 → 1 ≤ v → v < s → (cs : List Change) → Every NarrowChange cs → Every (EntryFits s) (entries n v cs)
entries_fit s n v i a b [] none = none
entries_fit s n v i a b (c ∷ cs) (both f e) =
    both (record { id = i; from = a; below = b; change = f }) (entries_fit s n v i a b cs e)

-- Entries join the buffer: one under the node's version, or a group under a new one.
module _ {st : Store} (h : StoreFits st) (n : ℕ) (id : n < bound16) where
  pub enter-fits : (c : Change) → NarrowChange c → 1 ≤ greatest (view st) n → greatest (view st) n ≤ st.last →
      1 + length st.buffer ≤ most_entries → StoreFits (enter n c st)
  unfolding enter
  enter-fits c f a b k =
      let v = greatest (view st) n in
      record {
        pages = h.pages;
        entries = every_append h.entries (entries_fit (suc st.last) n v id a (omega arith) (c ∷ []) (both f none));
        few = omega (arith, length-append st.buffer (entries n v (c ∷ [])));
        last = h.last;
      }

  pub start_fits : (cs : List Change) → Every NarrowChange cs → length cs + length st.buffer ≤ most_entries → suc st.last < bound32 →
      StoreFits (start n cs st)
  unfolding start
  start_fits cs f k b =
      let v = suc st.last in
      record {
        pages = h.pages;
        entries = every_append (later-entries (omega arith) h.entries) (entries_fit (suc v) n v id (omega arith) (omega arith) cs f);
        few = omega (arith, length-append st.buffer (entries n v cs), length-entries n v cs);
        last = b;
      }

-- The pages of the next number: the buffer's, which has 1 to 27 entries, and a node's.
module _ {st : Store} (h : StoreFits st) (room : suc st.last < bound32) where
  log_fits : 1 ≤ length st.buffer → Fits (suc st.last) (log st.buffer)
  log_fits k = record { from = omega arith; below = room; content = record { some = k; few = h.few; entries = h.entries } }

  whole-fits : (n : ℕ) → n < bound16 → (x : Node) → Narrow x → length (pairs_of x) ≤ most_keys → Fits (suc st.last) (whole n x)
  whole-fits n id (node shape ps l) w k =
      record {
        from = omega arith;
        below = room;
        content = record { id = id; node = record { few = k; numbers = w.pairs; link = w.last } };
      }

  waiting : Every (EntryFits (suc (suc st.last))) st.buffer
  waiting = later-entries (omega arith) h.entries

  pub flush-fits : (closing : Page → Bool) (nodes : ℕ) → 1 ≤ length st.buffer → StoreFits (flush closing nodes st)
  unfolding flush
  flush-fits closing nodes k = place-fits h closing nodes (log st.buffer) [] (log_fits k) none (omega arith)

  pub node_page-fits : (closing : Page → Bool) (nodes n : ℕ) → n < bound16 → (x : Node) → Narrow x → length (pairs_of x) ≤ most_keys →
      StoreFits (node_page closing nodes n x st)
  unfolding node_page
  node_page-fits closing nodes n id x w k = place-fits h closing nodes (whole n x) st.buffer (whole-fits n id x w k) waiting h.few

pub flush_run-fits : {run : Run} → RunFits run → 1 ≤ length run.now.buffer → suc (last run) < bound32 → RunFits (flush_run run)
flush_run-fits {run} h k b = write-fits h no_checkpoint (log run.now.buffer) [] (log_fits h.now b k) none (omega arith)

-- Room for k entries: where a page is forced out, the buffer holds something.
pub record HasRoom (k : ℕ) (run run' : Run) : Type 0 where
  pub fits : RunFits run'
  pub space : k + length run'.now.buffer ≤ most_entries
  pub number : last run' ≤ suc (last run)

pub make_room-room : {run : Run} → RunFits run → (k : ℕ) → k ≤ most_entries → suc (last run) < bound32 → HasRoom k run (make_room k run)
unfolding make_room write place
make_room-room {run} h k l b = go (leb (k + length run.now.buffer) most_entries) refl
  where
    go : (t : Bool) → leb (k + length run.now.buffer) most_entries ≡ t → HasRoom k run (room_by t run)
    go true e = record { fits = h; space = leb-true (k + length run.now.buffer) most_entries e; number = omega arith }
    go false e =
        record {
          fits = flush_run-fits h (omega (arith, leb-false (k + length run.now.buffer) most_entries e)) b;
          space = omega arith;
          number = omega arith;
        }

module _ {run : Run} (h : RunFits run) (n : ℕ) (id : n < bound16) (x : Node) (narrow : Narrow x) where
  -- A GROUP
  pub write_group-fits : length (changes_of x) ≤ most_entries → 2 + last run < bound32 → RunFits (write_group n x run)
  unfolding write_group
  write_group-fits k b =
      let r = make_room-room h (length (changes_of x)) k (omega arith) in
      record {
        now = start_fits r.fits.now n id (changes_of x) (changes_of_fit x narrow) r.space (omega (arith, r.number));
        passed = r.fits.passed;
      }

  -- A NODE PAGE
  pub write_node-fits : length (pairs_of x) ≤ most_keys → 1 + last run < bound32 → RunFits (write_node n x run)
  write_node-fits k b =
      write-fits h no_checkpoint (whole n x) run.now.buffer (whole-fits h.now (omega arith) n id x narrow k) (waiting h.now (omega arith))
      h.now.few

-- AN EDIT in log mode: one entry more, or the whole edited content
pub write_edit-fits : {B : ℕ} {run : Run} → Good B run → RunFits run → (n : ℕ) → n < bound16 → n < run.nodes → InLog run.now n →
    (c : Change) → NarrowChange c → (x : Node) → Narrow x → length (changes_of x) ≤ most_entries → 3 + last run < bound32 →
    RunFits (write_edit n c x run)
unfolding write_edit
write_edit-fits {B} {run} v h n id there in_log c f x narrow k b = go (leb most_log_pages (pages (view (make_room 1 run).now) n))
  where
    room : HasRoom 1 run (make_room 1 run)
    room = make_room-room h 1 (omega arith) (omega arith)

    roomy : Roomy B 1 run (make_room 1 run)
    roomy = make_room-roomy v 1 (omega arith)

    go : (t : Bool) → RunFits (edit_by t n c x (make_room 1 run))
    go true = write_group-fits room.fits n id x narrow k (omega (arith, room.number))
    go false =
        record {
          now =
              enter-fits room.fits.now n id c f ((roomy.keep n there).mode Log in_log).some
              (roomy.good.invariant.fit.versions n) room.space;
          passed = room.fits.passed;
        }
