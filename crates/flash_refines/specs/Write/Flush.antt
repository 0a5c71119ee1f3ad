-- THE BUFFER WRITTEN OUT by the code is the store's, and so is room made for entries. Assumes nothing.
use Rattle.std.specs.Prelude.{◌≡◌, Bool, true, ◌⊎◌, ℕ, suc, ◌+◌, ◌*◌, ◌≤◌, ◌<◌, leb, ltb, set, slice_get}
use Rattle.std.proofs.Math.Path.{refl, sym, ap, subst}
use Rattle.std.proofs.Common.{◌∙◌, inl, inr, arith}
use Rattle.std.proofs.Math.Bool.{false, not, and-true, and-false, or-false}
use mathlib.Core.List.{List, [], map}
use borrow.Author.Tests.{le-leb, lt-leb, le-ltb, lt-ltb, eq-eqb, ne_eqb}
use Rattle.std.proofs.Math.ListN.{length}
use Rattle.laws.specs.Tests.{choose}
use Rattle.laws.specs.Order.{eq_or, le_or}
use Rattle.laws.specs.Counts.{bit, count, empty}
use Rattle.layout.specs.Layout.{bound32, most_entries}
use Rattle.account.specs.declared.Mode.{Mode}
use Rattle.account.specs.declared.Mode.TheVariants.{Log, Disk}
use Rattle.node.specs.Replay.{Piece}
use Rattle.page.specs.Page.{Page, log}
use Rattle.page.specs.Image.{image}
use Rattle.store.specs.Item.{entry_item, pieces_in}
use Rattle.store.specs.View.{greatest, pieces, buffered, some?}
use Rattle.store.specs.View as View
use Rattle.store.specs.Pool.{block}
use Rattle.store.specs.Store.{Store, view}
use Rattle.store.specs.Live.{carries, no_checkpoint}
use Rattle.store.specs.Write.{found, next, place}
use Rattle.store.specs.Write as Model
use Rattle.store.specs.Run.{Run, write, flush_run, room_by, make_room}
use Rattle.store_laws.specs.Changes.{Now}
use Rattle.store_laws.specs.PoolLaws.{find_none}
use Rattle.store_laws.specs.Placing.{Invariant}
use Rattle.store_laws.proofs.Placing.{flush_now}
use Rattle.store_laws.specs.Versions.{version_is, said, VersionRules, OnPage}
use Rattle.flash_rows.specs.Step.{names, by_mode}
use Rattle.flash_rows.specs.declared.Row.{Row}
use Rattle.page_write.specs.Chunks.{chunks}
use Rattle.page_write.specs.Pages.{log_image}
use Rattle.flash_rows.specs.Worktable.{Worktable, with_rows}
use Rattle.flash_allocate.specs.declared.state.State.{State}
use Rattle.flash_allocate.specs.World.{World, world, used, spot}
use Rattle.flash_allocate.specs.Allocate.{allocate}
use Rattle.flash_log.specs.Claim.{claim_entries}
use Rattle.flash_log.specs.Flush.{write_buffer, flush, room}
use Rattle.flash_refines.specs.Store.Mirror.{row_at, RowMode, RowsSay, Mirrors}
use Rattle.flash_refines.specs.Store.RowModes.{place_row_mode}
use Rattle.flash_refines.specs.Store.Names.{mapped}
use Rattle.flash_refines.specs.Store.Allocate.{Kept}
use Rattle.flash_refines.specs.Store.Follows.{BufferIs, Follows, Writable}
use Rattle.flash_refines.specs.Store.Ownership.{owned_same}
use Rattle.flash_refines.specs.Store.Followed.{few_blocks, invariant_here, owners_open}
use Rattle.flash_refines.specs.Store.Placed.{next_number_is, place_found, step_found, kept-found, next_free, placed_mirrors}
use Rattle.flash_refines.specs.Store.Buffer.{buffer_same, image_log}
use Rattle.flash_refines.specs.Write.Claims.{concern, Claimed, length-claimed, claimed-row}
use Rattle.flash_allocate.specs.State.{with_entries, next_sequence, advanced, without_entries}
use Rattle.flash_refines.specs.Read.NodePieces.{pieces-entries}

-- A node in disk mode has nothing of its version in the buffer: its version is a page's number.
pub disk_waits : {st : Store} → VersionRules st → (n : ℕ) → OnPage st n → buffered (view st) n ≡ []
unfolding buffered said
disk_waits {st} rules n h = pieces-entries n (greatest (view st) n) st.buffer (none_said (eq_or (count (version_is (greatest (view st) n)) st.buffer) 0))
  where
    said-count : ℕ
    said-count = count (version_is (greatest (view st) n)) st.buffer

    none_said : (said-count ≡ 0) ⊎ (said-count ≡ 0 → ⊥) → said-count ≡ 0
    none_said (inl e) = e
    none_said (inr d) =
        let gone = find_none (greatest (view st) n) st.blocks (rules.apart (greatest (view st) n) (omega arith)) in
        let there = h.page in
        cc

module _ {B : ℕ} {score : ℕ → ℕ} {w : World} {run : Run} (b : Writable B run) (number : suc run.now.last < bound32) (f : Follows score w run) where
  abbrev st : Store
  st = run.now

  v : Invariant w.state.blocks w.state.nodes no_checkpoint st
  v = invariant_here b f

  few : w.state.blocks ≤ 64
  few = few_blocks b f

  -- The store with the page, and the page; the world before it, and rows and state after it.
  abbrev after : Store
  after = Model.flush no_checkpoint w.state.nodes st

  abbrev p : Page
  p = next st (log st.buffer)

  abbrev before : World
  before = allocate w

  abbrev at : ℕ
  at = spot before.state

  abbrev rows' : List Row
  rows' = claim_entries before.table.buffer before.state.nodes at before.state.entries before.table.rows

  abbrev t' : Worktable
  t' = with_rows rows' before.table

  abbrev s' : State
  s' = without_entries (advanced (suc st.last) before.state)

  same : Kept w before
  same = kept-found few v f.mirrors

  waiting : BufferIs before.table.buffer before.state.entries st.buffer
  waiting = buffer_same f.buffer same.entries same.buffer

  -- whether the buffer has something of a node
  abbrev waits : ℕ → Bool
  waits m = not (empty (buffered (view st) m))

  module _ (m : ℕ) (l : m < w.state.nodes) where
    now : Now (view after) m (greatest (view st) m) (pieces (view st) m) (View.pages (view st) m + some? (buffered (view st) m)) []
    now = flush_now v m l

    abbrev row : Row
    row = row_at before.table.rows m

    kept : (g : ℕ → ℕ) × (row ≡ mapped g (row_at w.table.rows m))
    kept = same.rows m (omega arith)

    row-version : row.version ≡ greatest (view st) m
    row-version = ap (λ (r : Row). r.version) kept.1 ∙ f.mirrors.rows.version m l

    row_mode : RowMode row.mode st m
    row_mode = subst (λ (r : Row). RowMode r.mode st m) (sym kept.1) (f.mirrors.rows.mode m l)

    row-pages : row.pages ≡ View.pages (view st) m
    row-pages = ap (λ (r : Row). r.pages) kept.1 ∙ f.mirrors.rows.pages m l

    -- the entries concern the rows of the nodes that wait
    concerned : concern st.buffer m row ≡ waits m
    unfolding buffered
    concerned =
        ap (λ (u : ℕ). by_mode row.mode (not (empty (pieces_in m u (map entry_item st.buffer)))) false) row-version ∙ go row.mode row_mode
      where
        go : (mode : Mode) → RowMode mode st m → by_mode mode (waits m) false ≡ waits m
        go Log h = refl
        go Disk h = sym (ap (λ (xs : List Piece). not (empty xs)) (disk_waits b.good.versions m h))

    slot : waits m ≡ true → row.pages < 3
    slot e = omega (arith, row-pages, v.lean.each m l, ap bit e)

    carried : carries (view after) m p ≡ waits m
    unfolding carries buffered
    carried = ap (λ (u : ℕ). not (empty (pieces_in m u (map entry_item st.buffer)))) now.greatest

    free : names at row ≡ false
    free = next_free few v f.mirrors m (omega (arith, same.nodes))

    claimed : Claimed (waits m) at row (row_at rows' m)
    claimed =
        subst (λ (t : Bool). Claimed t at row (row_at rows' m)) concerned
        (claimed-row waiting number b.fits.entries before.state.nodes at before.table.rows m (omega (arith, same.nodes))
        (omega (arith, same.table, f.mirrors.names.long)) free (λ e. slot (sym concerned ∙ e)))

    names_new : names at (row_at rows' m) ≡ carries (view after) m p
    names_new = claimed.names at ∙ rw (free, eq-eqb at at refl) (and-true (waits m) ∙ sym carried)

    names-other : (x : ℕ) → (x ≡ at → ⊥) → names x (row_at rows' m) ≡ names x row
    names-other x d = claimed.names x ∙ rw (ne_eqb at x (λ z. d (sym z)), and-false (waits m)) (or-false (names x row))

  -- the rows in use are the nodes'
  within : (m : ℕ) → m < used s' → m < w.state.nodes
  unfolding without_entries with_entries advanced
  within m l = omega (arith, same.nodes, same.checkpoint, f.no_checkpoint_page)

  says : RowsSay w.state.nodes rows' after
  unfolding Model.flush
  says =
      record {
        version = λ m l. (claimed m l).keeps.version ∙ row-version m l ∙ sym (now m l).greatest;
        mode =
            λ m l.
            subst (λ (k : Mode). RowMode k after m) (sym (claimed m l).keeps.mode)
            (place_row_mode v m l (row m l).mode (log st.buffer) [] (now m l).greatest (row_mode m l));
        pages = λ m l. (claimed m l).pages ∙ ap (λ (k : ℕ). k + bit (waits m)) (row-pages m l) ∙ sym (now m l).pages;
      }

  length_now : length rows' ≡ length before.table.rows
  length_now = length-claimed waiting number b.fits.entries before.state.nodes at before.table.rows

  mirrored : Mirrors image (carries (view after)) no_checkpoint (world (set before.pages at (image p)) t' s') after
  unfolding Model.flush without_entries with_entries advanced
  mirrored =
      placed_mirrors few v f.mirrors (log st.buffer) [] (carries (view after)) t' s'
      (record {
        blocks = refl;
        current = refl;
        fill = refl;
        last = refl;
        named =
            record {
              long = rw length_now (place_found few v f.mirrors).names.long;
              new = λ m l. names_new m (within m l);
              old =
                  λ m i q l li lq d.
                  names-other m (within m l) (32 * i + q) d ∙
                  (place_found few v f.mirrors).names.each m i q l li lq ∙
                  owned_same (view st) (view after) m (now m (within m l)).greatest
                  (slice_get (block (found no_checkpoint w.state.nodes st).blocks i) q);
            };
        owners = owners_open before.state.nodes before.state.checkpoint (same.checkpoint ∙ f.no_checkpoint_page) after;
        rows = subst (λ (k : ℕ). RowsSay k rows' after) (sym same.nodes) says;
      })

  -- THE BUFFER WRITTEN OUT follows the store's.
  pub flush_follows : Follows score (flush w) (flush_run run)
  unfolding flush write_buffer without_entries with_entries advanced Model.flush write place chunks
  flush_follows =
      subst (λ (z : World). Follows score z (flush_run run)) (sym (step_found few v f.mirrors write_buffer ∙ written))
      (record {
        table = omega (arith, length_now, same.table, f.table, same.blocks);
        nodes = same.nodes ∙ f.nodes;
        no_checkpoint_page = same.checkpoint ∙ f.no_checkpoint_page;
        mirrors =
            subst
            (λ (k : ℕ). Mirrors image (carries (view (Model.flush no_checkpoint k st))) no_checkpoint (world (set before.pages at (image p)) t' s')
            (Model.flush no_checkpoint k st))
            f.nodes mirrored;
        buffer = record { size = waiting.size; number = refl; bytes = refl };
        scores =
            λ m l.
            let there : m < w.state.nodes = omega (arith, f.nodes) in
            (claimed m there).keeps.score ∙ ap (λ (r : Row). r.score) (kept m there).1 ∙ f.scores m l;
      })
    where
      written : write_buffer before ≡ world (set before.pages at (image p)) t' s'
      written =
          ap
          (λ (k : ℕ). world (set before.pages at (log_image k before.state.entries before.table.buffer)) t'
          (without_entries (advanced k before.state)))
          (ap next_sequence (same.last ∙ f.mirrors.last) ∙ next_number_is st.last number) ∙
          ap (λ (z : List ℕ). world (set before.pages at z) t' s') (image_log waiting (suc st.last))

  -- ROOM MADE for entries follows the store's.
  pub room_follows : (k : ℕ) → Follows score (room k w) (make_room k run)
  unfolding room make_room
  room_follows k = go (le_or (k + length st.buffer) most_entries)
    where
      go : (k + length st.buffer ≤ most_entries) ⊎ (most_entries < k + length st.buffer) →
          Follows score (choose (ltb most_entries (k + w.state.entries)) (flush w) w) (room_by (leb (k + length st.buffer) most_entries) run)
      go (inl l) = rw (le-leb (k + length st.buffer) most_entries l, le-ltb most_entries (k + w.state.entries) (omega (arith, f.buffer.number))) f
      go (inr l) =
          rw (lt-leb (k + length st.buffer) most_entries l, lt-ltb most_entries (k + w.state.entries) (omega (arith, f.buffer.number))) flush_follows
