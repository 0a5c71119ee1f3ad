-- While a checkpoint is written: the rows behind the nodes' name its pages, so that they are live, and a checkpoint page written by the code is the
-- store's. Assumes nothing.
use Rattle.std.specs.Prelude.{◌≡◌, Bool, ◌&&◌, ◌||◌, ◌⊎◌, List, eqb, ltb, length, set, Option, None, Some, slice_get}
use Rattle.std.proofs.Math.Path.{refl, sym, subst}
use Rattle.std.proofs.Common.{ap, ◌∙◌, inl, inr, arith, get_or-set_same, get_or-set_other}
use Rattle.std.proofs.Math.Bool.{true, false, and-false}
use Prim.Native.Nat.{ℕ, suc, ◌+◌, ◌-◌, ◌*◌, ◌≤◌, ◌<◌}
use borrow.Author.Tests.{eqb-true, eq-eqb, ne_eqb, lt-ltb, le-ltb, ltb-true}
use Rattle.std.proofs.Math.ListN.{length-set}
use Rattle.laws.specs.Tests.{choose, and_left, and_right, and_both}
use Rattle.laws.specs.Order.{eq_or, le_or}
use Rattle.laws.specs.Options.{test}
use Rattle.layout.specs.Layout.{most_blocks}
use Rattle.account.specs.declared.Mode.TheVariants.{Disk}
use Rattle.page.specs.Page.{Page, sequence}
use Rattle.page.specs.Image.{image}
use Rattle.store.specs.View.{greatest}
use Rattle.store.specs.Pool.{block, numbered, above}
use Rattle.store.specs.Store.{Store, view}
use Rattle.store.specs.Live.{carries, is_checkpoint, checkpoint_since}
use Rattle.store.specs.Write.{found, next, place}
use Rattle.store.specs.Checkpoint.{CheckpointPage, checkpoint_page_content}
use Rattle.store_laws.specs.Placing.{Invariant}
use Rattle.store_laws.proofs.Placing.{found_ready, silent_same}
use Rattle.store_laws.proofs.Compaction.{found-room}
use Rattle.store_laws.specs.Changes.{Same}
use Rattle.flash_rows.specs.Row.{no_row}
use Rattle.flash_rows.specs.Step.{names, fresh}
use Rattle.flash_rows.specs.declared.Row.{Row}
use Rattle.flash_rows.specs.Worktable.{Worktable, with_rows}
use Rattle.flash_allocate.specs.declared.state.State.{State}
use Rattle.flash_allocate.specs.World.{World, world, used, spot}
use Rattle.flash_allocate.specs.Allocate.{allocate}
use Rattle.flash_checkpoint.specs.CheckpointPages.{checkpoint_row}
use Rattle.flash_refines.specs.Store.Mirror.{row_at, RowMode, RowsSay, Owners, Mirrors}
use Rattle.flash_refines.specs.Store.RowModes.{place_row_mode}
use Rattle.flash_refines.specs.Store.Ownership.{page_within, carries_same}
use Rattle.flash_refines.specs.Store.Names.{mapped}
use Rattle.flash_refines.specs.Store.Notes.{names-noted, names_fresh}
use Rattle.flash_refines.specs.Store.Written.{Named}
use Rattle.flash_refines.specs.Store.Placed.{kept-found, stands_found, inside_found, next_free, Fills, placed_mirrors}
use Rattle.flash_allocate.specs.State.{page_counted}

-- Whose a page is while a checkpoint is written, `base` being the last number taken before it: behind the rows of nodes, the first row owns the
-- checkpoint page of the next number, the second that of the one after it, and so on.
unfoldable pub owner : ℕ → ℕ → Store → ℕ → Page → Bool
owner base nodes st n p = choose (ltb n nodes) (carries (view st) n p) (is_checkpoint p && numbered (suc (base + (n - nodes))) p)

module _ (base nodes : ℕ) (st : Store) (n : ℕ) (p : Page) where
  pub owner_node : n < nodes → owner base nodes st n p ≡ carries (view st) n p
  unfolding owner
  owner_node l = rw (lt-ltb n nodes l) refl

  owner-checkpoint_page : nodes ≤ n → owner base nodes st n p ≡ (is_checkpoint p && numbered (suc (base + (n - nodes))) p)
  unfolding owner
  owner-checkpoint_page l = rw (le-ltb n nodes l) refl

  -- it is a page of the checkpoint being written
  owner_closing : nodes ≤ n → owner base nodes st n p ≡ true → checkpoint_since base p ≡ true
  unfolding checkpoint_since above
  owner_closing l e =
      let number : ℕ = suc (base + (n - nodes)) in
      let d : (is_checkpoint p && numbered number p) ≡ true = sym (owner-checkpoint_page l) ∙ e in
      and_both (is_checkpoint p) (above base p) (and_left (is_checkpoint p) (numbered number p) d)
      (lt-ltb base (sequence p) (omega (arith, eqb-true (sequence p) number (and_right (is_checkpoint p) (numbered number p) d))))

  -- a page stays its node's while the node keeps its version
  owner_stays : (st' : Store) → (n < nodes → greatest (view st') n ≡ greatest (view st) n) → owner base nodes st n p ≡ owner base nodes st' n p
  unfolding owner
  owner_stays st' h = go (le_or nodes n)
    where
      go : (nodes ≤ n) ⊎ (n < nodes) → owner base nodes st n p ≡ owner base nodes st' n p
      go (inl l) = rw (le-ltb n nodes l) refl
      go (inr l) = rw (lt-ltb n nodes l) (sym (carries_same (view st) (view st') n (h l) p))

-- The pages of the checkpoint up to number `base + k` have k rows.
pub owners_closing : (base k nodes : ℕ) (st : Store) → st.last ≡ base + k → Owners (owner base nodes st) (checkpoint_since base) nodes k st
unfolding checkpoint_since above
owners_closing base k nodes st e =
    record {
      nodes = λ n l p. owner_node base nodes st n p l;
      checkpoint_page = λ n a b p d. owner_closing base nodes st n p a d;
      checkpoint_pages = λ p a d. checkpoint_pages p a d (ltb-true base (sequence p) (and_right (is_checkpoint p) (above base p) d));
    }
  where
    checkpoint_pages : (p : Page) → sequence p ≤ st.last → checkpoint_since base p ≡ true → base < sequence p →
        (n : ℕ) × (nodes ≤ n) × (n < nodes + k) × (owner base nodes st n p ≡ true)
    checkpoint_pages p a d l =
        let n : ℕ = nodes + (sequence p - suc base) in (
          n,
          omega arith,
          omega arith,
          owner-checkpoint_page base nodes st n p (omega arith) ∙
              and_both (is_checkpoint p) (numbered (suc (base + (n - nodes))) p) (and_left (is_checkpoint p) (above base p) d)
              (eq-eqb (sequence p) (suc (base + (n - nodes))) (omega arith)),
        )

-- The row of a checkpoint page names it alone.
names-checkpoint_page : (number at x : ℕ) → names x (checkpoint_row number at) ≡ eqb at x
unfolding checkpoint_row fresh
names-checkpoint_page number at x =
    names-noted (fresh number Disk no_row) at x (omega arith) ∙ ap (λ (b : Bool). b || eqb at x) (names_fresh no_row number Disk x)

-- The next checkpoint page, k being written.
module _ (base : ℕ) {k : ℕ} {w : World} {st : Store} (few : w.state.blocks ≤ most_blocks)
    (v : Invariant w.state.blocks w.state.nodes (checkpoint_since base) st)
    (h : Mirrors image (owner base w.state.nodes st) (checkpoint_since base) w st)
    (written : w.state.checkpoint ≡ k) (number : st.last ≡ base + k) (room : used w.state < length w.table.rows) (x : CheckpointPage) where
  abbrev nodes : ℕ
  nodes = w.state.nodes

  -- what was found for it: rows and state
  abbrev rows : List Row
  rows = (allocate w).table.rows

  abbrev s : State
  s = (allocate w).state

  -- the store with the checkpoint page, its page, and the rows and the state that follow it
  abbrev after : Store
  after = place (checkpoint_since base) nodes (checkpoint_page_content x) st.buffer st

  abbrev page_of_checkpoint : Page
  page_of_checkpoint = next st (checkpoint_page_content x)

  abbrev rows_after : List Row
  rows_after = set rows (used s) (checkpoint_row (suc st.last) (spot s))

  abbrev table_after : Worktable
  table_after = with_rows rows_after (allocate w).table

  abbrev state_after : State
  state_after = page_counted (suc st.last) s

  used-is : used s ≡ nodes + k
  used-is = omega (arith, (kept-found few v h).nodes, (kept-found few v h).checkpoint)

  row_new : row_at rows_after (used s) ≡ checkpoint_row (suc st.last) (spot s)
  row_new = get_or-set_same rows (used s) (checkpoint_row (suc st.last) (spot s)) no_row (omega (arith, used-is, (kept-found few v h).table))

  row_old : (n : ℕ) → (n ≡ used s → ⊥) → row_at rows_after n ≡ row_at rows n
  row_old n e = get_or-set_other rows (used s) n (checkpoint_row (suc st.last) (spot s)) no_row e

  -- every node keeps version, mode and number of pages
  same : (n : ℕ) → n < nodes → Same (view st) (view after) n
  same n l = silent_same v (checkpoint_page_content x) refl n l

  owner-after : (n : ℕ) (p : Page) → owner base nodes st n p ≡ owner base nodes after n p
  owner-after n p = owner_stays base nodes st n p after (λ l. (same n l).greatest)

  -- the checkpoint page is of no row in use, but of the one behind them
  not_theirs : (n : ℕ) → n < nodes + k → owner base nodes after n page_of_checkpoint ≡ false
  unfolding carries
  not_theirs n l = go (le_or nodes n)
    where
      go : (nodes ≤ n) ⊎ (n < nodes) → owner base nodes after n page_of_checkpoint ≡ false
      go (inr g) = owner_node base nodes after n page_of_checkpoint g
      go (inl g) = owner-checkpoint_page base nodes after n page_of_checkpoint g ∙ ne_eqb (suc st.last) (suc (base + (n - nodes))) (λ e. omega arith)

  its_own : owner base nodes after (used s) page_of_checkpoint ≡ true
  its_own =
      owner-checkpoint_page base nodes after (used s) page_of_checkpoint (omega (arith, used-is)) ∙
      eq-eqb (suc st.last) (suc (base + (used s - nodes))) (omega (arith, used-is))

  -- and that one owns no other page
  no_other : (i q : ℕ) → test (owner base nodes after (used s)) (slice_get (block (found (checkpoint_since base) nodes st).blocks i) q) ≡ false
  no_other i q = go (slice_get (block (found (checkpoint_since base) nodes st).blocks i) q) refl
    where
      go : (c : Option Page) → slice_get (block (found (checkpoint_since base) nodes st).blocks i) q ≡ c → test (owner base nodes after (used s)) c ≡ false
      go None e = refl
      go (Some p) e =
          let l : sequence p ≤ st.last = page_within st.last (found (checkpoint_since base) nodes st).blocks (found_ready v).within i q p e in
          owner-checkpoint_page base nodes after (used s) p (omega (arith, used-is)) ∙
          ap (λ (b : Bool). is_checkpoint p && b) (ne_eqb (sequence p) (suc (base + (used s - nodes))) (λ z. omega (arith, used-is))) ∙
          and-false (is_checkpoint p)

  checkpoint_page_named : Named (stands_found few v h) (inside_found few v h) (found-room v) page_of_checkpoint (used state_after)
      (owner base nodes after) rows_after
  unfolding page_counted
  checkpoint_page_named =
      record {
        long = omega (arith, used-is, length-set rows (used s) (checkpoint_row (suc st.last) (spot s)), (kept-found few v h).table);
        new = λ n l. new n l (eq_or n (used s));
        old = λ n i q l li lq d. old n i q l li lq d (eq_or n (used s));
      }
    where
      new : (n : ℕ) → n < used state_after → (n ≡ used s) ⊎ (n ≡ used s → ⊥) → names (spot s) (row_at rows_after n) ≡ owner base nodes after n page_of_checkpoint
      new n l (inl e) =
          rw (e, row_new) (names-checkpoint_page (suc st.last) (spot s) (spot s) ∙ eq-eqb (spot s) (spot s) refl ∙ sym its_own)
      new n l (inr e) =
          rw (row_old n e) (next_free few v h n (omega arith) ∙ sym (not_theirs n (omega (arith, used-is))))

      old : (n i q : ℕ) → n < used state_after → i < s.blocks → q < 32 → (32 * i + q ≡ spot s → ⊥) → (n ≡ used s) ⊎ (n ≡ used s → ⊥) →
          names (32 * i + q) (row_at rows_after n) ≡ test (owner base nodes after n) (slice_get (block (found (checkpoint_since base) nodes st).blocks i) q)
      old n i q l li lq d (inl e) =
          rw (e, row_new) (names-checkpoint_page (suc st.last) (spot s) (32 * i + q) ∙ ne_eqb (spot s) (32 * i + q) (λ z. d (sym z)) ∙ sym (no_other i q))
      old n i q l li lq d (inr e) =
          rw (row_old n e)
          ((stands_found few v h).names.each n i q (omega arith) li lq ∙
          same_owner (slice_get (block (found (checkpoint_since base) nodes st).blocks i) q))
        where
          same_owner : (c : Option Page) → test (owner base nodes st n) c ≡ test (owner base nodes after n) c
          same_owner None = refl
          same_owner (Some p) = owner-after n p

  -- the row of a node says of it what it said
  pub row_kept : (n : ℕ) → n < nodes → (g : ℕ → ℕ) × (row_at rows_after n ≡ mapped g (row_at w.table.rows n))
  row_kept n l =
      let r = (kept-found few v h).rows n (omega arith) in
      (r.0, row_old n (λ e. omega (arith, used-is)) ∙ r.1)

  rows_say : RowsSay nodes rows_after after
  rows_say =
      record {
        version = λ n l. ap (λ (r : Row). r.version) (row_kept n l).1 ∙ h.rows.version n l ∙ sym (same n l).greatest;
        mode = λ n l. subst (λ (r : Row). RowMode r.mode after n) (sym (row_kept n l).1)
            (place_row_mode v n l (row_at w.table.rows n).mode (checkpoint_page_content x) st.buffer (same n l).greatest (h.rows.mode n l));
        pages = λ n l. ap (λ (r : Row). r.pages) (row_kept n l).1 ∙ h.rows.pages n l ∙ sym (same n l).pages;
      }

  checkpoint_page_owners : Owners (owner base nodes after) (checkpoint_since base) nodes (suc k) after
  unfolding place
  checkpoint_page_owners = owners_closing base (suc k) nodes after (omega arith)

  checkpoint_page_fills : Fills few v h (checkpoint_page_content x) st.buffer (owner base nodes after) table_after state_after
  unfolding page_counted
  checkpoint_page_fills =
      let keep = kept-found few v h in
      let one_more_lem : suc k ≡ s.checkpoint + 1 = omega (arith, keep.checkpoint) in
      record {
        blocks = refl;
        current = refl;
        fill = refl;
        last = refl;
        named = checkpoint_page_named;
        owners =
            subst (λ (n : ℕ). Owners (owner base nodes after) (checkpoint_since base) n (s.checkpoint + 1) after) (sym keep.nodes)
            (subst (λ (n : ℕ). Owners (owner base nodes after) (checkpoint_since base) nodes n after) one_more_lem checkpoint_page_owners);
        rows = subst (λ (n : ℕ). RowsSay n rows_after after) (sym keep.nodes) rows_say;
      }

  -- THE SHEET WRITTEN mirrors the store's.
  pub checkpoint_page_mirrors : Mirrors image (owner base nodes after) (checkpoint_since base)
      (world (set (allocate w).pages (spot s) (image page_of_checkpoint)) table_after state_after) after
  checkpoint_page_mirrors = placed_mirrors few v h (checkpoint_page_content x) st.buffer (owner base nodes after) table_after state_after checkpoint_page_fills
