-- A NODE PAGE written by the code is the store's. Assumes nothing.
use Rattle.std.specs.Prelude.{◌≡◌, Bool, true, false, ◌||◌, ◌⊎◌, List, [], ◌∷◌, ℕ, suc, ◌+◌, ◌*◌, ◌≤◌, ◌<◌, set, slice_get}
use Rattle.std.proofs.Math.Path.{refl, sym, ap, subst}
use Rattle.std.proofs.Common.{◌∙◌, inl, inr, get_or-set_same, get_or-set_other}
use native.Mathlib.Omega.{arith}
use borrow.Author.Tests.{eq-eqb, ne_eqb}
use Rattle.std.proofs.Math.Dec.{eqb}
use Rattle.std.proofs.Math.ListN.{length-set}
use Rattle.laws.specs.Order.{eq_or}
use Rattle.laws.specs.Counts.{bit, tally}
use Rattle.laws.specs.Options.{test}
use Rattle.layout.specs.Layout.{bound32}
use Rattle.account.specs.declared.Mode.{Mode}
use Rattle.account.specs.declared.Mode.TheVariants.{Disk}
use Rattle.node.specs.Node.{Node}
use Rattle.node.specs.Replay as Replay
use Rattle.page.specs.Page.{Page, page, whole}
use Rattle.page.specs.Image.{image}
use Rattle.store.specs.View.{greatest}
use Rattle.store.specs.View as View
use Rattle.store.specs.Pool.{block}
use Rattle.store.specs.Store.{Store, view}
use Rattle.store.specs.Live.{carries, no_checkpoint}
use Rattle.store.specs.Write.{found, next, place, node_page}
use Rattle.store.specs.Run.{Run, write, write_node}
use Rattle.store_laws.specs.Changes.{Same, Now}
use Rattle.store_laws.specs.Placing.{Invariant}
use Rattle.store_laws.proofs.Placing.{page_now, page_other, page_invariant, place-find, found_ready}
use Rattle.store_laws.specs.BlockRules.{add_to-tally}
use Rattle.flash_rows.specs.Row.{no_row}
use Rattle.flash_rows.specs.Step.{names, fresh, noted}
use Rattle.flash_rows.specs.declared.Row.{Row}
use Rattle.flash_rows.specs.Worktable.{Worktable, with_rows}
use Rattle.flash_allocate.specs.declared.state.State.{State}
use Rattle.flash_allocate.specs.World.{World, world, used, spot}
use Rattle.flash_allocate.specs.Allocate.{allocate}
use Rattle.flash_write.specs.NodePage.{disk_row, on_page}
use Rattle.flash_write.specs.NodePage as Code
use Rattle.flash_refines.specs.Store.Mirror.{row_at, RowMode, RowsSay, Mirrors}
use Rattle.flash_refines.specs.Store.RowModes.{place_row_mode}
use Rattle.flash_refines.specs.Store.Names.{mapped}
use Rattle.flash_refines.specs.Store.Allocate.{Kept}
use Rattle.flash_refines.specs.Store.Notes.{names-noted, names_fresh, pages-noted, keeps_noted}
use Rattle.flash_refines.specs.Store.Buffer.{buffer_same}
use Rattle.flash_refines.specs.Store.Follows.{Follows, Writable}
use Rattle.flash_refines.specs.Store.Ownership.{none_owned, owned_same, carried_few}
use Rattle.flash_refines.specs.Store.Followed.{few_blocks, invariant_here, owners_open}
use Rattle.flash_refines.specs.Store.Placed.{next_number_is, place_found, step_found, kept-found, next_free, placed_mirrors}
use Rattle.flash_allocate.specs.State.{next_sequence, advanced}

module _ {B : ℕ} {score : ℕ → ℕ} {w : World} {run : Run} (b : Writable B run) (room : suc run.now.last < bound32) (f : Follows score w run)
    (n : ℕ) (there : n < run.nodes) (x : Node) where
  abbrev st : Store
  st = run.now

  v : Invariant w.state.blocks w.state.nodes no_checkpoint st
  v = invariant_here b f

  few : w.state.blocks ≤ 64
  few = few_blocks b f

  -- The store with the page, the world before it, and the row, the state after it.
  abbrev after : Store
  after = node_page no_checkpoint w.state.nodes n x st

  abbrev before : World
  before = allocate w

  abbrev at : ℕ
  at = spot before.state

  abbrev row : Row
  row = noted at (fresh (suc st.last) Disk (row_at before.table.rows n))

  abbrev rows' : List Row
  rows' = set before.table.rows n row

  abbrev t' : Worktable
  t' = with_rows rows' before.table

  abbrev s' : State
  s' = advanced (suc st.last) before.state

  same : Kept w before
  same = kept-found few v f.mirrors

  row_here : row_at rows' n ≡ row
  row_here = get_or-set_same before.table.rows n row no_row (omega (arith, same.table, f.mirrors.names.long, f.nodes))

  row_other : (m : ℕ) → (n ≡ m → ⊥) → row_at rows' m ≡ row_at before.table.rows m
  row_other m d = get_or-set_other before.table.rows n m row no_row (λ e. d (sym e))

  other : (m : ℕ) → m < w.state.nodes → (n ≡ m → ⊥) → Same (view st) (view after) m
  other m l d = page_other v n x m l d

  now : Now (view after) n (suc st.last) (Replay.whole x ∷ []) 1 []
  now = page_now v n x

  abbrev own' : ℕ → Page → Bool
  own' = carries (view after)

  abbrev p : Page
  p = next st (whole n x)

  -- the page carries its node, and no other page does
  carried : own' n p ≡ true
  unfolding carries
  carried = rw (now.greatest, eq-eqb n n refl, eq-eqb (suc st.last) (suc st.last) refl) refl

  alone : tally (own' n) (found no_checkpoint w.state.nodes st).blocks ≡ 0
  unfolding node_page place
  alone =
      omega (
        arith,
        carried_few after (page_invariant v n x refl).rules n,
        now.pages,
        add_to-tally (own' n) (found no_checkpoint w.state.nodes st).blocks (found no_checkpoint w.state.nodes st).current p
            (omega (arith, (found_ready v).size, (found_ready v).inside)),
        ap bit carried,
      )

  uncarried : (m : ℕ) → (n ≡ m → ⊥) → own' m p ≡ false
  unfolding carries
  uncarried m d = rw (ne_eqb n m d) refl

  -- what the row names
  named-row : (q : ℕ) → names q row ≡ eqb at q
  unfolding fresh
  named-row q =
      names-noted (fresh (suc st.last) Disk (row_at before.table.rows n)) at q (omega arith) ∙
      ap (λ (t : Bool). t || eqb at q) (names_fresh (row_at before.table.rows n) (suc st.last) Disk q)

  names_new : (m : ℕ) → m < used s' → (n ≡ m) ⊎ (n ≡ m → ⊥) → names at (row_at rows' m) ≡ own' m p
  unfolding advanced
  names_new m l (inl e) = rw (← e) (ap (names at) row_here ∙ named-row at ∙ eq-eqb at at refl ∙ sym carried)
  names_new m l (inr d) = ap (names at) (row_other m d) ∙ next_free few v f.mirrors m l ∙ sym (uncarried m d)

  names-old : (m i q : ℕ) → m < used s' → i < before.state.blocks → q < 32 → (32 * i + q ≡ at → ⊥) → (n ≡ m) ⊎ (n ≡ m → ⊥) →
      names (32 * i + q) (row_at rows' m) ≡ test (own' m) (slice_get (block (found no_checkpoint w.state.nodes st).blocks i) q)
  unfolding advanced
  names-old m i q l li lq apart (inl e) =
      rw (← e)
      (ap (names (32 * i + q)) row_here ∙ named-row (32 * i + q) ∙ ne_eqb at (32 * i + q) (λ z. apart (sym z)) ∙
      sym (none_owned (own' n) (found no_checkpoint w.state.nodes st).blocks alone i q))
  names-old m i q l li lq apart (inr d) =
      ap (names (32 * i + q)) (row_other m d) ∙
      (place_found few v f.mirrors).names.each m i q l li lq ∙
      owned_same (view st) (view after) m (other m (omega (arith, same.nodes, same.checkpoint, f.no_checkpoint_page)) d).greatest
      (slice_get (block (found no_checkpoint w.state.nodes st).blocks i) q)

  -- what it says beside
  row-version : row.version ≡ suc st.last
  unfolding fresh
  row-version = (keeps_noted (fresh (suc st.last) Disk (row_at before.table.rows n)) at).version

  row_mode : row.mode ≡ Disk
  unfolding fresh
  row_mode = (keeps_noted (fresh (suc st.last) Disk (row_at before.table.rows n)) at).mode

  row-score : row.score ≡ (row_at before.table.rows n).score
  unfolding fresh
  row-score = (keeps_noted (fresh (suc st.last) Disk (row_at before.table.rows n)) at).score

  row-pages : row.pages ≡ 1
  unfolding fresh
  row-pages = pages-noted (fresh (suc st.last) Disk (row_at before.table.rows n)) at (omega arith)

  -- another row is as it was, but for where its pages are
  kept : (m : ℕ) → m < w.state.nodes → (n ≡ m → ⊥) → (g : ℕ → ℕ) × (row_at rows' m ≡ mapped g (row_at w.table.rows m))
  kept m l d = let k = same.rows m (omega arith) in (k.0, row_other m d ∙ k.1)

  says : RowsSay w.state.nodes rows' after
  unfolding node_page
  says = record { version = λ m l. version m l (eq_or n m); mode = λ m l. mode m l (eq_or n m); pages = λ m l. pages m l (eq_or n m) }
    where
      version : (m : ℕ) → m < w.state.nodes → (n ≡ m) ⊎ (n ≡ m → ⊥) → (row_at rows' m).version ≡ greatest (view after) m
      version m l (inl e) = rw (← e) (ap (λ (r : Row). r.version) row_here ∙ row-version ∙ sym now.greatest)
      version m l (inr d) = ap (λ (r : Row). r.version) (kept m l d).1 ∙ f.mirrors.rows.version m l ∙ sym (other m l d).greatest

      mode : (m : ℕ) → m < w.state.nodes → (n ≡ m) ⊎ (n ≡ m → ⊥) → RowMode (row_at rows' m).mode after m
      mode m l (inl e) =
          subst (λ (k : ℕ). RowMode (row_at rows' k).mode after k) e
          (subst (λ (k : Mode). RowMode k after n) (sym (ap (λ (r : Row). r.mode) row_here ∙ row_mode))
          (record { node = x; page = rw now.greatest (place-find v (whole n x) st.buffer) }))
      mode m l (inr d) =
          subst (λ (k : Mode). RowMode k after m) (sym (ap (λ (r : Row). r.mode) (kept m l d).1))
          (place_row_mode v m l (row_at w.table.rows m).mode (whole n x) st.buffer (other m l d).greatest (f.mirrors.rows.mode m l))

      pages : (m : ℕ) → m < w.state.nodes → (n ≡ m) ⊎ (n ≡ m → ⊥) → (row_at rows' m).pages ≡ View.pages (view after) m
      pages m l (inl e) = rw (← e) (ap (λ (r : Row). r.pages) row_here ∙ row-pages ∙ sym now.pages)
      pages m l (inr d) = ap (λ (r : Row). r.pages) (kept m l d).1 ∙ f.mirrors.rows.pages m l ∙ sym (other m l d).pages

  mirrored : Mirrors image own' no_checkpoint (world (set before.pages at (image p)) t' s') after
  unfolding node_page advanced
  mirrored =
      placed_mirrors few v f.mirrors (whole n x) st.buffer own' t' s'
      (record {
        blocks = refl;
        current = refl;
        fill = refl;
        last = refl;
        named =
            record {
              long = rw (length-set before.table.rows n row) (place_found few v f.mirrors).names.long;
              new = λ m l. names_new m l (eq_or n m);
              old = λ m i q l li lq d. names-old m i q l li lq d (eq_or n m);
            };
        owners = owners_open before.state.nodes before.state.checkpoint (same.checkpoint ∙ f.no_checkpoint_page) after;
        rows = subst (λ (k : ℕ). RowsSay k rows' after) (sym same.nodes) says;
      })

  -- THE NODE PAGE follows the store's.
  pub node_page_follows : Follows score (Code.node_page n x w) (write_node n x run)
  unfolding Code.node_page Code.write_node disk_row advanced node_page write place
  node_page_follows =
      subst (λ (z : World). Follows score z (write_node n x run)) (sym (step_found few v f.mirrors (Code.write_node n x)))
      (subst (λ (k : ℕ). Follows score
      (world (set before.pages at (image (page k (whole n x)))) (on_page n k at before.table) (advanced k before.state)) (write_node n x run))
      (sym (ap next_sequence (same.last ∙ f.mirrors.last) ∙ next_number_is st.last room))
      (record {
        table = omega (arith, length-set before.table.rows n row, same.table, f.table, same.blocks);
        nodes = same.nodes ∙ f.nodes;
        no_checkpoint_page = same.checkpoint ∙ f.no_checkpoint_page;
        mirrors = subst (λ (k : ℕ). Mirrors image (carries (view (node_page no_checkpoint k n x st))) no_checkpoint
            (world (set before.pages at (image p)) t' s') (node_page no_checkpoint k n x st)) f.nodes mirrored;
        buffer = buffer_same f.buffer same.entries same.buffer;
        scores = λ m l. score_of_lem m l (eq_or n m);
      }))
    where
      score_of_lem : (m : ℕ) → m < run.nodes → (n ≡ m) ⊎ (n ≡ m → ⊥) → (row_at rows' m).score ≡ score m
      score_of_lem m l (inl e) =
          rw (← e)
          (ap (λ (r : Row). r.score) row_here ∙ row-score ∙ ap (λ (r : Row). r.score) (same.rows n (omega (arith, f.nodes))).1 ∙ f.scores n there)
      score_of_lem m l (inr d) = ap (λ (r : Row). r.score) (kept m (omega (arith, f.nodes)) d).1 ∙ f.scores m l
