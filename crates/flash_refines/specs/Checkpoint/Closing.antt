-- THE CHECKPOINT of the code is the model's: checkpoint page by checkpoint page the world stands for the store, and at the end each page is the image of the
-- store's page there. Assumes nothing.
use Rattle.std.specs.Prelude.{◌≡◌, eqb, length, set, Option, None, Some, slice_get}
use Rattle.std.proofs.Math.Path.{refl, ap, subst}
use Rattle.std.proofs.Common.{sym, ◌∙◌, add-one, eq-eqb, ne_eqb}
use mathlib.Core.List.{List, [], ◌∷◌}
use Prim.Native.Nat.{ℕ, zero, suc, ◌+◌, ◌≤◌, ◌<◌}
use native.Mathlib.Omega.{arith}
use Rattle.std.proofs.Math.ListN.{length-set}
use Rattle.laws.specs.Loops.{steps}
use Rattle.laws.specs.Counts.{bit_le_one, tally}
use Rattle.laws.specs.Options.{test}
use Rattle.layout.specs.Layout.{most_blocks, bound32}
use Rattle.account.specs.declared.Tariff.{Tariff}
use Rattle.page.specs.Page.{Entry, Score, Page, page}
use Rattle.page.specs.Page as p
use Rattle.page.specs.Image.{image}
use Rattle.store.specs.Pool.{block}
use Rattle.store.specs.Store.{Store, view}
use Rattle.store.specs.Live.{carries, no_checkpoint, checkpoint_since}
use Rattle.store.specs.Write.{next, place}
use Rattle.store.specs.Write as Write
use Rattle.store.specs.Run.{Run, write, flush_run}
use Rattle.store.specs.Checkpoint.{CheckpointPage, checkpoint_page_content, scores_from, write_checkpoint_pages, drain_by, close}
use Rattle.store.specs.Checkpoint as Model
use Rattle.store_laws.specs.Placing.{Invariant}
use Rattle.store_laws.proofs.Placing.{place-tally, silent_invariant}
use Rattle.store_laws.proofs.Closing.{closing_none, closing_begins}
use Rattle.store_laws.proofs.Good.{flush_run_good}
use Rattle.store_laws.proofs.WriteFits.{flush-fits}
use Rattle.flash_rows.specs.declared.Row.{Row}
use Rattle.flash_rows.specs.Worktable.{with_row, rows_for}
use Rattle.flash_allocate.specs.declared.state.State.{State}
use Rattle.flash_allocate.specs.World.{World, world, used, spot}
use Rattle.flash_allocate.specs.Allocate.{allocate}
use Rattle.std.specs.Bool.{then_some}
use Rattle.flash_checkpoint.specs.CheckpointPages.{scores_before, scores_of_page, page_count, checkpoint_image, checkpoint_row}
use Rattle.flash_checkpoint.specs.CheckpointPages.{write_checkpoint_page, checkpoint_page, checkpoint_pages, drain, checkpoint}
use Rattle.flash_refines.specs.Store.Mirror.{row_at, PagesAre, Owners, Mirrors}
use Rattle.flash_refines.specs.Store.Allocate.{Kept}
use Rattle.flash_refines.specs.Store.Follows.{Follows, Writable}
use Rattle.flash_refines.specs.Store.Followed.{few_blocks, invariant_here}
use Rattle.flash_refines.specs.Write.Flush.{flush_follows}
use Rattle.flash_refines.specs.Store.Placed.{next_number_is, kept-found, step_found}
use Rattle.flash_refines.specs.Checkpoint.CheckpointPages.{scores_of-is, checkpoint_page_inside, checkpoint_page_of, checkpoint_pages_from}
use Rattle.flash_refines.specs.Checkpoint.CheckpointPages.{checkpoint-pages_are}
use Rattle.flash_refines.specs.Checkpoint.CheckpointPage.{owner, owner_node, owners_closing, row_kept, checkpoint_page_mirrors}
use Rattle.flash_allocate.specs.State.{next_sequence, page_counted}

-- A world stands for a store while a checkpoint is written, `base` being the last number taken before it and k the checkpoint pages written: as many rows
-- behind those of the nodes name its pages. With what the store keeps meanwhile.
pub record Closes (score : ℕ → ℕ) (base k : ℕ) (w : World) (st : Store) : Type 0 where
  pub few : w.state.blocks ≤ most_blocks
  pub table : rows_for w.state.blocks ≤ length w.table.rows
  pub written : w.state.checkpoint ≡ k
  pub number : st.last ≡ base + k
  pub mirrors : Mirrors image (owner base w.state.nodes st) (checkpoint_since base) w st
  pub scores : (n : ℕ) → n < w.state.nodes → (row_at w.table.rows n).score ≡ score n
  pub invariant : Invariant w.state.blocks w.state.nodes (checkpoint_since base) st
  pub checkpoint_pages : tally (checkpoint_since base) st.blocks ≤ k

-- The next checkpoint page, k being written.
module _ {score : ℕ → ℕ} (base k : ℕ) {w : World} {st : Store} (h : Closes score base k w st) (t : Tariff) (needed : k < page_count w.state.nodes)
    (low : suc st.last < bound32) where
  abbrev nodes : ℕ
  nodes = w.state.nodes

  -- what was found for it: rows and state
  abbrev rows : List Row
  rows = (allocate w).table.rows

  abbrev s : State
  s = (allocate w).state

  -- what it holds; the store and the world with it
  abbrev x : CheckpointPage
  x = checkpoint_page_of t score nodes k

  abbrev after : Store
  after = place (checkpoint_since base) nodes (checkpoint_page_content x) st.buffer st

  abbrev put : ℕ → List ℕ → World
  put number bytes =
      world (set (allocate w).pages (spot s) bytes) (with_row (used s) (checkpoint_row number (spot s)) (allocate w).table) (page_counted number s)

  abbrev with : World
  with = put (suc st.last) (image (next st (checkpoint_page_content x)))

  room : used w.state < length w.table.rows
  room = omega (arith, h.table, h.written, h.invariant.nodes, h.invariant.blocks, h.few)

  keep : Kept w (allocate w)
  keep = kept-found h.few h.invariant h.mirrors

  found-scores : (n : ℕ) → n < nodes → (row_at rows n).score ≡ score n
  found-scores n l = ap (λ (r : Row). r.score) (keep.rows n (omega arith)).1 ∙ h.scores n l

  checkpoint_page_image : checkpoint_image (suc st.last) t k nodes rows ≡ image (next st (checkpoint_page_content x))
  unfolding checkpoint_image checkpoint_page_of
  checkpoint_page_image =
      ap (λ (ss : List Score). image (page (suc st.last) (p.checkpoint (then_some (eqb k 0) t) ss (then_some (eqb (k + 1) (page_count nodes)) nodes))))
      (scores_of-is rows score nodes found-scores (scores_before k) (scores_of_page k nodes) (checkpoint_page_inside k nodes needed))

  checkpoint_page_is : checkpoint_page t k w ≡ with
  unfolding checkpoint_page write_checkpoint_page
  checkpoint_page_is =
      let number : next_sequence s.last ≡ suc st.last = ap next_sequence (keep.last ∙ h.mirrors.last) ∙ next_number_is st.last low in
      step_found h.few h.invariant h.mirrors (write_checkpoint_page t k) ∙
      ap (λ (n : ℕ). put n (checkpoint_image n t k s.nodes rows)) number ∙
      ap (put (suc st.last)) (ap (λ (n : ℕ). checkpoint_image (suc st.last) t k n rows) keep.nodes ∙ checkpoint_page_image)

  closes-with : Closes score base (suc k) with after
  unfolding page_counted place
  closes-with =
      let most : k < 12 = omega (arith, h.invariant.nodes, h.few) in
      record {
        few = omega (arith, keep.blocks, h.few);
        table = omega (arith, length-set rows (used s) (checkpoint_row (suc st.last) (spot s)), keep.table, keep.blocks, h.table);
        written = omega (arith, keep.checkpoint, h.written);
        number = omega (arith, h.number);
        mirrors =
            subst (λ (n : ℕ). Mirrors image (owner base n after) (checkpoint_since base) with after) (sym keep.nodes)
            (checkpoint_page_mirrors base h.few h.invariant h.mirrors h.written h.number room x);
        scores =
            λ n l.
            let below : n < nodes = omega (arith, keep.nodes) in
            ap (λ (r : Row). r.score) (row_kept base h.few h.invariant h.mirrors h.written h.number room x n below).1 ∙ h.scores n below;
        invariant =
            subst (λ (n : ℕ). Invariant s.blocks n (checkpoint_since base) after) (sym keep.nodes)
            (subst (λ (b : ℕ). Invariant b nodes (checkpoint_since base) after) (sym keep.blocks)
            (silent_invariant h.invariant (checkpoint_page_content x) refl (omega (arith, h.checkpoint_pages))));
        checkpoint_pages =
            omega (
              arith,
              place-tally h.invariant (checkpoint_since base) (checkpoint_page_content x) st.buffer,
              h.checkpoint_pages,
              bit_le_one (checkpoint_since base (next st (checkpoint_page_content x))),
            );
      }

  -- ONE SHEET: the world that the code leaves stands for the store with the model's checkpoint page.
  pub closes-checkpoint_page : Closes score base (suc k) (checkpoint_page t k w)
      (place (checkpoint_since base) w.state.nodes (checkpoint_page_content (checkpoint_page_of t score w.state.nodes k)) st.buffer st)
  closes-checkpoint_page = subst (λ (w' : World). Closes score base (suc k) w' after) (sym checkpoint_page_is) closes-with

  checkpoint_page_nodes : (checkpoint_page t k w).state.nodes ≡ nodes
  unfolding page_counted
  checkpoint_page_nodes = ap (λ (w' : World). w'.state.nodes) checkpoint_page_is ∙ keep.nodes

-- A world whose pages are the images of the run's, in the same place: what a checkpoint leaves.
pub record Closed (w : World) (run : Run) : Type 0 where
  pub pages : PagesAre w.state.blocks image w.pages run.now.blocks
  pub current : w.state.current ≡ run.now.current
  pub fill : w.state.fill ≡ length (block run.now.blocks run.now.current)
  pub last : w.state.last ≡ run.now.last
  pub nodes : w.state.nodes ≡ run.nodes

module _ (score : ℕ → ℕ) (base : ℕ) (t : Tariff) where
  abbrev write_next : ℕ → Run → Run
  write_next k run = write (checkpoint_since base) (checkpoint_page_content (checkpoint_page_of t score run.nodes k)) run.now.buffer run

  -- the checkpoint pages that are left, from checkpoint page k on
  closes-rest : (m k : ℕ) (w : World) (run : Run) → w.state.nodes ≡ run.nodes → Closes score base k w run.now → k + m ≡ page_count run.nodes →
      base + page_count run.nodes < bound32 → Closed (steps (checkpoint_page t) m k w)
      (write_checkpoint_pages (checkpoint_since base) (checkpoint_pages_from t score run.nodes m k) run)
  unfolding steps write
  closes-rest zero k w run e h s l =
      record { pages = h.mirrors.pages; current = h.mirrors.current; fill = h.mirrors.fill; last = h.mirrors.last; nodes = e }
  closes-rest (suc m) k w run e h s l =
      let needed : k < page_count w.state.nodes = omega arith in
      let low : suc run.now.last < bound32 = omega (arith, h.number) in
      closes-rest m (k + 1) (checkpoint_page t k w) (write_next k run) (checkpoint_page_nodes base k h t needed low ∙ e)
      (subst (λ (j : ℕ). Closes score base j (checkpoint_page t k w) (write_next k run).now) (sym (add-one k))
      (subst
      (λ (n : ℕ). Closes score base (suc k) (checkpoint_page t k w)
      (place (checkpoint_since base) n (checkpoint_page_content (checkpoint_page_of t score n k)) run.now.buffer run.now))
      e (closes-checkpoint_page base k h t needed low)))
      (omega arith) l

module _ {B : ℕ} {score : ℕ → ℕ} {w : World} {run : Run} (b : Writable B run) (f : Follows score w run) where
  abbrev st : Store
  st = run.now

  mirrors_begin : Mirrors image (owner st.last w.state.nodes st) (checkpoint_since st.last) w st
  mirrors_begin =
      let m = f.mirrors in
      record {
        pages = m.pages;
        names =
            record {
              long = m.names.long;
              each = λ n i q ln li lq. m.names.each n i q ln li lq ∙ carried n (omega (arith, f.no_checkpoint_page)) (slice_get (block st.blocks i) q);
            };
        owners =
            subst (λ (k : ℕ). Owners (owner st.last w.state.nodes st) (checkpoint_since st.last) w.state.nodes k st) (sym f.no_checkpoint_page)
            (owners_closing st.last 0 w.state.nodes st (omega arith));
        rows = m.rows;
        current = m.current;
        fill = m.fill;
        last = m.last;
      }
    where
      carried : (n : ℕ) → n < w.state.nodes → (c : Option Page) → test (carries (view st) n) c ≡ test (owner st.last w.state.nodes st n) c
      carried n l None = refl
      carried n l (Some p) = sym (owner_node st.last w.state.nodes st n p l)

  closes-begin : Closes score st.last 0 w st
  closes-begin =
      record {
        few = few_blocks b f;
        table = f.table;
        written = f.no_checkpoint_page;
        number = omega arith;
        mirrors = mirrors_begin;
        scores = λ n l. f.scores n (omega (arith, f.nodes));
        invariant = closing_begins (invariant_here b f);
        checkpoint_pages = omega (arith, closing_none b.good.invariant);
      }

  -- ALL SHEETS: the pages left are the images of the store's.
  pub checkpoint-pages-close : 12 + run.now.last < bound32 → (t : Tariff) →
      Closed (checkpoint_pages t w) (write_checkpoint_pages (checkpoint_since run.now.last) (Model.checkpoint_pages t (scores_from 0 run.nodes score)) run)
  unfolding checkpoint_pages
  checkpoint-pages-close low t =
      subst (λ (n : ℕ). goal n (Model.checkpoint_pages t (scores_from 0 run.nodes score))) (sym f.nodes)
      (subst (goal run.nodes) (sym (checkpoint-pages_are t score run.nodes))
      (closes-rest score st.last t (page_count run.nodes) 0 w run f.nodes closes-begin (omega arith)
      (omega (arith, b.few, b.good.invariant.nodes))))
    where
      goal : ℕ → List CheckpointPage → Type 0
      goal n xs = Closed (steps (checkpoint_page t) (page_count n) 0 w) (write_checkpoint_pages (checkpoint_since st.last) xs run)

-- THE CHECKPOINT: the buffer is drained, then the checkpoint pages are written.
pub checkpoint_follows : {B : ℕ} {score : ℕ → ℕ} {w : World} {run : Run} → Writable B run → 13 + run.now.last < bound32 → (t : Tariff) →
    Follows score w run → Closed (checkpoint t w) (close t score run)
unfolding checkpoint close drain write place Write.flush
checkpoint_follows {B} {score} {w} {run} b low t f = go run.now.buffer refl
  where
    flushed : 1 ≤ length run.now.buffer → Writable B (flush_run run)
    flushed l = record { few = b.few; good = flush_run_good b.good; fits = flush-fits b.fits (omega arith) no_checkpoint run.nodes l }

    go : (es : List Entry) → run.now.buffer ≡ es →
        Closed (checkpoint_pages t (drain w))
        (write_checkpoint_pages (checkpoint_since (drain_by es run).now.last) (Model.checkpoint_pages t (scores_from 0 run.nodes score))
        (drain_by es run))
    go [] e = rw (eq-eqb w.state.entries 0 (f.buffer.number ∙ ap length e)) (checkpoint-pages-close b f (omega arith) t)
    go (x ∷ es) e =
        rw (ne_eqb w.state.entries 0 (λ z. omega (arith, f.buffer.number, ap length e)))
        (checkpoint-pages-close (flushed (omega (arith, ap length e))) (flush_follows b (omega arith) f) (omega arith) t)
