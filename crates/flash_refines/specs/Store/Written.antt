-- A page written in the place found: pages and rows stand for the blocks with one page more, where the rows name the new page for those
-- that own it, and all others as before. Assumes nothing.
use Rattle.std.specs.Prelude.{◌≡◌, refl, Bool, false, ◌⊎◌, List, [], ◌∷◌, ◌++◌, ℕ, ◌+◌, ◌*◌, ◌≤◌, ◌<◌, length, set, slice_get}
use Rattle.std.proofs.Common.{sym, ap, ◌∙◌, subst, inl, inr, arith, length-append, get_or-set_same, get_or-set_other}
use Rattle.laws.specs.Order.{eq_or}
use Rattle.laws.specs.Elements.{get_past, get-snoc-old, get-snoc_new}
use Rattle.laws.specs.Options.{test}
use Rattle.page.specs.Page.{Page}
use Rattle.store.specs.Pool.{Blocks, block, add_to}
use Rattle.flash_rows.specs.Step.{names}
use Rattle.flash_rows.specs.declared.Row.{Row}
use Rattle.flash_rows.specs.Worktable.{Worktable}
use Rattle.flash_allocate.specs.declared.state.State.{State}
use Rattle.flash_allocate.specs.World.{World, world, used, spot}
use Rattle.flash_refines.specs.Store.Mirror.{row_at, PagesAre, RowsName}
use Rattle.flash_refines.specs.Store.Pages.{place_apart, pages-add}
use Rattle.flash_refines.specs.Store.Allocate.{Stands}

module _ {image : Page → List ℕ} {own : ℕ → Page → Bool} {w : World} {bs : Blocks} {here : ℕ} (r : Stands image own w bs here)
    (inside : here < w.state.blocks)
    (room : length (block bs here) < 32) where
  spot_is : spot w.state ≡ 32 * here + length (block bs here)
  spot_is = omega (arith, r.current, r.fill)

  -- no row names the place of the next page
  pub spot_free : (n : ℕ) → n < used w.state → names (spot w.state) (row_at w.table.rows n) ≡ false
  spot_free n l =
      ap (λ (x : ℕ). names x (row_at w.table.rows n)) spot_is ∙
      r.names.each n here (length (block bs here)) l inside room ∙
      ap (test (own n)) (get_past (block bs here))

  -- What the rows must say after the page was written: `own'` tells whose the pages are then.
  pub record Named (p : Page) (rows_used : ℕ) (own' : ℕ → Page → Bool) (rows' : List Row) : Type 0 where
    pub long : rows_used ≤ length rows'
    pub new : (n : ℕ) → n < rows_used → names (spot w.state) (row_at rows' n) ≡ own' n p
    pub old : (n i q : ℕ) → n < rows_used → i < w.state.blocks → q < 32 → (32 * i + q ≡ spot w.state → ⊥) →
        names (32 * i + q) (row_at rows' n) ≡ test (own' n) (slice_get (block bs i) q)

  rows-added : (p : Page) (rows_used : ℕ) (own' : ℕ → Page → Bool) (rows' : List Row) → Named p rows_used own' rows' →
      RowsName w.state.blocks rows_used own' rows' (add_to bs here p)
  rows-added p rows_used own' rows' h =
      record { long = h.long; each = λ n i q ln li lq. each n i q ln li lq (eq_or i here) (eq_or q (length (block bs here))) }
    where
      added : block (add_to bs here p) here ≡ block bs here ++ (p ∷ [])
      added = get_or-set_same bs here (block bs here ++ (p ∷ [])) [] (omega (arith, r.pages.size))

      each : (n i q : ℕ) → n < rows_used → i < w.state.blocks → q < 32 → (i ≡ here) ⊎ (i ≡ here → ⊥) → (q ≡ length (block bs here)) ⊎
          (q ≡ length (block bs here) → ⊥) →
          names (32 * i + q) (row_at rows' n) ≡ test (own' n) (slice_get (block (add_to bs here p) i) q)
      each n i q ln li lq (inl e) (inl d) =
          let z : 32 * i + q ≡ spot w.state = omega (arith, spot_is) in
          ap (λ (x : ℕ). names x (row_at rows' n)) z ∙ h.new n ln ∙ sym (rw (e, d, added, get-snoc_new (block bs here) p) refl)
      each n i q ln li lq (inl e) (inr d) =
          h.old n i q ln li lq (λ z. d (omega (arith, spot_is))) ∙
          sym (rw (e, added, get-snoc-old (block bs here) p q d) refl)
      each n i q ln li lq (inr e) d =
          h.old n i q ln li lq (λ z. place_apart i here q (length (block bs here)) lq room e (z ∙ spot_is)) ∙
          sym (ap (λ (b : List Page). test (own' n) (slice_get b q)) (get_or-set_other bs here i (block bs here ++ (p ∷ [])) [] e))

  -- ONE PAGE WRITTEN, with the rows that follow it
  pub stands_written : (p : Page) (own' : ℕ → Page → Bool) (t' : Worktable) (s' : State) → s'.blocks ≡ w.state.blocks → s'.current ≡
      w.state.current →
      s'.fill ≡ w.state.fill + 1 → Named p (used s') own' t'.rows →
      Stands image own' (world (set w.pages (spot w.state) (image p)) t' s') (add_to bs here p) here
  stands_written p own' t' s' eb ec ef h =
      record {
        pages =
            subst (λ (k : ℕ). PagesAre k image (set w.pages (spot w.state) (image p)) (add_to bs here p)) (sym eb)
            (subst (λ (k : ℕ). PagesAre w.state.blocks image (set w.pages k (image p)) (add_to bs here p)) (sym spot_is)
            (pages-add r.pages here inside p room));
        names = subst (λ (k : ℕ). RowsName k (used s') own' t'.rows (add_to bs here p)) (sym eb) (rows-added p (used s') own' t'.rows h);
        current = ec ∙ r.current;
        fill = ef ∙ omega (arith, r.fill, ap length added, length-append (block bs here) (p ∷ []));
      }
    where
      added : block (add_to bs here p) here ≡ block bs here ++ (p ∷ [])
      added = get_or-set_same bs here (block bs here ++ (p ∷ [])) [] (omega (arith, r.pages.size))
