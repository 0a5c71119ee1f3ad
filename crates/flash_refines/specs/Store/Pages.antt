-- Pages that are images stay so: where one page is written behind the others of its block, and where a block is erased. Assumes nothing.
use Rattle.std.specs.Prelude.{◌≡◌, refl, true, ◌⊎◌, ℕ, ◌+◌, ◌*◌, ◌≤◌, ◌<◌, length, get_or, set, slice_get}
use Rattle.std.proofs.Common.{sym, ◌∙◌, inl, inr, add-zero, arith, length-append, get_or-set_other}
use Rattle.std.proofs.Math.Path.{ap}
use mathlib.Core.List.{List, [], ◌∷◌, ◌++◌}
use Rattle.std.proofs.Math.ListN.{length-set}
use Rattle.std.proofs.Math.Seq.{get_or-set_same}
use Rattle.std.proofs.Math.Numerals.{lt_of_le_of_ne}
use Rattle.laws.specs.Order.{eq_or, le_or}
use Rattle.laws.specs.Counts.{empty}
use Rattle.laws.specs.Chunks.{length-set_run, get-set_run-inside, get-set_run_outside}
use Rattle.laws.specs.Elements.{get-snoc-old, get-snoc_new}
use Rattle.page.specs.Page.{Page}
use Rattle.store.specs.Pool.{Blocks, block, add_to}
use Rattle.flash_blocks.specs.Pages.{blank_page, page_at, is_blank, erased}
use Rattle.flash_blocks.specs.Blank.{blank_block}
use Rattle.flash_refines.specs.Store.Mirror.{image_at, Images, PagesAre}

-- Two places are one only in one block.
pub place_apart : (i j q r : ℕ) → q < 32 → r < 32 → (i ≡ j → ⊥) → 32 * i + q ≡ 32 * j + r → ⊥
place_apart i j q r lq lr d e = d (omega arith)

blank-is : is_blank blank_page ≡ true
unfolding is_blank blank_page
blank-is = refl

module _ {B : ℕ} {image : Page → List ℕ} {ps : List (List ℕ)} {bs : Blocks} (r : PagesAre B image ps bs) where
  -- a block is blank where the model's is
  pub blank-block : Images image → (i : ℕ) → i < B → blank_block ps i ≡ empty (block bs i)
  unfolding blank_block
  blank-block w i l =
      ap (λ (k : ℕ). is_blank (page_at ps k)) (sym (add-zero (32 * i))) ∙ ap is_blank (r.each i 0 l (omega arith)) ∙ first (block bs i)
    where
      first : (b : List Page) → is_blank (image_at image (slice_get b 0)) ≡ empty b
      first [] = blank-is
      first (p ∷ b) = w.written p

  module _ (j : ℕ) (l : j < B) where
    inside : j < length bs
    inside = omega (arith, r.size)

    -- one page more in a block
    pub pages-add : (p : Page) → length (block bs j) < 32 → PagesAre B image (set ps (32 * j + length (block bs j)) (image p)) (add_to bs j p)
    unfolding page_at
    pages-add p f =
        record {
          size = length-set bs j new ∙ r.size;
          long = length-set ps at (image p) ∙ r.long;
          most = λ i. most i (eq_or i j);
          each = λ i q li lq. each i q li lq (eq_or i j) (eq_or q (length (block bs j)));
        }
      where
        new : List Page
        new = block bs j ++ (p ∷ [])

        at : ℕ
        at = 32 * j + length (block bs j)

        here : block (add_to bs j p) j ≡ new
        here = get_or-set_same bs j new [] inside

        most : (i : ℕ) → (i ≡ j) ⊎ (i ≡ j → ⊥) → length (block (add_to bs j p) i) ≤ 32
        most i (inl e) = rw (e, here) (omega (arith, length-append (block bs j) (p ∷ [])))
        most i (inr e) = rw (get_or-set_other bs j i new [] e) (r.most i)

        each : (i q : ℕ) → i < B → q < 32 → (i ≡ j) ⊎ (i ≡ j → ⊥) → (q ≡ length (block bs j)) ⊎ (q ≡ length (block bs j) → ⊥) →
            get_or (set ps at (image p)) (32 * i + q) blank_page ≡ image_at image (slice_get (block (add_to bs j p) i) q)
        each i q li lq (inl e) (inl d) =
            rw (e, d, here, get-snoc_new (block bs j) p) (get_or-set_same ps at (image p) blank_page (omega (arith, r.long)))
        each i q li lq (inl e) (inr d) =
            rw (e, here, get-snoc-old (block bs j) p q d) (get_or-set_other ps at (32 * j + q) (image p) blank_page (λ x. d (omega arith)) ∙ r.each j q l lq)
        each i q li lq (inr e) d =
            rw (get_or-set_other bs j i new [] e)
            (get_or-set_other ps at (32 * i + q) (image p) blank_page (place_apart i j q (length (block bs j)) lq f e) ∙ r.each i q li lq)

    -- a block erased
    pub pages-erased : PagesAre B image (erased j ps) (set bs j [])
    unfolding page_at erased
    pages-erased =
        record {
          size = length-set bs j [] ∙ r.size;
          long = length-set_run blank_page blank_page 32 (32 * j) ps ∙ r.long;
          most = λ i. most i (eq_or i j);
          each = λ i q li lq. each i q li lq (eq_or i j);
        }
      where
        here : block (set bs j []) j ≡ []
        here = get_or-set_same bs j [] [] inside

        most : (i : ℕ) → (i ≡ j) ⊎ (i ≡ j → ⊥) → length (block (set bs j []) i) ≤ 32
        most i (inl e) = rw (e, here) (omega arith)
        most i (inr e) = rw (get_or-set_other bs j i [] [] e) (r.most i)

        side : (i q : ℕ) → q < 32 → (i ≡ j → ⊥) → (i ≤ j) ⊎ (j < i) → (32 * i + q < 32 * j) ⊎ (32 * j + 32 ≤ 32 * i + q)
        side i q lq e (inr h) = inr (omega arith)
        side i q lq e (inl h) = inl (omega (arith, lt_of_le_of_ne h e))

        each : (i q : ℕ) → i < B → q < 32 → (i ≡ j) ⊎ (i ≡ j → ⊥) → get_or (erased j ps) (32 * i + q) blank_page ≡ image_at image
            (slice_get (block (set bs j []) i) q)
        each i q li lq (inl e) =
            rw (e, here) (get-set_run-inside blank_page blank_page 32 (32 * j) ps (32 * j + q) (omega arith) (omega arith) (omega (arith, r.long)))
        each i q li lq (inr e) =
            rw (get_or-set_other bs j i [] [] e)
            (get-set_run_outside blank_page blank_page 32 (32 * j) ps (32 * i + q) (side i q lq e (le_or i j)) ∙ r.each i q li lq)
