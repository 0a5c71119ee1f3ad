-- The copies of a block's live pages: page by page the pages stay images of the model's, and the places noted are where the copies are: the
-- page at place q goes behind as many as are live before it. Assumes nothing.
use Rattle.std.proofs.Math.Path.{◌≡◌, refl, ap}
use Rattle.std.proofs.Common.{sym, ◌∙◌, subst, inl, inr, arith, length-take, get_or-set_same, get_or-set_other, set-set, take_all}
use Rattle.std.specs.Prelude.{Bool, ◌⊎◌, ℕ, zero, suc, ◌+◌, ◌*◌, ◌≤◌, ◌<◌, eqb, length, get_or, set, take, replicate, Option, None, Some, slice_get}
use Rattle.std.proofs.Math.Bool.{true, false}
use mathlib.Core.List.{List, [], ◌∷◌, ◌++◌, append-nil}
use Rattle.std.proofs.Math.Numerals.{lt_of_le_of_ne}
use Rattle.std.proofs.Math.ListN.{length-set, length-replicate}
use Rattle.std.proofs.Math.Seq.{set-get_or}
use Rattle.std.proofs.lemmas.Bool.{not-true, not-false}
use Rattle.laws.specs.Tests.{choose, test_clash}
use Rattle.laws.specs.Order.{eq_or}
use Rattle.laws.specs.Counts.{bit, count, count-append, count_le_length, cons_if, filter, length-filter, filter-append}
use Rattle.laws.specs.Loops.{steps-keep}
use Rattle.laws.specs.Elements.{take_get, take-get-none}
use Rattle.laws.specs.Options.{test}
use Rattle.page.specs.Page.{Page}
use Rattle.store.specs.Pool.{Blocks, block}
use Rattle.store_laws.specs.PoolLaws.{Moves}
use Rattle.flash_blocks.specs.Pages.{page_at, copied}
use Rattle.flash_live.specs.Live.{marked}
use Rattle.flash_allocate.specs.Compact.{Copying, copying, copy_page, copy_live, copy_block}
use Rattle.flash_refines.specs.Store.Mirror.{image_at, PagesAre}
use Rattle.flash_refines.specs.Store.Pages.{pages-add}

module _ (f : Page → Bool) where
  -- how many pages that pass stand before place q
  abbrev pub rank : ℕ → List Page → ℕ
  rank q b = count f (take q b)

  -- a page that passes stands in the filtered list at its rank
  pub filter-rank : (b : List Page) (q : ℕ) (p : Page) → slice_get b q ≡ Some p → f p ≡ true → slice_get (filter f b) (rank q b) ≡ Some p
  filter-rank [] q p e t = absurd (let z : ◌≡◌ {A = ℕ} 0 1 = cc in omega arith)
  filter-rank (x ∷ b) zero p e t = let d : x ≡ p = cc in rw (d, t) refl
  filter-rank (x ∷ b) (suc q) p e t = go (f x) (filter-rank b q p e t)
    where
      go : (s : Bool) → slice_get (filter f b) (rank q b) ≡ Some p → slice_get (cons_if s x (filter f b)) (bit s + rank q b) ≡ Some p
      go true h = let z : 1 + rank q b ≡ suc (rank q b) = omega arith in ap (slice_get (x ∷ filter f b)) z ∙ h
      go false h = let z : 0 + rank q b ≡ rank q b = omega arith in ap (slice_get (filter f b)) z ∙ h

  -- and each of the filtered list comes from such a place
  pub record From (b : List Page) (r : ℕ) (p : Page) : Type 0 where
    pub place : ℕ
    pub here : slice_get b place ≡ Some p
    pub passes : f p ≡ true
    pub ranked : rank place b ≡ r

  pub rank-filter : (b : List Page) (r : ℕ) (p : Page) → slice_get (filter f b) r ≡ Some p → From b r p
  rank-filter [] r p e = absurd (let z : ◌≡◌ {A = ℕ} 0 1 = cc in omega arith)
  rank-filter (x ∷ b) r p e = go (f x) refl r e (λ s h. rank-filter b s p h)
    where
      behind : (r s : ℕ) → From b s p → bit (f x) + s ≡ r → From (x ∷ b) r p
      behind r s h d = record { place = suc h.place; here = h.here; passes = h.passes; ranked = omega (arith, h.ranked) }

      go : (t : Bool) → f x ≡ t → (r : ℕ) → slice_get (cons_if t x (filter f b)) r ≡ Some p →
          ((s : ℕ) → slice_get (filter f b) s ≡ Some p → From b s p) → From (x ∷ b) r p
      go true d zero h rec = record { place = 0; here = h; passes = (let q : x ≡ p = cc in rw (← q) d); ranked = refl }
      go true d (suc r) h rec = behind (suc r) r (rec r h) (omega (arith, ap bit d))
      go false d r h rec = behind r r (rec r h) (omega (arith, ap bit d))

unmarked : (x : ℕ) → marked x ≡ false → eqb x 0 ≡ true
unmarked x e = not-false (eqb x 0) e

is-marked : (x : ℕ) → marked x ≡ true → eqb x 0 ≡ false
is-marked x e = not-true (eqb x 0) e

module _ {B : ℕ} {image : Page → List ℕ} (live : Page → Bool) {ps : List (List ℕ)} {bs : Blocks} {i j : ℕ} (v : Moves bs i j) (r : PagesAre B image ps bs)
    (m : List ℕ) (mark : (q : ℕ) → q < 32 → marked (get_or m (32 * i + q) 0) ≡ test live (slice_get (block bs i) q)) where
  -- after k places of block i
  pub record Copied (k : ℕ) (w : Copying) : Type 0 where
    pub pages : PagesAre B image w.pages (set bs j (filter live (take k (block bs i))))
    pub fill : w.fill ≡ rank live k (block bs i)
    pub long : length w.places ≡ 32
    pub places : (q : ℕ) → q < k → (p : Page) → slice_get (block bs i) q ≡ Some p → live p ≡ true → get_or w.places q 0 ≡ 32 * j + rank live q (block bs i)

  inside : i < B
  inside = omega (arith, v.from, r.size)

  target : j < B
  target = omega (arith, v.to, r.size)

  few_copies : (k : ℕ) → length (filter live (take k (block bs i))) ≤ k
  few_copies k =
      omega (arith, length-filter live (take k (block bs i)), count_le_length live (take k (block bs i)), length-take k (block bs i))

  -- nothing to copy at place k
  copied_stays : (k : ℕ) (w : Copying) → filter live (take (k + 1) (block bs i)) ≡ filter live (take k (block bs i)) → rank live (k + 1)
      (block bs i) ≡ rank live k (block bs i) →
      ((p : Page) → slice_get (block bs i) k ≡ Some p → live p ≡ true → ⊥) → Copied k w → Copied (k + 1) w
  copied_stays k w same count dead h =
      record { pages = rw same h.pages; fill = h.fill ∙ sym count; long = h.long; places = λ q l p e t. go q l p e t (eq_or q k) }
    where
      go : (q : ℕ) → q < k + 1 → (p : Page) → slice_get (block bs i) q ≡ Some p → live p ≡ true → (q ≡ k) ⊎ (q ≡ k → ⊥) → get_or w.places q 0 ≡ 32 *
          j + rank live q (block bs i)
      go q l p e t (inl d) = absurd (dead p (rw d at e) t)
      go q l p e t (inr d) = h.places q (lt_of_le_of_ne (omega arith) d) p e t

  -- a live page
  copied_moves : (k : ℕ) (w : Copying) → k < 32 → (p : Page) → slice_get (block bs i) k ≡ Some p → live p ≡ true → Copied k w → Copied (k + 1)
      (copy_page (32 * i) (32 * j) k w)
  unfolding copy_page copied
  copied_moves k w l p e t h =
      record {
        pages = rw more (subst (λ (n : ℕ). PagesAre B image (set w.pages n (page_at w.pages (32 * i + k))) (set bs j (cp ++ (p ∷ []))))
            (sym at) (rw content added));
        fill = omega (arith, h.fill, counted);
        long = length-set w.places k (32 * j + w.fill) ∙ h.long;
        places = λ q g p' e' t'. place q g p' e' t' (eq_or q k);
      }
    where
      cp : List Page
      cp = filter live (take k (block bs i))

      here : block (set bs j cp) j ≡ cp
      here = get_or-set_same bs j cp [] v.to

      at : 32 * j + w.fill ≡ 32 * j + length cp
      at = omega (arith, h.fill, length-filter live (take k (block bs i)))

      content : page_at w.pages (32 * i + k) ≡ image p
      content = h.pages.each i k inside l ∙ ap (λ (x : List Page). image_at image (slice_get x k)) (get_or-set_other bs j i cp [] v.apart) ∙
          ap (image_at image) e

      added : PagesAre B image (set w.pages (32 * j + length cp) (image p)) (set bs j (cp ++ (p ∷ [])))
      added =
          subst (λ (x : List Page). PagesAre B image (set w.pages (32 * j + length x) (image p)) (set bs j (x ++ (p ∷ [])))) here
          (subst (λ (y : Blocks). PagesAre B image (set w.pages (32 * j + length (block (set bs j cp) j)) (image p)) y)
          (set-set bs j cp (block (set bs j cp) j ++ (p ∷ [])))
          (pages-add h.pages j target p (rw here (omega (arith, few_copies k)))))

      more : filter live (take (k + 1) (block bs i)) ≡ cp ++ (p ∷ [])
      more = ap (filter live) (take_get (block bs i) k p e) ∙ filter-append live (take k (block bs i)) (p ∷ []) ∙ ap (λ (x : Bool). cp ++ cons_if x p []) t

      counted : rank live (k + 1) (block bs i) ≡ rank live k (block bs i) + 1
      counted = ap (count live) (take_get (block bs i) k p e) ∙ count-append live (take k (block bs i)) (p ∷ []) ∙ omega (arith, ap bit t)

      place : (q : ℕ) → q < k + 1 → (p' : Page) → slice_get (block bs i) q ≡ Some p' → live p' ≡ true → (q ≡ k) ⊎ (q ≡ k → ⊥) →
          get_or (set w.places k (32 * j + w.fill)) q 0 ≡ 32 * j + rank live q (block bs i)
      place q g p' e' t' (inl d) =
          rw d (get_or-set_same w.places k (32 * j + w.fill) 0 (omega (arith, h.long)) ∙ omega (arith, h.fill))
      place q g p' e' t' (inr d) = get_or-set_other w.places k q (32 * j + w.fill) 0 d ∙ h.places q (lt_of_le_of_ne (omega arith) d) p' e' t'

  copied_more : (k : ℕ) (w : Copying) → k < 32 → Copied k w → Copied (k + 1) (copy_live m (32 * i) (32 * j) k w)
  unfolding copy_live
  copied_more k w l h = go (slice_get (block bs i) k) refl
    where
      go : (c : Option Page) → slice_get (block bs i) k ≡ c → Copied (k + 1) (choose (eqb (get_or m (32 * i + k) 0) 0) w (copy_page (32 * i) (32 * j) k w))
      go None e =
          rw (unmarked (get_or m (32 * i + k) 0) (mark k l ∙ ap (test live) e))
          (copied_stays k w (ap (filter live) (take-get-none (block bs i) k e)) (ap (count live) (take-get-none (block bs i) k e))
          (λ p d t. let z : ◌≡◌ {A = ℕ} 0 1 = cc in omega arith) h)
      go (Some p) e = by (live p) refl
        where
          by : (t : Bool) → live p ≡ t → Copied (k + 1) (choose (eqb (get_or m (32 * i + k) 0) 0) w (copy_page (32 * i) (32 * j) k w))
          by true t =
              rw (is-marked (get_or m (32 * i + k) 0) (mark k l ∙ ap (test live) e ∙ t)) (copied_moves k w l p e t h)
          by false t =
              rw (unmarked (get_or m (32 * i + k) 0) (mark k l ∙ ap (test live) e ∙ t))
              (copied_stays k w same counted (λ p' d t'. other p' d t') h)
            where
              same : filter live (take (k + 1) (block bs i)) ≡ filter live (take k (block bs i))
              same =
                  ap (filter live) (take_get (block bs i) k p e) ∙
                  filter-append live (take k (block bs i)) (p ∷ []) ∙
                  ap (λ (x : Bool). filter live (take k (block bs i)) ++ cons_if x p []) t ∙
                  append-nil (filter live (take k (block bs i)))

              counted : rank live (k + 1) (block bs i) ≡ rank live k (block bs i)
              counted = ap (count live) (take_get (block bs i) k p e) ∙ count-append live (take k (block bs i)) (p ∷ []) ∙ omega (arith, ap bit t)

              other : (p' : Page) → slice_get (block bs i) k ≡ Some p' → live p' ≡ true → ⊥
              other p' d t' = let z : p ≡ p' = cc in test_clash (live p) (ap live z ∙ t') t

  -- The whole block.
  pub copied_all : Copied 32 (copy_block m (32 * i) (32 * j) (copying ps (replicate 32 0) 0))
  unfolding copy_block
  copied_all =
      steps-keep Copied (copy_live m (32 * i) (32 * j)) 32 copied_more (copying ps (replicate 32 0) 0)
      (record {
        pages = rw (ap (set bs j) (sym v.blank) ∙ set-get_or bs j []) r;
        fill = refl;
        long = length-replicate {A = ℕ} 32 0;
        places = λ q l p e t. absurd (omega arith);
      })

  pub take-block : take 32 (block bs i) ≡ block bs i
  take-block = take_all 32 (block bs i) (r.most i)
