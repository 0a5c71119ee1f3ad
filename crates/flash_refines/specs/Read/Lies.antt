-- Where the page of a sequence number lies: in a block of the pool, with its image in the pages there, and within its limits. Assumes
-- nothing.
use Rattle.std.specs.Prelude.{◌≡◌, refl, Bool, true, false, List, [], ◌∷◌, ℕ, suc, ◌+◌, ◌*◌, ◌<◌, length, Option, None, Some, slice_get}
use Rattle.std.proofs.Common.{sym, ap, ◌∙◌, suc-le-suc, arith, eqb-true}
use Rattle.laws.specs.Tests.{choose}
use Rattle.laws.specs.Every.{every_in}
use Rattle.laws.specs.Options.{some_same}
use Rattle.laws.specs.Elements.{every_get}
use Rattle.page.specs.Page.{Page, sequence}
use Rattle.page.specs.Limits.{PageFits}
use Rattle.store.specs.Pool.{Blocks, block, numbered, page_in, or_else, find}
use Rattle.store_laws.specs.StoreFits.{BlocksFit}
use Rattle.flash_blocks.specs.Pages.{page_at}
use Rattle.flash_refines.specs.Store.Mirror.{image_at, PagesAre}

-- A page with a sequence number, in a block.
pub record In (b : List Page) (s : ℕ) (p : Page) : Type 0 where
  pub place : ℕ
  pub inside : place < length b
  pub here : slice_get b place ≡ Some p
  pub sequenced : sequence p ≡ s

one-behind : {b : List Page} {s : ℕ} {p : Page} (x : Page) → In b s p → In (x ∷ b) s p
one-behind x h = record { place = suc h.place; inside = suc-le-suc h.inside; here = h.here; sequenced = h.sequenced }

page_in_in : (s : ℕ) (b : List Page) (p : Page) → page_in s b ≡ Some p → In b s p
page_in_in s [] p e = absurd (let z : ◌≡◌ {A = ℕ} 0 1 = cc in omega arith)
page_in_in s (x ∷ b) p e = go (numbered s x) refl e (λ q. page_in_in s b p q)
  where
    go : (t : Bool) → numbered s x ≡ t → choose t (Some x) (page_in s b) ≡ Some p → (page_in s b ≡ Some p → In b s p) → In (x ∷ b) s p
    go true q h r =
        let same = some_same h in
        record { place = 0; inside = omega arith; here = h; sequenced = ap sequence (sym same) ∙ eqb-true (sequence x) s q }
    go false q h r = one-behind x (r h)

-- The same in a pool: the number of its block, and its place there.
pub record Lies (bs : Blocks) (s : ℕ) (p : Page) : Type 0 where
  pub number : ℕ
  pub inside : number < length bs
  pub at : In (block bs number) s p

pub find_lies : (s : ℕ) (bs : Blocks) (p : Page) → find s bs ≡ Some p → Lies bs s p
find_lies s [] p e = absurd (let z : ◌≡◌ {A = ℕ} 0 1 = cc in omega arith)
find_lies s (b ∷ bs) p e = go (page_in s b) refl e (λ q. find_lies s bs p q)
  where
    go : (o : Option Page) → page_in s b ≡ o → or_else o (find s bs) ≡ Some p → (find s bs ≡ Some p → Lies bs s p) → Lies (b ∷ bs) s p
    go None q h r = let f = r h in record { number = suc f.number; inside = suc-le-suc f.inside; at = f.at }
    go (Some x) q h r = record { number = 0; inside = omega arith; at = page_in_in s b p (q ∙ h) }

module _ {bs : Blocks} {s : ℕ} {p : Page} (h : Lies bs s p) where
  -- its place among all pages
  abbrev pub place_of : ℕ
  place_of = 32 * h.number + h.at.place

  pub page_fits : BlocksFit bs → PageFits p
  page_fits f = every_get (every_in bs h.number f) h.at.place p h.at.here

module _ {B : ℕ} {image : Page → List ℕ} {ps : List (List ℕ)} {bs : Blocks} {s : ℕ} {p : Page} (r : PagesAre B image ps bs) (h : Lies bs s p) where
  pub block-below : h.number < B
  block-below = omega (arith, r.size, h.inside)

  pub place-below : h.at.place < 32
  place-below = omega (arith, r.most h.number, h.at.inside)

  pub image-here : page_at ps (place_of h) ≡ image p
  image-here = r.each h.number h.at.place block-below place-below ∙ ap (image_at image) h.at.here
