-- The written pages of a pool as one list, cell by cell and block by block: where blank cells follow written ones in each block, the two are one.
-- Assumes nothing.
use Rattle.std.specs.Prelude.{◌≡◌, refl, Bool, true, List, [], ◌∷◌, ◌++◌, ℕ, zero, suc, ◌*◌, max, length, take, drop, None, Some}
use Rattle.std.proofs.Common.{sym, ap, ap₂, ◌∙◌, arith, length-drop, take-append-drop}
use Rattle.laws.specs.Tests.{and_left, and_right}
use Rattle.laws.specs.Counts.{count, tally, count-append}
use Rattle.laws.specs.Lists.{length-zero}
use Rattle.page.specs.Page.{Page}
use Rattle.store.specs.Pool.{Blocks}
use Rattle.store.specs.Reopen.{Cells, block_in, blocks_in, greatest_of, newest, blank, filled, all_filled}

-- The written pages of cells, in order; and those of blocks.
abbrev pub pages_in : Cells → List Page
pages_in [] = []
pages_in (None ∷ c) = pages_in c
pages_in (Some p ∷ c) = p ∷ pages_in c

abbrev pub pages_over : Blocks → List Page
pages_over [] = []
pages_over (b ∷ bs) = b ++ pages_over bs

pages_in-append : (c d : Cells) → pages_in (c ++ d) ≡ pages_in c ++ pages_in d
pages_in-append [] d = refl
pages_in-append (None ∷ c) d = pages_in-append c d
pages_in-append (Some p ∷ c) d = ap {B = List Page} (λ l. p ∷ l) (pages_in-append c d)

pages_in-blank : (c : Cells) → blank c ≡ true → pages_in c ≡ []
pages_in-blank [] e = refl
pages_in-blank (None ∷ c) e = pages_in-blank c e
pages_in-blank (Some p ∷ c) e = cc

pages_in-filled : (c : Cells) → filled c ≡ true → pages_in c ≡ block_in c
pages_in-filled [] e = refl
pages_in-filled (None ∷ c) e = pages_in-blank c e
pages_in-filled (Some p ∷ c) e = ap {B = List Page} (λ l. p ∷ l) (pages_in-filled c e)

pub pages_in-blocks : (width k : ℕ) (c : Cells) → length c ≡ width * k → all_filled width k c ≡ true → pages_in c ≡ pages_over (blocks_in width k c)
pages_in-blocks width zero c l t = ap pages_in (length-zero c (omega arith))
pages_in-blocks width (suc k) c l t =
    ap pages_in (sym (take-append-drop width c)) ∙
    pages_in-append (take width c) (drop width c) ∙
    ap₂ {B = List Page} ◌++◌ (pages_in-filled (take width c) (and_left (filled (take width c)) (all_filled width k (drop width c)) t))
    (pages_in-blocks width k (drop width c) (omega (arith, length-drop width c)) (and_right (filled (take width c)) (all_filled width k (drop width c)) t))

-- What is counted, and the newest number.
pub pages_over-tally : (f : Page → Bool) (bs : Blocks) → count f (pages_over bs) ≡ tally f bs
pages_over-tally f [] = refl
pages_over-tally f (b ∷ bs) = count-append f b (pages_over bs) ∙ omega (arith, pages_over-tally f bs)

greatest_of-append : (a b : List Page) → greatest_of (a ++ b) ≡ max (greatest_of a) (greatest_of b)
greatest_of-append [] b = omega arith
greatest_of-append (p ∷ a) b = omega (arith, greatest_of-append a b)

pub pages_over-newest : (bs : Blocks) → greatest_of (pages_over bs) ≡ newest bs
pages_over-newest [] = refl
pages_over-newest (b ∷ bs) = omega (arith, pages_over-newest bs, greatest_of-append b (pages_over bs))
