-- The written pages of a pool, as they lie: each is found by its number, and a sum over places is the sum over numbers, since each number
-- has one page at most. Assumes nothing.
use Rattle.std.specs.Prelude.{◌≡◌, Bool, true, false, length, get_or, Option, None, Some}
use Rattle.std.proofs.Math.Path.{refl, ap}
use Rattle.std.proofs.Common.{sym, ◌∙◌, add-zero, arith, eqb-true, eq-eqb, ne_eqb}
use mathlib.Core.List.{List, [], ◌∷◌, ◌++◌}
use Prim.Native.Nat.{ℕ, zero, suc, ◌+◌, ◌*◌, ◌≤◌, ◌<◌}
use Rattle.laws.specs.Tests.{choose}
use Rattle.laws.specs.Counts.{bit, count, tally}
use Rattle.laws.specs.Loops.{sum_from}
use Rattle.laws.specs.Update.{sum_below, sum_below-change}
use Rattle.laws.specs.Options.{some_same}
use Rattle.page.specs.Page.{Page, sequence}
use Rattle.store.specs.Pool.{Blocks, numbered, page_in, or_else, find}
use Rattle.store.specs.Reopen.{Cells, blocks_in, all_filled, greatest_of, newest}
use Rattle.store_laws.specs.PoolLaws.{page_in-none}
use Rattle.store_laws.specs.WrittenPages.{pages_in, pages_over, pages_in-blocks, pages_over-tally, pages_over-newest}
use Rattle.mount_refines.specs.Checkpoint.Header.{number_in}

-- ---- blocks are cells in rows

page_in-append : (s : ℕ) (a b : List Page) → page_in s (a ++ b) ≡ or_else (page_in s a) (page_in s b)
page_in-append s [] b = refl
page_in-append s (p ∷ a) b = go (numbered s p) refl (page_in-append s a b)
  where
    go : (t : Bool) → numbered s p ≡ t → page_in s (a ++ b) ≡ or_else (page_in s a) (page_in s b) →
        choose (numbered s p) (Some p) (page_in s (a ++ b)) ≡ or_else (choose (numbered s p) (Some p) (page_in s a)) (page_in s b)
    go true e r = rw e refl
    go false e r = rw e r

find-over : (s : ℕ) (bs : Blocks) → find s bs ≡ page_in s (pages_over bs)
find-over s [] = refl
find-over s (b ∷ bs) = ap (or_else (page_in s b)) (find-over s bs) ∙ sym (page_in-append s b (pages_over bs))

module _ (width k : ℕ) (c : Cells) (l : length c ≡ width * k) (e : all_filled width k c ≡ true) where
  pub find-pages : (s : ℕ) → find s (blocks_in width k c) ≡ page_in s (pages_in c)
  find-pages s = find-over s (blocks_in width k c) ∙ ap (page_in s) (sym (pages_in-blocks width k c l e))

  pub tally-pages : (f : Page → Bool) → tally f (blocks_in width k c) ≡ count f (pages_in c)
  tally-pages f = sym (ap (count f) (pages_in-blocks width k c l e) ∙ pages_over-tally f (blocks_in width k c))

  pub newest-pages : newest (blocks_in width k c) ≡ greatest_of (pages_in c)
  newest-pages = sym (ap greatest_of (pages_in-blocks width k c l e) ∙ pages_over-newest (blocks_in width k c))

-- ---- a page by its place and by its number

pub number_in_le : (c : Cells) (q : ℕ) → number_in (get_or c q None) ≤ greatest_of (pages_in c)
number_in_le [] q = omega arith
number_in_le (None ∷ c) zero = omega arith
number_in_le (None ∷ c) (suc q) = number_in_le c q
number_in_le (Some p ∷ c) zero = omega arith
number_in_le (Some p ∷ c) (suc q) = omega (arith, number_in_le c q)

pub greatest_of_le : (k : ℕ) (c : Cells) → ((q : ℕ) → q < length c → number_in (get_or c q None) ≤ k) → greatest_of (pages_in c) ≤ k
greatest_of_le k [] h = omega arith
greatest_of_le k (None ∷ c) h = greatest_of_le k c (λ q l. h (suc q) (omega arith))
greatest_of_le k (Some p ∷ c) h = omega (arith, h 0 (omega arith), greatest_of_le k c (λ q l. h (suc q) (omega arith)))

pub page_in-number : (s : ℕ) (ps : List Page) (p : Page) → page_in s ps ≡ Some p → sequence p ≡ s
page_in-number s [] p e = absurd (let z : ◌≡◌ {A = ℕ} 0 1 = cc in omega arith)
page_in-number s (x ∷ ps) p e = go (numbered s x) refl (λ r. page_in-number s ps p r)
  where
    go : (t : Bool) → numbered s x ≡ t → (page_in s ps ≡ Some p → sequence p ≡ s) → sequence p ≡ s
    go true f r = ap sequence (sym (some_same (rw f at e))) ∙ eqb-true (sequence x) s f
    go false f r = r (rw f at e)

-- a page that is found lies somewhere
pub record Place (c : Cells) (p : Page) : Type 0 where
  pub at : ℕ
  pub inside : at < length c
  pub is : get_or c at None ≡ Some p

place-next : (x : Option Page) (c : Cells) (p : Page) → Place c p → Place (x ∷ c) p
place-next x c p r = record { at = suc r.at; inside = omega (arith, r.inside); is = r.is }

pub page_in-place : (s : ℕ) (c : Cells) (p : Page) → page_in s (pages_in c) ≡ Some p → Place c p
page_in-place s [] p e = absurd (let z : ◌≡◌ {A = ℕ} 0 1 = cc in omega arith)
page_in-place s (None ∷ c) p e = place-next None c p (page_in-place s c p e)
page_in-place s (Some x ∷ c) p e = go (numbered s x) refl (λ r. page_in-place s c p r)
  where
    go : (t : Bool) → numbered s x ≡ t → (page_in s (pages_in c) ≡ Some p → Place c p) → Place (Some x ∷ c) p
    go true f r = record { at = 0; inside = omega arith; is = rw f at e }
    go false f r = place-next (Some x) c p (r (rw f at e))

-- a page that lies somewhere is counted, and found where its number is counted once
placed_count : (c : Cells) (q : ℕ) (p : Page) → get_or c q None ≡ Some p → 1 ≤ count (numbered (sequence p)) (pages_in c)
placed_count [] q p e = absurd (let z : ◌≡◌ {A = ℕ} 0 1 = cc in omega arith)
placed_count (None ∷ c) zero p e = absurd (let z : ◌≡◌ {A = ℕ} 0 1 = cc in omega arith)
placed_count (None ∷ c) (suc q) p e = placed_count c q p e
placed_count (Some x ∷ c) zero p e = omega (arith, ap bit (eq-eqb (sequence x) (sequence p) (ap sequence (some_same e))))
placed_count (Some x ∷ c) (suc q) p e = omega (arith, placed_count c q p e)

pub place-page_in : (c : Cells) (q : ℕ) (p : Page) → count (numbered (sequence p)) (pages_in c) ≤ 1 → get_or c q None ≡ Some p →
    page_in (sequence p) (pages_in c) ≡ Some p
place-page_in [] q p o e = absurd (let z : ◌≡◌ {A = ℕ} 0 1 = cc in omega arith)
place-page_in (None ∷ c) zero p o e = absurd (let z : ◌≡◌ {A = ℕ} 0 1 = cc in omega arith)
place-page_in (None ∷ c) (suc q) p o e = place-page_in c q p o e
place-page_in (Some x ∷ c) zero p o e = rw (eq-eqb (sequence x) (sequence p) (ap sequence (some_same e))) e
place-page_in (Some x ∷ c) (suc q) p o e = go (numbered (sequence p) x) refl (λ l. place-page_in c q p l e)
  where
    go : (t : Bool) → numbered (sequence p) x ≡ t → (count (numbered (sequence p)) (pages_in c) ≤ 1 → page_in (sequence p) (pages_in c) ≡ Some p) →
        choose (numbered (sequence p) x) (Some x) (page_in (sequence p) (pages_in c)) ≡ Some p
    go true f r = absurd (omega (arith, ap bit f, placed_count c q p e))
    go false f r = rw f (r (omega (arith, ap bit f)))

-- ---- sums by place and by number

module _ (f : Option Page → ℕ) (nothing : f None ≡ 0) where
  abbrev sum_pages : List Page → ℕ
  sum_pages [] = 0
  sum_pages (p ∷ ps) = f (Some p) + sum_pages ps

  sum_places : (c : Cells) (g : ℕ → ℕ) (i : ℕ) → ((q : ℕ) → q < length c → g (i + q) ≡ f (get_or c q None)) →
      sum_from g (length c) i ≡ sum_pages (pages_in c)
  unfolding sum_from
  sum_places [] g i h = refl
  sum_places (x ∷ c) g i h = go x (h 0 (omega arith)) (sum_places c g (i + 1) (λ q l. shift q ∙ h (suc q) (omega arith)))
    where
      shift : (q : ℕ) → g (i + 1 + q) ≡ g (i + suc q)
      shift q = ap g (omega arith)

      start : g (i + 0) ≡ g i
      start = ap g (add-zero i)

      go : (y : Option Page) → g (i + 0) ≡ f y → sum_from g (length c) (i + 1) ≡ sum_pages (pages_in c) →
          g i + sum_from g (length c) (i + 1) ≡ sum_pages (pages_in (y ∷ c))
      go None e r = omega (arith, start)
      go (Some p) e r = omega (arith, start)

  none-sum : (k : ℕ) → sum_below k (λ s. f None) ≡ 0
  none-sum zero = refl
  none-sum (suc k) = omega (arith, none-sum k)

  sum-numbers : (k : ℕ) (ps : List Page) → ((s : ℕ) → count (numbered s) ps ≤ 1) → greatest_of ps < k → sum_pages ps ≡ sum_below k (λ s. f (page_in s ps))
  sum-numbers k [] once l = sym (none-sum k)
  sum-numbers k (p ∷ ps) once l =
      let s = sequence p in
      let rest = sum-numbers k ps (λ i. omega (arith, once i)) (omega arith) in
      let alone : count (numbered s) ps ≡ 0 = omega (arith, once s, ap bit (eq-eqb s s refl)) in
      let gone : f (page_in s ps) ≡ 0 = ap f (page_in-none s ps alone) ∙ nothing in
      let here : f (page_in s (p ∷ ps)) ≡ f (Some p) = ap (λ (t : Bool). f (choose t (Some p) (page_in s ps))) (eq-eqb s s refl) in
      omega (
        arith,
        sum_below-change k (λ i. f (page_in i ps)) (λ i. f (page_in i (p ∷ ps))) s (omega arith)
            (λ i n. ap (λ (t : Bool). f (choose t (Some p) (page_in i ps))) (ne_eqb s i (λ z. n (sym z)))),
        rest,
        gone,
        here,
      )

  -- A SUM OVER PLACES IS THE SUM OVER NUMBERS.
  pub sum-by-number : (c : Cells) (g : ℕ → ℕ) → ((q : ℕ) → q < length c → g q ≡ f (get_or c q None)) → ((s : ℕ) → count (numbered s) (pages_in c) ≤ 1) →
      sum_from g (length c) 0 ≡ sum_below (suc (greatest_of (pages_in c))) (λ s. f (page_in s (pages_in c)))
  sum-by-number c g h once =
      sum_places c g 0 (λ q l. ap g (omega arith) ∙ h q l) ∙ sum-numbers (suc (greatest_of (pages_in c))) (pages_in c) once (omega arith)
