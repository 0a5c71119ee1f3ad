-- What the code adds up over places is what the checkpoint pages of the set add up to, and every page fits exactly if the node count stands on the
-- last checkpoint page alone. Assumes nothing.
use Rattle.std.specs.Prelude.{◌≡◌, refl, Bool, not, ◌&&◌, ◌⊎◌, List, [], ◌∷◌, ℕ, suc, ◌+◌, ◌*◌, ◌≤◌, ◌<◌, max, eqb, ltb, length, get_or, Option, None, Some, is_some}
use Rattle.std.proofs.Common.{sym, ap, ap₂, ◌∙◌, inl, inr, add-zero, length-append, eq-eqb, ne_eqb, lt-ltb, le-ltb}
use Rattle.std.proofs.Math.Bool.{true, false}
use native.Mathlib.Omega.{arith}
use Rattle.std.proofs.lemmas.List.{length-map}
use Rattle.std.proofs.Math.Numerals.{lt_of_le_of_ne}
use Rattle.laws.specs.Tests.{choose, test_clash}
use Rattle.laws.specs.Order.{eq_or, le_or}
use Rattle.laws.specs.Counts.{bit}
use Rattle.laws.specs.Loops.{sum_from, steps-sum}
use Rattle.laws.specs.Update.{sum_below, sum_below-ext, sum_below-at}
use Rattle.laws.specs.BigEndian.{number}
use Rattle.page.specs.Page.{Page, page, log, whole, checkpoint, sequence}
use Rattle.page.specs.Decode.{found, read_if, score_of, payloads}
use Rattle.page.specs.Runs.{length-payloads}
use Rattle.store.specs.Pool.{page_in}
use Rattle.store.specs.Checkpoint.{CheckpointPage, scores_in, count_or, count_in, has_count, no_count, count_last}
use Rattle.store.specs.Reopen.{Cells, greatest_of}
use Rattle.flash_blocks.specs.Pages.{pages_of, page_at}
use Rattle.store_laws.specs.WrittenPages.{pages_in}
use Rattle.mount_checkpoint_pages.specs.CheckpointPage.{number_of, scores_from, scores_on, count_part, checkpoint_page_of, found-count, number-count, count_fits, fits_in}
use Rattle.mount_checkpoint_pages.specs.Totals.{plus, add_page, nothing, totals_of}
use Rattle.mount_checkpoint_pages.specs.declared.totals.Totals.{Totals}
use Rattle.mount_refines.specs.Checkpoint.Header.{number_in, no_checkpoint_page, checkpoint_page_in, foreign, foreign_tag, scores_read, Header}
use Rattle.mount_refines.specs.Checkpoint.Written.{sum-by-number}
use Rattle.mount_refines.specs.Checkpoint.Collect.{
  opens,
  Reach,
  gathered,
  sum_checkpoint_pages,
  sum-gathered,
  count_bit,
  top_count,
  count_last-is,
  top-newest,
}
use Rattle.mount_refines.specs.Checkpoint.Pool.{Judged, length-cells, headers, once, own-number}

-- 1 for a page that does not fit.
abbrev misfit_on : ℕ → List ℕ → ℕ
misfit_on newest b = bit (not (fits_in newest (found (count_part b)) b))

-- What a page adds in bytes.
abbrev pub from_bytes : ℕ → (List ℕ → ℕ) → List ℕ → ℕ
from_bytes since f b = choose (ltb (number_of b) since) 0 (f b)

module _ (since newest : ℕ) (b : List ℕ) (t : Totals) where
  added : (part : Totals → ℕ) (f : List ℕ → ℕ) → part (plus (fits_in newest (is_some (checkpoint_page_of b).nodes) b) (checkpoint_page_of b) t) ≡ part t + f b →
      part (add_page since newest b t) ≡ part t + from_bytes since f b
  unfolding add_page
  added part f e = go (ltb (number_of b) since)
    where
      go : (y : Bool) → part (choose y t (plus (fits_in newest (is_some (checkpoint_page_of b).nodes) b) (checkpoint_page_of b) t)) ≡ part t + choose y 0 (f b)
      go true = omega arith
      go false = e

module _ (ps : List (List ℕ)) (n since newest : ℕ) where
  pub misfits_sum : (totals_of ps n since newest).misfits ≡ sum_from (λ q. from_bytes since (misfit_on newest) (page_at ps q)) n 0
  unfolding totals_of nothing plus checkpoint_page_of
  misfits_sum =
      steps-sum (λ (t : Totals). t.misfits) (λ q. add_page since newest (page_at ps q)) (λ q. from_bytes since (misfit_on newest) (page_at ps q))
      (λ i a. added since newest (page_at ps i) a (λ (t : Totals). t.misfits) (misfit_on newest)
      (ap (λ (y : Bool). a.misfits + bit (not (fits_in newest y (page_at ps i)))) (found-count (count_part (page_at ps i))))) n 0 nothing ∙ omega arith

  pub scores-sum : (totals_of ps n since newest).scores ≡ sum_from (λ q. from_bytes since scores_on (page_at ps q)) n 0
  unfolding totals_of nothing plus checkpoint_page_of
  scores-sum =
      steps-sum (λ (t : Totals). t.scores) (λ q. add_page since newest (page_at ps q)) (λ q. from_bytes since scores_on (page_at ps q))
      (λ i a. added since newest (page_at ps i) a (λ (t : Totals). t.scores) scores_on refl) n 0 nothing ∙ omega arith

  pub nodes-sum : (totals_of ps n since newest).nodes ≡ sum_from (λ q. from_bytes since (λ b. number (count_part b)) (page_at ps q)) n 0
  unfolding totals_of nothing plus checkpoint_page_of
  nodes-sum =
      steps-sum (λ (t : Totals). t.nodes) (λ q. add_page since newest (page_at ps q)) (λ q. from_bytes since (λ b. number (count_part b)) (page_at ps q))
      (λ i a. added since newest (page_at ps i) a (λ (t : Totals). t.nodes) (λ b. number (count_part b))
      (ap (λ (k : ℕ). a.nodes + k) (number-count (count_part (page_at ps i))))) n 0 nothing ∙ omega arith

-- ---- what a page adds is what its cell's checkpoint page has

pub scores_on-read : (b : List ℕ) → length (scores_read b) ≡ scores_on b
unfolding scores_read
scores_on-read b = length-map (payloads 0x14 9 (scores_on b) b (scores_from b)) score_of ∙ length-payloads 0x14 9 (scores_on b) b (scores_from b)

number_read : (p : List ℕ) → number p ≡ count_or (read_if number p) 0
number_read [] = refl
number_read (x ∷ p) = refl

found-read : (p : List ℕ) → found p ≡ has_count (read_if number p)
found-read [] = refl
found-read (x ∷ p) = refl

abbrev pub score_count : CheckpointPage → ℕ
score_count y = length y.scores

abbrev pub count_on : CheckpointPage → ℕ
count_on y = count_or y.count 0

-- Whether a cell fits.
abbrev fits : ℕ → Option Page → Bool
fits newest x = choose (foreign x) false (count_fits (eqb (number_in x) newest) (has_count (checkpoint_page_in x).count))

abbrev misfit : ℕ → ℕ → Option Page → ℕ
misfit since newest x = choose (ltb (number_in x) since) 0 (bit (not (fits newest x)))

fits_in-is : (newest : ℕ) (counted : Bool) (b : List ℕ) →
    fits_in newest counted b ≡ choose (foreign_tag b) false (count_fits (eqb (number_of b) newest) counted)
unfolding fits_in
fits_in-is newest counted b = go (eqb (get_or b 7 0) 0x12)
  where
    go : (t : Bool) →
        choose t false (choose (eqb (get_or b 7 0) 0x11) false (count_fits (eqb (number_of b) newest) counted)) ≡
        choose (choose t true (eqb (get_or b 7 0) 0x11)) false (count_fits (eqb (number_of b) newest) counted)
    go true = refl
    go false = refl

module _ (since : ℕ) (b : List ℕ) (x : Option Page) (h : Header b x) where
  pub adds : (f : List ℕ → ℕ) (g : CheckpointPage → ℕ) → f b ≡ g (checkpoint_page_in x) → from_bytes since f b ≡ choose (ltb (number_in x) since) 0
      (g (checkpoint_page_in x))
  adds f g e = ap₂ (λ (n m : ℕ). choose (ltb n since) 0 m) h.seq e

  adds_misfit : (newest : ℕ) → from_bytes since (misfit_on newest) b ≡ misfit since newest x
  adds_misfit newest =
      let counted : found (count_part b) ≡ has_count (checkpoint_page_in x).count = found-read (count_part b) ∙ ap has_count h.count in
      let e : fits_in newest (found (count_part b)) b ≡ fits newest x =
      fits_in-is newest (found (count_part b)) b ∙
      ap (λ (t : Bool). choose t false (count_fits (eqb (number_of b) newest) (found (count_part b)))) h.kind ∙
      ap (λ (n : ℕ). choose (foreign x) false (count_fits (eqb n newest) (found (count_part b)))) h.seq ∙
      ap (λ (t : Bool). choose (foreign x) false (count_fits (eqb (number_in x) newest) t)) counted in
      ap₂ (λ (n m : ℕ). choose (ltb n since) 0 m) h.seq (ap (λ (t : Bool). bit (not t)) e)

-- ---- so the totals are sums over numbers

greatest-found : (ps : List Page) → 0 < greatest_of ps → page_in (greatest_of ps) ps ≡ None → ⊥
greatest-found [] l e = omega arith
greatest-found (p ∷ ps) l e = go (le_or (greatest_of ps) (sequence p)) (λ k n. greatest-found ps k n)
  where
    here : (n : ℕ) → sequence p ≡ n → page_in n (p ∷ ps) ≡ Some p
    here n q = ap (λ (t : Bool). choose t (Some p) (page_in n ps)) (eq-eqb (sequence p) n q)

    there : (n : ℕ) → (sequence p ≡ n → ⊥) → page_in n (p ∷ ps) ≡ page_in n ps
    there n q = ap (λ (t : Bool). choose t (Some p) (page_in n ps)) (ne_eqb (sequence p) n q)

    some_none : Some p ≡ None → ⊥
    some_none z = let y : ◌≡◌ {A = ℕ} 0 1 = cc in omega arith

    go : (greatest_of ps ≤ sequence p) ⊎ (sequence p < greatest_of ps) → (0 < greatest_of ps → page_in (greatest_of ps) ps ≡ None → ⊥) → ⊥
    go (inl h) r = some_none (sym (here (max (sequence p) (greatest_of ps)) (omega arith)) ∙ e)
    go (inr h) r =
        let m : max (sequence p) (greatest_of ps) ≡ greatest_of ps = omega arith in
        r (omega arith) (sym (there (greatest_of ps) (λ z. omega arith)) ∙ ap (λ (n : ℕ). page_in n (p ∷ ps)) (sym m) ∙ e)

-- A blank cell is in no set.
none_out : (s n : ℕ) → choose (ltb 0 (suc s)) 0 n ≡ 0
none_out s n = ap (λ (t : Bool). choose t 0 n) (lt-ltb 0 (suc s) (omega arith))

module _ {pool : List ℕ} {blocks : ℕ} {c : Cells} (j : Judged pool blocks c) where
  abbrev at : ℕ → Option Page
  at s = page_in s (pages_in c)

  abbrev last : ℕ
  last = greatest_of (pages_in c)

  abbrev ps : List (List ℕ)
  ps = pages_of pool

  -- A sum over places of what bytes add, where that is what the cells' checkpoint pages have.
  pub by_number : (f : Option Page → ℕ) → f None ≡ 0 → (g : ℕ → ℕ) → ((q : ℕ) → q < 32 * blocks → g q ≡ f (get_or c q None)) →
      sum_from g (32 * blocks) 0 ≡ sum_below (suc last) (λ s. f (at s))
  by_number f z g h =
      ap (λ (n : ℕ). sum_from g n 0) (sym (length-cells j)) ∙
      sum-by-number f z c g (λ q l. h q (omega (arith, length-cells j))) (once j)

  -- Where every page fits, none of the set is of another kind.
  pub no_foreign : (s : ℕ) → (totals_of ps (32 * blocks) (suc s) last).misfits ≡ 0 → (i : ℕ) → suc s ≤ i → i ≤ last → foreign (at i) ≡ false
  no_foreign s z i a b = go (foreign (at i)) refl (own-number c i)
    where
      total : (totals_of ps (32 * blocks) (suc s) last).misfits ≡ sum_below (suc last) (λ i. misfit (suc s) last (at i))
      total =
          misfits_sum ps (32 * blocks) (suc s) last ∙
          by_number (misfit (suc s) last) (none_out s (bit (not (fits last None)))) _
          (λ q l. adds_misfit (suc s) (page_at ps q) (get_or c q None) (headers j q l) last)

      go : (t : Bool) → foreign (at i) ≡ t → (at i ≡ None) ⊎ (number_in (at i) ≡ i) → t ≡ false
      go false f e = refl
      go true f (inl e) = sym f ∙ ap foreign e
      go true f (inr e) =
          let m : misfit (suc s) last (at i) ≡ 1 =
          ap (λ (t : Bool). choose t 0 (bit (not (fits last (at i))))) (le-ltb (number_in (at i)) (suc s) (omega arith)) ∙
          ap (λ (t : Bool). bit (not (choose t false (count_fits (eqb (number_in (at i)) last) (has_count (checkpoint_page_in (at i)).count))))) f in
          absurd (omega (arith, m, sum_below-at (suc last) (λ i. misfit (suc s) last (at i)) i (omega arith), total))

  -- The set from suc s to the last number.
  module _ (s k : ℕ) (r : Reach at s k) (end : last ≡ suc (s + k)) where
    abbrev xs : List CheckpointPage
    xs = gathered at s k []

    pub by-checkpoint-pages : (h : CheckpointPage → ℕ) → h no_checkpoint_page ≡ 0 → (f : List ℕ → ℕ) →
        ((q : ℕ) → q < 32 * blocks → f (page_at ps q) ≡ h (checkpoint_page_in (get_or c q None))) →
        sum_from (λ q. from_bytes (suc s) f (page_at ps q)) (32 * blocks) 0 ≡ sum_checkpoint_pages h xs
    by-checkpoint-pages h z f e =
        by_number (λ x. choose (ltb (number_in x) (suc s)) 0 (h (checkpoint_page_in x))) (none_out s (h no_checkpoint_page)) (λ q. from_bytes (suc s) f (page_at ps q))
        (λ q l. adds (suc s) (page_at ps q) (get_or c q None) (headers j q l) f h (e q l)) ∙
        ap (λ (n : ℕ). sum_below (suc n) (λ i. choose (ltb (number_in (at i)) (suc s)) 0 (h (checkpoint_page_in (at i))))) end ∙
        sym (sum-gathered h z at (own-number c) s k [] ∙ add-zero _)

    kind_set : (i : ℕ) → suc s ≤ i → i ≤ last → (i ≡ suc s) ⊎ (i ≡ suc s → ⊥) → foreign (at i) ≡ false
    kind_set i a b (inl z) = rw z (opened (at (suc s)) r.first)
      where
        opened : (x : Option Page) → opens x ≡ true → foreign x ≡ false
        opened None o = refl
        opened (Some (page n (log es))) o = absurd (test_clash false o refl)
        opened (Some (page n (whole m y))) o = absurd (test_clash false o refl)
        opened (Some (page n (checkpoint t ss cc))) o = refl
    kind_set i a b (inr z) = r.kind i (lt_of_le_of_ne (omega arith) (λ e. z (sym e))) (omega arith)

    -- below the newest page a misfit has the node count; the newest is one without it
    misfit-below : (i : ℕ) → i < last → misfit (suc s) last (at i) ≡ choose (ltb (number_in (at i)) (suc s)) 0 (count_bit (checkpoint_page_in (at i)))
    misfit-below i l = go (own-number c i) (le_or (suc s) i)
      where
        hc : Bool
        hc = has_count (checkpoint_page_in (at i)).count

        twice : (t : Bool) → bit (not (not t)) ≡ bit t
        twice true = refl
        twice false = refl

        go : (at i ≡ None) ⊎ (number_in (at i) ≡ i) → (suc s ≤ i) ⊎ (i < suc s) →
            misfit (suc s) last (at i) ≡ choose (ltb (number_in (at i)) (suc s)) 0 (count_bit (checkpoint_page_in (at i)))
        go (inl e) m = rw e (none_out s _ ∙ sym (none_out s 0))
        go (inr e) (inl m) =
            ap (λ (t : Bool). choose (ltb (number_in (at i)) (suc s)) 0 (bit (not (choose t false (count_fits (eqb (number_in (at i)) last)
            (has_count (checkpoint_page_in (at i)).count))))))
            (kind_set i m (omega arith) (eq_or i (suc s))) ∙
            ap (λ (t : Bool). choose (ltb (number_in (at i)) (suc s)) 0 (bit (not (count_fits t (has_count (checkpoint_page_in (at i)).count)))))
            (ne_eqb (number_in (at i)) last (λ z. omega arith)) ∙
            ap (λ (n : ℕ). choose (ltb (number_in (at i)) (suc s)) 0 n) (twice (has_count (checkpoint_page_in (at i)).count))
        go (inr e) (inr m) = rw (lt-ltb (number_in (at i)) (suc s) (omega arith)) refl

    newest_some : at last ≡ None → ⊥
    newest_some e = greatest-found (pages_in c) (omega arith) e

    newest-number : number_in (at last) ≡ last
    newest-number = go (own-number c last)
      where
        go : (at last ≡ None) ⊎ (number_in (at last) ≡ last) → number_in (at last) ≡ last
        go (inl e) = absurd (newest_some e)
        go (inr e) = e

    misfit-newest : misfit (suc s) last (at last) ≡ bit (not (has_count (checkpoint_page_in (at last)).count))
    misfit-newest =
        ap (λ (t : Bool). choose t 0 (bit (not (fits last (at last))))) (le-ltb (number_in (at last)) (suc s) (omega (arith, newest-number))) ∙
        ap (λ (t : Bool). bit (not (choose t false (count_fits (eqb (number_in (at last)) last) (has_count (checkpoint_page_in (at last)).count)))))
        (kind_set last (omega arith) (omega arith) (eq_or last (suc s))) ∙
        ap (λ (t : Bool). bit (not (count_fits t (has_count (checkpoint_page_in (at last)).count)))) (eq-eqb (number_in (at last)) last newest-number)

    counted_newest : choose (ltb (number_in (at last)) (suc s)) 0 (count_bit (checkpoint_page_in (at last))) ≡ bit (has_count (checkpoint_page_in (at last)).count)
    counted_newest = ap (λ (t : Bool). choose t 0 (count_bit (checkpoint_page_in (at last)))) (le-ltb (number_in (at last)) (suc s) (omega (arith, newest-number)))

    module _ (t : Totals) (is : t ≡ totals_of ps (32 * blocks) (suc s) last) where
      -- AS MANY SCORES as the checkpoint pages have
      pub scores_are : t.scores ≡ length (scores_in xs)
      scores_are =
          ap (λ (y : Totals). y.scores) is ∙ scores-sum ps (32 * blocks) (suc s) last ∙
          by-checkpoint-pages score_count refl scores_on (λ q l. let h = headers j q l in sym (scores_on-read (page_at ps q)) ∙ ap length h.scores) ∙
          score_count-sum xs
        where
          score_count-sum : (ys : List CheckpointPage) → sum_checkpoint_pages score_count ys ≡ length (scores_in ys)
          score_count-sum [] = refl
          score_count-sum (y ∷ ys) = omega (arith, score_count-sum ys, length-append y.scores (scores_in ys))

      -- THE NODE COUNT, where it stands on the last checkpoint page alone
      pub nodes_are : count_last xs ≡ true → t.nodes ≡ count_in xs
      nodes_are e =
          ap (λ (y : Totals). y.nodes) is ∙ nodes-sum ps (32 * blocks) (suc s) last ∙
          by-checkpoint-pages count_on refl (λ b. number (count_part b))
          (λ q l. let h = headers j q l in number_read (count_part (page_at ps q)) ∙ ap (λ (o : Option ℕ). count_or o 0) h.count) ∙
          count_on-sum xs e
        where
          count_on-sum : (ys : List CheckpointPage) → count_last ys ≡ true → sum_checkpoint_pages count_on ys ≡ count_in ys
          count_on-sum [] f = refl
          count_on-sum (y ∷ []) f = go y.count
            where
              go : (o : Option ℕ) → count_or o 0 + 0 ≡ count_or o 0
              go None = refl
              go (Some n) = add-zero n
          count_on-sum (y ∷ z ∷ ys) f = go y.count f (λ g. count_on-sum (z ∷ ys) g)
            where
              go : (o : Option ℕ) → (no_count o && count_last (z ∷ ys)) ≡ true →
                  (count_last (z ∷ ys) ≡ true → sum_checkpoint_pages count_on (z ∷ ys) ≡ count_in (z ∷ ys)) →
                  count_or o 0 + sum_checkpoint_pages count_on (z ∷ ys) ≡ count_or o (count_in (z ∷ ys))
              go None g rest = omega (arith, rest g)
              go (Some n) g rest = absurd (test_clash false g refl)

      -- EVERY PAGE FITS exactly if the node count stands on the last checkpoint page alone
      pub fits_are : eqb t.misfits 0 ≡ count_last xs
      fits_are =
          let m : t.misfits ≡ a + bit (not hc) =
          ap (λ (y : Totals). y.misfits) is ∙ misfits_sum ps (32 * blocks) (suc s) last ∙
          by_number (misfit (suc s) last) (none_out s (bit (not (fits last None)))) _ (λ q l. adds_misfit (suc s) (page_at ps q) (get_or c q None)
          (headers j q l) last) ∙
          ap₂ ◌+◌ (sum_below-ext last (λ i. misfit (suc s) last (at i))
          (λ i. choose (ltb (number_in (at i)) (suc s)) 0 (count_bit (checkpoint_page_in (at i)))) misfit-below) misfit-newest in
          let n : sum_checkpoint_pages count_bit xs ≡ a + bit hc =
          sum-gathered count_bit refl at (own-number c) s k [] ∙ add-zero _ ∙
          ap (λ (i : ℕ). sum_below (suc i) (λ i. choose (ltb (number_in (at i)) (suc s)) 0 (count_bit (checkpoint_page_in (at i))))) (sym end) ∙
          ap (λ (i : ℕ). a + i) counted_newest in
          let top : top_count xs ≡ hc =
          top-newest at s k (rw end at (kind_set last (omega arith) (omega arith) (eq_or last (suc s)))) (λ z. newest_some (ap at end ∙ z)) ∙
          ap (λ (i : ℕ). has_count (checkpoint_page_in (at i)).count) (sym end) in
          ap (λ (i : ℕ). eqb i 0) m ∙ tests a hc ∙ sym (count_last-is xs ∙ ap₂ (λ (p : Bool) (i : ℕ). p && eqb i 1) top n)
        where
          a : ℕ
          a = sum_below last (λ i. choose (ltb (number_in (at i)) (suc s)) 0 (count_bit (checkpoint_page_in (at i))))

          hc : Bool
          hc = has_count (checkpoint_page_in (at last)).count

          tests : (n : ℕ) (p : Bool) → eqb (n + bit (not p)) 0 ≡ (p && eqb (n + bit p) 1)
          tests n true = go (eq_or n 0)
            where
              go : (n ≡ 0) ⊎ (n ≡ 0 → ⊥) → eqb (n + 0) 0 ≡ eqb (n + 1) 1
              go (inl e) = eq-eqb (n + 0) 0 (omega arith) ∙ sym (eq-eqb (n + 1) 1 (omega arith))
              go (inr e) = ne_eqb (n + 0) 0 (λ z. e (omega arith)) ∙ sym (ne_eqb (n + 1) 1 (λ z. e (omega arith)))
          tests n false = ne_eqb (n + 1) 0 (λ z. omega arith)
