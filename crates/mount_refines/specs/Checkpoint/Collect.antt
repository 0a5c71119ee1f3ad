-- The checkpoint as the store collects it, page by page down from the newest, is the pages numbered at or above its first: what is
-- collected adds up to the sum over those numbers. Assumes nothing.
use Rattle.std.specs.Prelude.{◌≡◌, Bool, true, false, ◌&&◌, ◌⊎◌, eqb, ltb, Option, None, Some}
use Rattle.std.proofs.Math.Path.{refl, sym, ap}
use Rattle.std.proofs.Common.{◌∙◌, true≢false, add-suc, lt-ltb, le-ltb, ne_eqb}
use Rattle.std.proofs.Math.Logic.{inl, inr}
use mathlib.Core.List.{List, [], ◌∷◌}
use Prim.Native.Nat.{ℕ, zero, suc, ◌+◌, ◌≤◌, ◌<◌}
use Rattle.std.proofs.Math.Nat.{add-zero}
use native.Mathlib.Omega.{arith}
use Rattle.std.proofs.Math.Numerals.{lt_of_le_of_ne}
use Rattle.laws.specs.Tests.{choose}
use Rattle.laws.specs.Order.{eq_or}
use Rattle.laws.specs.Counts.{bit}
use Rattle.laws.specs.Update.{sum_below}
use Rattle.page.specs.Page.{Page, page, log, whole, checkpoint}
use Rattle.page.specs.Limits.{given}
use Rattle.store.specs.Checkpoint.{CheckpointPage, checkpoint_page, collect_at, collect, tariff_in, has_count, no_count, count_last}
use Rattle.mount_refines.specs.Checkpoint.Header.{number_in, no_checkpoint_page, checkpoint_page_in, foreign}

-- Whether a page opens a checkpoint: it has the tariff.
abbrev pub opens : Option Page → Bool
opens x = given (checkpoint_page_in x).tariff

-- A checkpoint page in front of others, where the cell is one.
abbrev cons_checkpoint_page : Option Page → List CheckpointPage → List CheckpointPage
cons_checkpoint_page None later = later
cons_checkpoint_page (Some (page s (log es))) later = later
cons_checkpoint_page (Some (page s (whole n x))) later = later
cons_checkpoint_page (Some (page s (checkpoint t ss c))) later = checkpoint_page t ss c ∷ later

-- one page taken: the first of the set, or one within it
collect-first : (x : Option Page) (later : List CheckpointPage) (rest : List CheckpointPage → List CheckpointPage) → opens x ≡ true → collect_at x
    later rest ≡ cons_checkpoint_page x later
collect-first None later rest e = absurd (true≢false (sym e))
collect-first (Some (page s (log es))) later rest e = absurd (true≢false (sym e))
collect-first (Some (page s (whole n x))) later rest e = absurd (true≢false (sym e))
collect-first (Some (page s (checkpoint None ss c))) later rest e = absurd (true≢false (sym e))
collect-first (Some (page s (checkpoint (Some t) ss c))) later rest e = refl

collect_plain : (x : Option Page) (later : List CheckpointPage) (rest : List CheckpointPage → List CheckpointPage) → foreign x ≡ false → opens x ≡ false →
    collect_at x later rest ≡ rest (cons_checkpoint_page x later)
collect_plain None later rest f e = refl
collect_plain (Some (page s (log es))) later rest f e = absurd (true≢false f)
collect_plain (Some (page s (whole n x))) later rest f e = absurd (true≢false f)
collect_plain (Some (page s (checkpoint None ss c))) later rest f e = refl
collect_plain (Some (page s (checkpoint (Some t) ss c))) later rest f e = absurd (true≢false e)

tariff-cons : (x : Option Page) (later : List CheckpointPage) → opens x ≡ true → tariff_in (cons_checkpoint_page x later) ≡ (checkpoint_page_in x).tariff
tariff-cons None later o = absurd (true≢false (sym o))
tariff-cons (Some (page s (log es))) later o = absurd (true≢false (sym o))
tariff-cons (Some (page s (whole n x))) later o = absurd (true≢false (sym o))
tariff-cons (Some (page s (checkpoint t ss c))) later o = refl

module _ (at : ℕ → Option Page) where
  -- The set reaches from number suc s, the newest that opens one, to suc (s + k): between them no page is of another kind.
  pub record Reach (s k : ℕ) : Type 0 where
    pub first : opens (at (suc s)) ≡ true
    pub kind : (j : ℕ) → suc s < j → j ≤ suc (s + k) → foreign (at j) ≡ false
    pub later : (j : ℕ) → suc s < j → j ≤ suc (s + k) → opens (at j) ≡ false

  -- Its checkpoint pages, before others.
  unfoldable pub gathered : ℕ → ℕ → List CheckpointPage → List CheckpointPage
  gathered s zero later = cons_checkpoint_page (at (suc s)) later
  gathered s (suc k) later = gathered s k (cons_checkpoint_page (at (suc (s + suc k))) later)

  reach_less : (s k : ℕ) → Reach s (suc k) → Reach s k
  reach_less s k r =
      record {
        first = r.first;
        kind = λ j a b. r.kind j a (omega (arith, add-suc s k));
        later = λ j a b. r.later j a (omega (arith, add-suc s k));
      }

  pub collect-gathered : (s k : ℕ) (later : List CheckpointPage) → Reach s k → collect at (suc (s + k)) later ≡ gathered s k later
  unfolding collect gathered
  collect-gathered s zero later r =
      ap (λ (n : ℕ). collect at (suc n) later) (add-zero s) ∙ collect-first (at (suc s)) later (collect at s) r.first
  collect-gathered s (suc k) later r =
      collect_plain (at (suc (s + suc k))) later (collect at (s + suc k))
      (r.kind (suc (s + suc k)) (omega arith) (omega arith)) (r.later (suc (s + suc k)) (omega arith) (omega arith)) ∙
      ap (λ (n : ℕ). collect at n (cons_checkpoint_page (at (suc (s + suc k))) later)) (add-suc s k) ∙
      collect-gathered s k (cons_checkpoint_page (at (suc (s + suc k))) later) (reach_less s k r)

  -- Its first checkpoint page has the tariff.
  pub tariff-gathered : (s k : ℕ) (later : List CheckpointPage) → opens (at (suc s)) ≡ true →
      tariff_in (gathered s k later) ≡ (checkpoint_page_in (at (suc s))).tariff
  unfolding gathered
  tariff-gathered s zero later o = tariff-cons (at (suc s)) later o
  tariff-gathered s (suc k) later o = tariff-gathered s k (cons_checkpoint_page (at (suc (s + suc k))) later) o

  -- Nothing is collected, or the set reaches so far.
  pub record Reached (n : ℕ) : Type 0 where
    pub below : ℕ
    pub length : ℕ
    pub end : n ≡ suc (below + length)
    pub reach : Reach below length

  reach_here : (s : ℕ) → opens (at (suc s)) ≡ true → Reached (suc s)
  reach_here s e =
      record {
        below = s;
        length = 0;
        end = ap suc (sym (add-zero s));
        reach = record { first = e; kind = λ j a b. absurd (omega arith); later = λ j a b. absurd (omega arith) };
      }

  reach-next : (s : ℕ) → foreign (at (suc s)) ≡ false → opens (at (suc s)) ≡ false → Reached s → Reached (suc s)
  reach-next s f e r =
      let b = r.below in
      let k = r.length in
      let q : suc s ≡ suc (b + suc k) = omega (arith, r.end, add-suc b k) in
      record {
        below = b;
        length = suc k;
        end = q;
        reach =
            record {
              first = r.reach.first;
              kind = λ j a c. either (λ (x : Option Page). foreign x) f r.reach.kind j a (omega arith) (eq_or j (suc s));
              later = λ j a c. either (λ (x : Option Page). opens x) e r.reach.later j a (omega arith) (eq_or j (suc s));
            };
      }
    where
      either : (t : Option Page → Bool) → t (at (suc s)) ≡ false →
          ((j : ℕ) → suc r.below < j → j ≤ suc (r.below + r.length) → t (at j) ≡ false) →
          (j : ℕ) → suc r.below < j → j ≤ suc s → (j ≡ suc s) ⊎ (j ≡ suc s → ⊥) → t (at j) ≡ false
      either t g h j a c (inl z) = rw z g
      either t g h j a c (inr z) = h j a (omega (arith, lt_of_le_of_ne c z, r.end))

  pub collected : (n : ℕ) (later : List CheckpointPage) → (collect at n later ≡ []) ⊎ Reached n
  unfolding collect
  collected zero later = inl refl
  collected (suc s) later = go (at (suc s)) refl (λ l. collected s l)
    where
      go : (x : Option Page) → at (suc s) ≡ x → ((l : List CheckpointPage) → (collect at s l ≡ []) ⊎ Reached s) →
          (collect_at x later (collect at s) ≡ []) ⊎ Reached (suc s)
      go None e r = step (r later)
        where
          step : (collect at s later ≡ []) ⊎ Reached s → (collect at s later ≡ []) ⊎ Reached (suc s)
          step (inl z) = inl z
          step (inr z) = inr (reach-next s (ap foreign e) (ap opens e) z)
      go (Some (page n (log es))) e r = inl refl
      go (Some (page n (whole m x))) e r = inl refl
      go (Some (page n (checkpoint None ss c))) e r = step (r (checkpoint_page None ss c ∷ later))
        where
          step : (collect at s (checkpoint_page None ss c ∷ later) ≡ []) ⊎ Reached s → (collect at s (checkpoint_page None ss c ∷ later) ≡ []) ⊎ Reached (suc s)
          step (inl z) = inl z
          step (inr z) = inr (reach-next s (ap foreign e) (ap opens e) z)
      go (Some (page n (checkpoint (Some t) ss c))) e r = inr (reach_here s (ap opens e))

-- ---- sums over checkpoint pages

abbrev pub sum_checkpoint_pages : (CheckpointPage → ℕ) → List CheckpointPage → ℕ
sum_checkpoint_pages h [] = 0
sum_checkpoint_pages h (x ∷ xs) = h x + sum_checkpoint_pages h xs

module _ (h : CheckpointPage → ℕ) (nothing : h no_checkpoint_page ≡ 0) where
  sum-cons : (x : Option Page) (later : List CheckpointPage) →
      sum_checkpoint_pages h (cons_checkpoint_page x later) ≡ h (checkpoint_page_in x) + sum_checkpoint_pages h later
  sum-cons None later = omega (arith, nothing)
  sum-cons (Some (page s (log es))) later = omega (arith, nothing)
  sum-cons (Some (page s (whole n x))) later = omega (arith, nothing)
  sum-cons (Some (page s (checkpoint t ss c))) later = refl

  -- What a cell adds to a set that begins with a number.
  abbrev pub in_set : ℕ → Option Page → ℕ
  in_set since x = choose (ltb (number_in x) since) 0 (h (checkpoint_page_in x))

  module _ (at : ℕ → Option Page) (own : (s : ℕ) → (at s ≡ None) ⊎ (number_in (at s) ≡ s)) where
    before : (since s : ℕ) → s < since → in_set since (at s) ≡ 0
    before since s l = go (own s)
      where
        go : (at s ≡ None) ⊎ (number_in (at s) ≡ s) → in_set since (at s) ≡ 0
        go (inl e) = ap (in_set since) e ∙ ap (λ (t : Bool). choose t 0 (h no_checkpoint_page)) (lt-ltb 0 since (omega arith))
        go (inr e) = ap (λ (t : Bool). choose t 0 (h (checkpoint_page_in (at s)))) (lt-ltb (number_in (at s)) since (omega arith))

    pub within : (since s : ℕ) → 1 ≤ since → since ≤ s → in_set since (at s) ≡ h (checkpoint_page_in (at s))
    within since s o l = go (own s)
      where
        go : (at s ≡ None) ⊎ (number_in (at s) ≡ s) → in_set since (at s) ≡ h (checkpoint_page_in (at s))
        go (inl e) =
            ap (in_set since) e ∙
            ap (λ (t : Bool). choose t 0 (h no_checkpoint_page)) (lt-ltb 0 since (omega arith)) ∙
            sym (ap (λ (x : Option Page). h (checkpoint_page_in x)) e ∙ nothing)
        go (inr e) = ap (λ (t : Bool). choose t 0 (h (checkpoint_page_in (at s)))) (le-ltb (number_in (at s)) since (omega arith))

    none_before : (since k : ℕ) → k ≤ since → sum_below k (λ s. in_set since (at s)) ≡ 0
    none_before since zero l = refl
    none_before since (suc k) l = omega (arith, none_before since k (omega arith), before since k (omega arith))

    -- THE SHEETS ADD UP to the sum over the numbers from the first on.
    pub sum-gathered : (s k : ℕ) (later : List CheckpointPage) →
        sum_checkpoint_pages h (gathered at s k later) ≡ sum_below (suc (suc (s + k))) (λ j. in_set (suc s) (at j)) + sum_checkpoint_pages h later
    unfolding gathered
    sum-gathered s zero later =
        let e : sum_below (suc (suc (s + 0))) (λ j. in_set (suc s) (at j)) ≡ sum_below (suc (suc s)) (λ j. in_set (suc s) (at j)) =
        ap (λ (n : ℕ). sum_below (suc (suc n)) (λ j. in_set (suc s) (at j))) (add-zero s) in
        omega (arith, e, none_before (suc s) (suc s) (omega arith), within (suc s) (suc s) (omega arith) (omega arith), sum-cons (at (suc s)) later)
    sum-gathered s (suc k) later =
        let n = suc (s + suc k) in
        let e : sum_below n (λ j. in_set (suc s) (at j)) ≡ sum_below (suc (suc (s + k))) (λ j. in_set (suc s) (at j)) =
        ap (λ (m : ℕ). sum_below (suc m) (λ j. in_set (suc s) (at j))) (add-suc s k) in
        omega (
          arith,
          e,
          sum-gathered s k (cons_checkpoint_page (at n) later),
          sum-cons (at n) later,
          within (suc s) n (omega arith) (omega arith),
        )

-- ---- the node count stands on the last checkpoint page alone

abbrev pub count_bit : CheckpointPage → ℕ
count_bit x = bit (has_count x.count)

-- Whether the last checkpoint page has it.
abbrev pub top_count : List CheckpointPage → Bool
top_count [] = false
top_count (x ∷ []) = has_count x.count
top_count (x ∷ y ∷ xs) = top_count (y ∷ xs)

top_counted : (xs : List CheckpointPage) → bit (top_count xs) ≤ sum_checkpoint_pages count_bit xs
top_counted [] = omega arith
top_counted (x ∷ []) = omega arith
top_counted (x ∷ y ∷ xs) = omega (arith, top_counted (y ∷ xs))

pub count_last-is : (xs : List CheckpointPage) → count_last xs ≡ (top_count xs && eqb (sum_checkpoint_pages count_bit xs) 1)
count_last-is [] = refl
count_last-is (x ∷ []) = go (has_count x.count)
  where
    go : (t : Bool) → t ≡ (t && eqb (bit t + 0) 1)
    go true = refl
    go false = refl
count_last-is (x ∷ y ∷ xs) = go x.count (top_count (y ∷ xs)) refl (count_last-is (y ∷ xs))
  where
    n : ℕ
    n = sum_checkpoint_pages count_bit (y ∷ xs)

    zero_more : n ≡ 0 + n
    zero_more = omega arith

    go : (c : Option ℕ) (t : Bool) → top_count (y ∷ xs) ≡ t → count_last (y ∷ xs) ≡ (top_count (y ∷ xs) && eqb n 1) →
        (no_count c && count_last (y ∷ xs)) ≡ (top_count (y ∷ xs) && eqb (bit (has_count c) + n) 1)
    go None t e r = r ∙ ap (λ (m : ℕ). top_count (y ∷ xs) && eqb m 1) zero_more
    go (Some m) true e r = rw (e, ne_eqb (1 + n) 1 (λ z. omega (arith, top_counted (y ∷ xs), ap bit e))) refl
    go (Some m) false e r = rw e refl

-- the last checkpoint page gathered is the newest page's
top-cons : (c : Option Page) (x : CheckpointPage) (xs : List CheckpointPage) → top_count (cons_checkpoint_page c (x ∷ xs)) ≡ top_count (x ∷ xs)
top-cons None x xs = refl
top-cons (Some (page s (log es))) x xs = refl
top-cons (Some (page s (whole n y))) x xs = refl
top-cons (Some (page s (checkpoint t ss c))) x xs = refl

module _ (at : ℕ → Option Page) (s : ℕ) where
  top-gathered : (k : ℕ) (x : CheckpointPage) (xs : List CheckpointPage) → top_count (gathered at s k (x ∷ xs)) ≡ top_count (x ∷ xs)
  unfolding gathered
  top-gathered zero x xs = top-cons (at (suc s)) x xs
  top-gathered (suc k) x xs = go (at (suc (s + suc k))) (λ y ys. top-gathered k y ys)
    where
      go : (c : Option Page) → ((y : CheckpointPage) (ys : List CheckpointPage) → top_count (gathered at s k (y ∷ ys)) ≡ top_count (y ∷ ys)) →
          top_count (gathered at s k (cons_checkpoint_page c (x ∷ xs))) ≡ top_count (x ∷ xs)
      go None r = r x xs
      go (Some (page n (log es))) r = r x xs
      go (Some (page n (whole m y))) r = r x xs
      go (Some (page n (checkpoint t ss c))) r = r (checkpoint_page t ss c) (x ∷ xs)

  checkpoint_page_alone : (x : Option Page) → foreign x ≡ false → (x ≡ None → ⊥) → cons_checkpoint_page x [] ≡ checkpoint_page_in x ∷ []
  checkpoint_page_alone None f h = absurd (h refl)
  checkpoint_page_alone (Some (page n (log es))) f h = absurd (true≢false f)
  checkpoint_page_alone (Some (page n (whole m y))) f h = absurd (true≢false f)
  checkpoint_page_alone (Some (page n (checkpoint t ss c))) f h = refl

  pub top-newest : (k : ℕ) → foreign (at (suc (s + k))) ≡ false → (at (suc (s + k)) ≡ None → ⊥) →
      top_count (gathered at s k []) ≡ has_count (checkpoint_page_in (at (suc (s + k)))).count
  unfolding gathered
  top-newest zero f h =
      let e : s + 0 ≡ s = add-zero s in
      ap top_count (checkpoint_page_alone (at (suc s)) (rw e at f) (λ z. h (rw e z))) ∙ sym (ap (λ (n : ℕ). has_count (checkpoint_page_in (at (suc n))).count) e)
  top-newest (suc k) f h =
      ap (λ (l : List CheckpointPage). top_count (gathered at s k l)) (checkpoint_page_alone (at (suc (s + suc k))) f h) ∙
      top-gathered k (checkpoint_page_in (at (suc (s + suc k)))) []
