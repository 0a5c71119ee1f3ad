-- The order of scores (document 02, P1: "fields 14 are written by ascending node id. Pools with any order still open"). What is written ascends;
-- in any other order a checkpoint is as complete and gives every node the same score; and ascending there is one list alone, so that no order is
-- left to choose. Assumes nothing.
use Rattle.std.specs.Prelude.{◌≡◌, refl, Bool, true, false, ◌&&◌, ◌⊎◌, List, [], ◌∷◌, ℕ, zero, suc, ◌+◌, ◌≤◌, ◌<◌, eqb, ltb, length}
use Rattle.std.proofs.Common.{sym, ap, ap₂, ◌∙◌, inl, inr, arith, eqb-true, eq-eqb, ne_eqb, lt-ltb, le-ltb}
use Rattle.std.proofs.Math.Numerals.{lt_of_le_of_ne}
use Rattle.laws.specs.Tests.{choose, and_left, and_right}
use Rattle.laws.specs.Order.{eq_or, le_or}
use Rattle.laws.specs.Counts.{bit, count, count_mono, Reordered, reordered_length}
use Rattle.laws.specs.Every.{Every, both, every_weaken}
use Rattle.page.specs.Page.{Score}
use Rattle.store.specs.Checkpoint.{CheckpointPage, scores_from, tariff_in, scores_in, count_in, score_in, count_last, score_of, once_below, complete}

-- By ascending id: each score stands before those of greater ids alone.
abbrev pub Ascending : List Score → Type 0
Ascending [] = Unit {0}
Ascending (x ∷ xs) = Every (λ (y : Score). x.id < y.id) xs × Ascending xs

-- WHAT IS WRITTEN ASCENDS ..
from_above : (low i k : ℕ) (score : ℕ → ℕ) → low < i → Every (λ (y : Score). low < y.id) (scores_from i k score)
from_above low i zero score l = Every.none
from_above low i (suc k) score l = both l (from_above low (suc i) k score (omega arith))

pub scores_from-ascends : (i k : ℕ) (score : ℕ → ℕ) → Ascending (scores_from i k score)
scores_from-ascends i zero score = tt
scores_from-ascends i (suc k) score = (from_above i (suc i) k score (omega arith), scores_from-ascends (suc i) k score)

-- .. and has one score for each id below the count, and none besides.
none_above : (i : ℕ) (xs : List Score) → Every (λ (y : Score). i < y.id) xs → count (score_of i) xs ≡ 0
none_above i [] Every.none = refl
none_above i (x ∷ xs) (both l e) = omega (arith, ap bit (ne_eqb i x.id (λ q. omega arith)), none_above i xs e)

pub scores_from-ids : (i k : ℕ) (score : ℕ → ℕ) (n : ℕ) → i ≤ n → count (score_of n) (scores_from i k score) ≡ bit (ltb n (i + k))
scores_from-ids i zero score n l = sym (ap bit (le-ltb n (i + 0) (omega arith)))
scores_from-ids i (suc k) score n l = go (eq_or n i) (λ h. scores_from-ids (suc i) k score n h)
  where
    end : suc i + k ≡ i + suc k
    end = omega arith

    go : (n ≡ i) ⊎ (n ≡ i → ⊥) → (suc i ≤ n → count (score_of n) (scores_from (suc i) k score) ≡ bit (ltb n (suc i + k))) →
        bit (eqb n i) + count (score_of n) (scores_from (suc i) k score) ≡ bit (ltb n (i + suc k))
    go (inl e) r =
        omega (
          arith,
          ap bit (eq-eqb n i e),
          none_above n (scores_from (suc i) k score) (from_above n (suc i) k score (omega arith)),
          ap bit (lt-ltb n (i + suc k) (omega arith)),
        )
    go (inr e) r = omega (arith, ap bit (ne_eqb n i e), r (omega arith), ap (λ (z : ℕ). bit (ltb n z)) end)

-- Two checkpoints that differ in the order of their scores alone, within a page and from page to page.
pub record ReorderedSet (xs ys : List CheckpointPage) : Type 0 where
  pub tariff : tariff_in xs ≡ tariff_in ys
  pub count : count_in xs ≡ count_in ys
  pub last : count_last xs ≡ count_last ys
  pub scores : Reordered (scores_in xs) (scores_in ys)

-- ONE IS COMPLETE EXACTLY IF THE OTHER IS ..
once_below_reordered : (n : ℕ) (xs ys : List Score) → Reordered xs ys → once_below n xs ≡ once_below n ys
once_below_reordered zero xs ys r = refl
once_below_reordered (suc n) xs ys r = ap₂ ◌&&◌ (ap (λ (k : ℕ). eqb k 1) (r (score_of n))) (once_below_reordered n xs ys r)

pub complete_reordered : (xs ys : List CheckpointPage) → ReorderedSet xs ys → complete xs ≡ complete ys
unfolding complete
complete_reordered xs ys a =
    rw (
      a.last,
      a.count,
      reordered_length (scores_in xs) (scores_in ys) a.scores,
      once_below_reordered (count_in ys) (scores_in xs) (scores_in ys) a.scores,
    )
    refl

-- .. AND BOTH GIVE EVERY NODE THE SAME SCORE.
abbrev score_is : ℕ → ℕ → Score → Bool
score_is n s x = eqb n x.id && eqb s x.score

-- A score that a node has once is counted where it is looked up.
count-score : (n s : ℕ) (xs : List Score) → count (score_of n) xs ≡ 1 → count (score_is n s) xs ≡ bit (eqb s (score_in xs n))
unfolding score_in
count-score n s [] e = absurd (omega arith)
count-score n s (x ∷ xs) e = go (eqb n x.id) e (count-score n s xs)
  where
    rest : count (score_is n s) xs ≤ count (score_of n) xs
    rest = count_mono (score_is n s) (score_of n) xs (λ y. and_left (eqb n y.id) (eqb s y.score))

    go : (t : Bool) → bit t + count (score_of n) xs ≡ 1 → (count (score_of n) xs ≡ 1 → count (score_is n s) xs ≡ bit (eqb s (score_in xs n))) →
        bit (t && eqb s x.score) + count (score_is n s) xs ≡ bit (eqb s (choose t x.score (score_in xs n)))
    go true f r = omega (arith, rest)
    go false f r = omega (arith, r (omega arith))

pub once_at : (n : ℕ) (xs : List Score) → once_below n xs ≡ true → (i : ℕ) → i < n → count (score_of i) xs ≡ 1
once_at zero xs e i l = absurd (omega arith)
once_at (suc n) xs e i l = go (eq_or i n) (λ h. once_at n xs (and_right (eqb (count (score_of n) xs) 1) (once_below n xs) e) i h)
  where
    go : (i ≡ n) ⊎ (i ≡ n → ⊥) → (i < n → count (score_of i) xs ≡ 1) → count (score_of i) xs ≡ 1
    go (inl q) r = rw q (eqb-true (count (score_of n) xs) 1 (and_left (eqb (count (score_of n) xs) 1) (once_below n xs) e))
    go (inr q) r = r (lt_of_le_of_ne (omega arith) q)

complete_once : (xs : List CheckpointPage) → complete xs ≡ true → (n : ℕ) → n < count_in xs → count (score_of n) (scores_in xs) ≡ 1
unfolding complete
complete_once xs e =
    once_at (count_in xs) (scores_in xs)
    (and_right (eqb (length (scores_in xs)) (count_in xs)) (once_below (count_in xs) (scores_in xs)) (and_right (count_last xs) _ e))

pub score_reordered : (xs ys : List CheckpointPage) → ReorderedSet xs ys → complete xs ≡ true → (n : ℕ) → n < count_in xs →
    score_in (scores_in xs) n ≡ score_in (scores_in ys) n
score_reordered xs ys a e n l = go (eqb s (score_in (scores_in ys) n)) refl
  where
    s : ℕ
    s = score_in (scores_in xs) n

    once : count (score_of n) (scores_in xs) ≡ 1
    once = complete_once xs e n l

    found : bit (eqb s (score_in (scores_in ys) n)) ≡ bit (eqb s s)
    found =
        sym (count-score n s (scores_in ys) (sym (a.scores (score_of n)) ∙ once)) ∙
        sym (a.scores (score_is n s)) ∙
        count-score n s (scores_in xs) once

    go : (t : Bool) → eqb s (score_in (scores_in ys) n) ≡ t → s ≡ score_in (scores_in ys) n
    go true q = eqb-true s (score_in (scores_in ys) n) q
    go false q = absurd (omega (arith, found, ap bit q, ap bit (eq-eqb s s refl)))

-- ASCENDING, THERE IS ONE LIST: it is fixed by which ids have a score, and which score each has.
pub score-none : (n : ℕ) (xs : List Score) → count (score_of n) xs ≡ 0 → score_in xs n ≡ 0
unfolding score_in
score-none n [] e = refl
score-none n (x ∷ xs) e = go (eqb n x.id) e (score-none n xs)
  where
    go : (t : Bool) → bit t + count (score_of n) xs ≡ 0 → (count (score_of n) xs ≡ 0 → score_in xs n ≡ 0) → choose t x.score (score_in xs n) ≡ 0
    go true e r = absurd (omega arith)
    go false e r = r (omega arith)

score-first : (n : ℕ) (x : Score) (xs : List Score) → n ≡ x.id → score_in (x ∷ xs) n ≡ x.score
unfolding score_in
score-first n x xs e = rw (eq-eqb n x.id e)

score-later : (n : ℕ) (x : Score) (xs : List Score) → (n ≡ x.id → ⊥) → score_in (x ∷ xs) n ≡ score_in xs n
unfolding score_in
score-later n x xs e = rw (ne_eqb n x.id e)

-- The first id of a list stands in the other too, so it is not below the first id there.
first_not_below : (x : Score) (xs : List Score) (y : Score) (ys : List Score) → Ascending (y ∷ ys) →
    count (score_of x.id) (x ∷ xs) ≡ count (score_of x.id) (y ∷ ys) → y.id ≤ x.id
first_not_below x xs y ys b e = go (le_or y.id x.id)
  where
    go : (y.id ≤ x.id) ⊎ (x.id < y.id) → y.id ≤ x.id
    go (inl l) = l
    go (inr l) =
        absurd
        (omega (
          arith,
          e,
          ap bit (eq-eqb x.id x.id refl),
          ap bit (ne_eqb x.id y.id (λ k. omega arith)),
          none_above x.id ys (every_weaken (λ z k. omega arith) b.0),
        ))

pub ascending_one : (xs ys : List Score) → Ascending xs → Ascending ys → ((n : ℕ) → count (score_of n) xs ≡ count (score_of n) ys) →
    ((n : ℕ) → score_in xs n ≡ score_in ys n) → xs ≡ ys
ascending_one [] [] a b e s = refl
ascending_one [] (y ∷ ys) a b e s = absurd (omega (arith, e y.id, ap bit (eq-eqb y.id y.id refl)))
ascending_one (x ∷ xs) [] a b e s = absurd (omega (arith, e x.id, ap bit (eq-eqb x.id x.id refl)))
ascending_one (x ∷ xs) (y ∷ ys) a b e s = ap₂ {B = List Score} ◌∷◌ same (ascending_one xs ys a.1 b.1 rest-ids rest-scores)
  where
    ids : x.id ≡ y.id
    ids = omega (arith, first_not_below x xs y ys b (e x.id), first_not_below y ys x xs a (sym (e y.id)))

    scores : x.score ≡ y.score
    scores = sym (score-first x.id x xs refl) ∙ s x.id ∙ score-first x.id y ys ids

    same : x ≡ y
    same = λ i. record { id = ids i; score = scores i }

    rest-ids : (n : ℕ) → count (score_of n) xs ≡ count (score_of n) ys
    rest-ids n = omega (arith, e n, ap (λ (z : ℕ). bit (eqb n z)) ids)

    rest-scores : (n : ℕ) → score_in xs n ≡ score_in ys n
    rest-scores n = go (eq_or n x.id)
      where
        go : (n ≡ x.id) ⊎ (n ≡ x.id → ⊥) → score_in xs n ≡ score_in ys n
        go (inl q) =
            let none : count (score_of n) xs ≡ 0 = none_above n xs (every_weaken (λ z k. omega arith) a.0) in
            score-none n xs none ∙ sym (score-none n ys (sym (rest-ids n) ∙ none))
        go (inr q) = sym (score-later n x xs q) ∙ s n ∙ score-later n y ys (λ k. q (k ∙ sym ids))
