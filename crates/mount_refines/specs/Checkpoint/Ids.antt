-- Scores by id: as many scores as ids, and each id with one at least, means each with exactly one, and none beyond. Assumes nothing.
use Rattle.std.specs.Prelude.{◌≡◌, refl, Bool, true, false, ◌⊎◌, List, [], ◌∷◌, ◌++◌, ℕ, zero, suc, ◌+◌, ◌≤◌, ◌<◌, eqb, leb, length}
use Rattle.std.proofs.Common.{sym, ap, ◌∙◌, inl, inr, arith, eq-eqb, ne_eqb, le-leb}
use Rattle.std.proofs.lemmas.Bool.{lt-leb}
use Rattle.std.proofs.Math.Numerals.{lt_of_le_of_ne}
use Rattle.laws.specs.Tests.{choose}
use Rattle.laws.specs.Order.{eq_or, le_or}
use Rattle.laws.specs.Counts.{bit, bit_le_one, count}
use Rattle.laws.specs.Update.{sum_below, sum_below-ext, sum_below-add, sum_below-zeros, sum_below_ge, sum_below_more}
use Rattle.page.specs.Page.{Score}
use Rattle.store.specs.Checkpoint.{score_in, score_of, once_below}
use Rattle.store_laws.specs.ScoreOrder.{once_at}
use Rattle.model.specs.Mount.{scores_below}
use Rattle.store_laws.specs.CheckpointPageLaws.{once_below_true}
use Rattle.demands.specs.Reordered.{at_limit, below_counts}

-- A sum over scores, and over those of one id.
abbrev pub sum_scores : (Score → ℕ) → List Score → ℕ
sum_scores g [] = 0
sum_scores g (x ∷ xs) = g x + sum_scores g xs

abbrev pub of_id : ℕ → (Score → ℕ) → Score → ℕ
of_id m g x = choose (eqb m x.id) (g x) 0

abbrev beyond : ℕ → (Score → ℕ) → Score → ℕ
beyond n g x = choose (leb n x.id) (g x) 0

pub sum_scores-append : (g : Score → ℕ) (xs ys : List Score) → sum_scores g (xs ++ ys) ≡ sum_scores g xs + sum_scores g ys
sum_scores-append g [] ys = omega arith
sum_scores-append g (x ∷ xs) ys = omega (arith, sum_scores-append g xs ys)

abbrev pub one : Score → ℕ
one x = 1

pub sum_scores-one : (xs : List Score) → sum_scores one xs ≡ length xs
sum_scores-one [] = refl
sum_scores-one (x ∷ xs) = omega (arith, sum_scores-one xs)

pub count-of_id : (m : ℕ) (xs : List Score) → count (score_of m) xs ≡ sum_scores (of_id m one) xs
count-of_id m [] = refl
count-of_id m (x ∷ xs) = go (eqb m x.id) (count-of_id m xs)
  where
    go : (t : Bool) → count (score_of m) xs ≡ sum_scores (of_id m one) xs → bit t + count (score_of m) xs ≡ choose t 1 0 + sum_scores (of_id m one) xs
    go true r = omega arith
    go false r = omega arith

-- ---- every score has one id

shares : (g : Score → ℕ) (x : Score) (n : ℕ) → sum_below n (λ m. of_id m g x) + beyond n g x ≡ g x
shares g x zero = ap (λ (t : Bool). 0 + choose t (g x) 0) (le-leb 0 x.id (omega arith)) ∙ omega arith
shares g x (suc n) = go (eq_or n x.id) (le_or n x.id) (shares g x n)
  where
    go : (n ≡ x.id) ⊎ (n ≡ x.id → ⊥) → (n ≤ x.id) ⊎ (x.id < n) → sum_below n (λ m. of_id m g x) + beyond n g x ≡ g x →
        sum_below n (λ m. of_id m g x) + of_id n g x + beyond (suc n) g x ≡ g x
    go (inl e) l r =
        omega (
          arith,
          ap (λ (t : Bool). choose t (g x) 0) (eq-eqb n x.id e),
          ap (λ (t : Bool). choose t (g x) 0) (lt-leb (suc n) x.id (omega arith)),
          ap (λ (t : Bool). choose t (g x) 0) (le-leb n x.id (omega arith)),
        )
    go (inr e) (inl l) r =
        omega (
          arith,
          ap (λ (t : Bool). choose t (g x) 0) (ne_eqb n x.id e),
          ap (λ (t : Bool). choose t (g x) 0) (le-leb (suc n) x.id (lt_of_le_of_ne l e)),
          ap (λ (t : Bool). choose t (g x) 0) (le-leb n x.id l),
        )
    go (inr e) (inr l) r =
        omega (
          arith,
          ap (λ (t : Bool). choose t (g x) 0) (ne_eqb n x.id e),
          ap (λ (t : Bool). choose t (g x) 0) (lt-leb (suc n) x.id (omega arith)),
          ap (λ (t : Bool). choose t (g x) 0) (lt-leb n x.id l),
        )

by-id : (g : Score → ℕ) (n : ℕ) (xs : List Score) → sum_below n (λ m. sum_scores (of_id m g) xs) + sum_scores (beyond n g) xs ≡ sum_scores g xs
by-id g n [] = omega (arith, sum_below-zeros n)
by-id g n (x ∷ xs) = omega (arith, sum_below-add n (λ m. of_id m g x) (λ m. sum_scores (of_id m g) xs), shares g x n, by-id g n xs)

-- ---- one each

module _ (n : ℕ) (xs : List Score) (size : length xs ≡ n) where
  shared : sum_below n (λ m. sum_scores (of_id m one) xs) + sum_scores (beyond n one) xs ≡ n
  shared = by-id one n xs ∙ sum_scores-one xs ∙ size

  -- AS MANY SCORES AS IDS, each id at least once: each exactly once
  pub once_enough : ((i : ℕ) → i < n → 1 ≤ count (score_of i) xs) → once_below n xs ≡ true
  once_enough h = once_below_true n xs each
    where
      some : (i : ℕ) → i < n → 1 ≤ sum_scores (of_id i one) xs
      some i l = omega (arith, h i l, count-of_id i xs)

      each : (i : ℕ) → i < n → count (score_of i) xs ≡ 1
      each i l = omega (arith, sum_below_more n (λ m. sum_scores (of_id m one) xs) some i l, shared, some i l, count-of_id i xs)

  module _ (o : once_below n xs ≡ true) where
    -- no id is beyond them
    none-beyond : sum_scores (beyond n one) xs ≡ 0
    none-beyond =
        omega (
          arith,
          shared,
          sum_below_ge n (λ m. sum_scores (of_id m one) xs) (λ i l. omega (arith, once_at n xs o i l, count-of_id i xs)),
        )

    none-beyond_of : (g : Score → ℕ) → ((x : Score) → g x ≤ 1) → sum_scores (beyond n g) xs ≡ 0
    none-beyond_of g small = omega (arith, less xs, none-beyond)
      where
        less : (ys : List Score) → sum_scores (beyond n g) ys ≤ sum_scores (beyond n one) ys
        less [] = omega arith
        less (y ∷ ys) = go (leb n y.id) (less ys)
          where
            go : (t : Bool) → sum_scores (beyond n g) ys ≤ sum_scores (beyond n one) ys →
                choose t (g y) 0 + sum_scores (beyond n g) ys ≤ choose t 1 0 + sum_scores (beyond n one) ys
            go true r = omega (arith, small y)
            go false r = omega arith

    pub by-id_once : (g : Score → ℕ) → ((x : Score) → g x ≤ 1) → sum_below n (λ m. sum_scores (of_id m g) xs) ≡ sum_scores g xs
    by-id_once g small = omega (arith, by-id g n xs, none-beyond_of g small)

-- ---- the score of an id that has one

sum-none : (m : ℕ) (g : Score → ℕ) (xs : List Score) → count (score_of m) xs ≡ 0 → sum_scores (of_id m g) xs ≡ 0
sum-none m g [] e = refl
sum-none m g (x ∷ xs) e = go (eqb m x.id) e (sum-none m g xs)
  where
    go : (t : Bool) → bit t + count (score_of m) xs ≡ 0 → (count (score_of m) xs ≡ 0 → sum_scores (of_id m g) xs ≡ 0) →
        choose t (g x) 0 + sum_scores (of_id m g) xs ≡ 0
    go true f r = absurd (omega arith)
    go false f r = omega (arith, r (omega arith))

pub sum_once : (m : ℕ) (g : ℕ → ℕ) (xs : List Score) → count (score_of m) xs ≡ 1 → sum_scores (of_id m (λ x. g x.score)) xs ≡ g (score_in xs m)
unfolding score_in
sum_once m g [] e = absurd (omega arith)
sum_once m g (x ∷ xs) e = go (eqb m x.id) e (sum_once m g xs)
  where
    go : (t : Bool) → bit t + count (score_of m) xs ≡ 1 → (count (score_of m) xs ≡ 1 → sum_scores (of_id m (λ x. g x.score)) xs ≡ g (score_in xs m)) →
        choose t (g x.score) 0 + sum_scores (of_id m (λ x. g x.score)) xs ≡ g (choose t x.score (score_in xs m))
    go true f r = omega (arith, sum-none m (λ x. g x.score) xs (omega arith))
    go false f r = omega (arith, r (omega arith))

-- ---- all below a limit, by scores and by ids

over : ℕ → ℕ → ℕ
over limit n = bit (leb limit n)

count-sum : (f : Score → Bool) (xs : List Score) → count f xs ≡ sum_scores (λ x. bit (f x)) xs
count-sum f [] = refl
count-sum f (x ∷ xs) = ap (λ (n : ℕ). bit (f x) + n) (count-sum f xs)

scores_below-sum : (limit : ℕ) (xs : List Score) → scores_below limit xs ≡ eqb (sum_scores (λ x. over limit x.score) xs) 0
unfolding over
scores_below-sum limit xs = below_counts limit xs ∙ ap (λ (i : ℕ). eqb i 0) (count-sum (at_limit limit) xs)

-- Each of n scores by id is below the limit exactly where all scores are.
pub scores_below-ids : (limit n : ℕ) (xs : List Score) → length xs ≡ n → once_below n xs ≡ true →
    scores_below limit xs ≡ eqb (sum_below n (λ m. bit (leb limit (score_in xs m)))) 0
unfolding over
scores_below-ids limit n xs size o =
    scores_below-sum limit xs ∙
    ap (λ (i : ℕ). eqb i 0)
    (sym (by-id_once n xs size o (λ x. over limit x.score) (λ x. bit_le_one (leb limit x.score))) ∙
    sum_below-ext n (λ m. sum_scores (of_id m (λ x. over limit x.score)) xs) (λ m. bit (leb limit (score_in xs m)))
    (λ m l. sum_once m (over limit) xs (once_at n xs o m l)))
