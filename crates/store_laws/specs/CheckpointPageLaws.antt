-- The checkpoint pages of a checkpoint: at most twelve, and tariff, scores and count are read back from them. Parts of a list in a row are the
-- list. Assumes nothing.
use Rattle.std.specs.Prelude.{◌≡◌, refl, true, ◌&&◌, ◌⊎◌, List, [], ◌∷◌, ◌++◌, ℕ, zero, suc, ◌+◌, ◌*◌, ◌≤◌, ◌<◌, eqb, length, take, drop, Option, None, Some}
use Rattle.std.proofs.Common.{sym, ap, ◌∙◌, inl, inr, arith, eq-eqb, ne_eqb, lt-ltb, length-drop, take-append-drop, drop_of_length-le}
use Rattle.laws.specs.Tests.{choose, and_both}
use Rattle.laws.specs.Order.{eq_or, le_or}
use Rattle.laws.specs.Counts.{bit, count}
use Rattle.layout.specs.Layout.{first_scores, other_scores, most_blocks, node_limit}
use Rattle.account.specs.declared.Tariff.{Tariff}
use Rattle.page.specs.Page.{Score}
use Rattle.store.specs.Checkpoint.{checkpoint_page, scores_from, parts, count_if_last, later_checkpoint_pages, later_parts, checkpoint_pages, tariff_in}
use Rattle.store.specs.Checkpoint.{scores_in, count_in, score_in, count_last, score_of, once_below, complete}
use Rattle.store_laws.specs.ScoreOrder.{scores_from-ids}
use Rattle.store_laws.specs.Placing.{most_checkpoint_pages}

pub length-later_checkpoint_pages : (n : ℕ) (xs : List (List Score)) → length (later_checkpoint_pages n xs) ≡ length xs
length-later_checkpoint_pages n [] = refl
length-later_checkpoint_pages n (x ∷ xs) = ap suc (length-later_checkpoint_pages n xs)

pub parts-nil : (most width : ℕ) → parts most width [] ≡ []
parts-nil zero width = refl
parts-nil (suc most) width = refl

-- so many parts that all but the last are full
parts_few : (most width : ℕ) (xs : List Score) → 0 < width → length (parts most width xs) * width < length xs + width
parts_few zero width xs p = omega arith
parts_few (suc most) width [] p = omega arith
parts_few (suc most) width (x ∷ xs) p = go (le_or (length (x ∷ xs)) width) (parts_few most width (drop width (x ∷ xs)) p)
  where
    rest : List (List Score)
    rest = parts most width (drop width (x ∷ xs))

    go : (length (x ∷ xs) ≤ width) ⊎ (width < length (x ∷ xs)) → length rest * width < length (drop width (x ∷ xs)) + width →
        suc (length rest) * width < suc (length xs) + width
    go (inl l) r =
        let none_left : rest ≡ [] = ap (parts most width) (drop_of_length-le (x ∷ xs) l) ∙ parts-nil most width in
        rw none_left (omega arith)
    go (inr l) r = omega (arith, length-drop width (x ∷ xs))

-- AT MOST TWELVE SHEETS for the nodes of 64 blocks
pub checkpoint-pages_few : (t : Tariff) (scores : List Score) → length scores ≤ node_limit most_blocks → length (checkpoint_pages t scores) ≤ most_checkpoint_pages
unfolding checkpoint_pages
checkpoint-pages_few t scores l =
    omega (
      arith,
      length-later_checkpoint_pages (length scores) (later_parts scores),
      parts_few (length scores) other_scores (drop first_scores scores) (omega arith),
      length-drop first_scores scores,
    )

-- The parts in a row are the list.
scores_in-parts : (most n width : ℕ) (xs : List Score) → 0 < width → length xs ≤ most → scores_in (later_checkpoint_pages n (parts most width xs)) ≡ xs
scores_in-parts zero n width [] p l = refl
scores_in-parts zero n width (x ∷ xs) p l = absurd (omega arith)
scores_in-parts (suc most) n width [] p l = refl
scores_in-parts (suc most) n width (x ∷ xs) p l =
    ap (λ z. take width (x ∷ xs) ++ z) (scores_in-parts most n width (drop width (x ∷ xs)) p (omega (arith, length-drop width (x ∷ xs)))) ∙
    take-append-drop width (x ∷ xs)

pub scores_in-checkpoint-pages : (t : Tariff) (scores : List Score) → scores_in (checkpoint_pages t scores) ≡ scores
unfolding checkpoint_pages
scores_in-checkpoint-pages t scores =
    ap (λ z. take first_scores scores ++ z)
    (scores_in-parts (length scores) (length scores) other_scores (drop first_scores scores) (omega arith) (omega (arith, length-drop first_scores scores))) ∙
    take-append-drop first_scores scores

count_in-later : (n : ℕ) (x : List Score) (xs : List (List Score)) → count_in (later_checkpoint_pages n (x ∷ xs)) ≡ n
count_in-later n x [] = refl
count_in-later n x (y ∷ xs) = count_in-later n y xs

count_in-first : (t : Tariff) (n : ℕ) (c : List Score) (xs : List (List Score)) →
    count_in (checkpoint_page (Some t) c (count_if_last n xs) ∷ later_checkpoint_pages n xs) ≡ n
count_in-first t n c [] = refl
count_in-first t n c (x ∷ xs) = count_in-later n x xs

pub count_in-checkpoint-pages : (t : Tariff) (scores : List Score) → count_in (checkpoint_pages t scores) ≡ length scores
unfolding checkpoint_pages
count_in-checkpoint-pages t scores = count_in-first t (length scores) (take first_scores scores) (later_parts scores)

pub tariff_in-checkpoint-pages : (t : Tariff) (scores : List Score) → tariff_in (checkpoint_pages t scores) ≡ Some t
unfolding checkpoint_pages
tariff_in-checkpoint-pages t scores = refl

-- One score for each id, by ascending id.
pub length-scores_from : (i k : ℕ) (f : ℕ → ℕ) → length (scores_from i k f) ≡ k
length-scores_from i zero f = refl
length-scores_from i (suc k) f = ap suc (length-scores_from (suc i) k f)

pub score_in-scores_from : (i k : ℕ) (f : ℕ → ℕ) (n : ℕ) → i ≤ n → n < i + k → score_in (scores_from i k f) n ≡ f n
unfolding score_in
score_in-scores_from i zero f n a b = absurd (omega arith)
score_in-scores_from i (suc k) f n a b = go (eq_or n i) (λ h. score_in-scores_from (suc i) k f n h (omega arith))
  where
    go : (n ≡ i) ⊎ (n ≡ i → ⊥) → (suc i ≤ n → score_in (scores_from (suc i) k f) n ≡ f n) →
        choose (eqb n i) (f i) (score_in (scores_from (suc i) k f) n) ≡ f n
    go (inl e) r = rw (eq-eqb n i e) (ap f (sym e))
    go (inr e) r = rw (ne_eqb n i e) (r (omega arith))

pub once_below_true : (n : ℕ) (scores : List Score) → ((i : ℕ) → i < n → count (score_of i) scores ≡ 1) → once_below n scores ≡ true
once_below_true zero scores h = refl
once_below_true (suc n) scores h =
    and_both (eqb (count (score_of n) scores) 1) (once_below n scores) (eq-eqb _ 1 (h n (omega arith))) (once_below_true n scores (λ i l. h i (omega arith)))

count_last-checkpoint-pages : (o : Option Tariff) (n : ℕ) (c : List Score) (xs : List (List Score)) → count_last
    (checkpoint_page o c (count_if_last n xs) ∷ later_checkpoint_pages n xs) ≡ true
count_last-checkpoint-pages o n c [] = refl
count_last-checkpoint-pages o n c (x ∷ xs) = count_last-checkpoint-pages None n x xs

-- THE SET IS COMPLETE
pub checkpoint-pages-complete : (t : Tariff) (n : ℕ) (f : ℕ → ℕ) → complete (checkpoint_pages t (scores_from 0 n f)) ≡ true
unfolding complete checkpoint_pages
checkpoint-pages-complete t n f =
    let scores = scores_from 0 n f in
    let xs = checkpoint_pages t scores in
    let c : count_in xs ≡ n = count_in-checkpoint-pages t scores ∙ length-scores_from 0 n f in
    and_both (count_last xs) (eqb (length (scores_in xs)) (count_in xs) && once_below (count_in xs) (scores_in xs))
    (count_last-checkpoint-pages (Some t) (length scores) (take first_scores scores) (later_parts scores))
    (and_both (eqb (length (scores_in xs)) (count_in xs)) (once_below (count_in xs) (scores_in xs))
    (eq-eqb _ _ (ap length (scores_in-checkpoint-pages t scores) ∙ length-scores_from 0 n f ∙ sym c))
    (rw (c, scores_in-checkpoint-pages t scores)
    (once_below_true n scores (λ i l. scores_from-ids 0 n f i (omega arith) ∙ ap bit (lt-ltb i (0 + n) (omega arith))))))
