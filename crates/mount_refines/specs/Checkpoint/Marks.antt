-- The marks of a window say of each of its ids whether the checkpoint has a score of it; so all ids are covered exactly if each has one.
-- Assumes nothing.
use Rattle.std.specs.Prelude.{◌≡◌, Bool, not, ◌&&◌, ◌⊎◌, eqb, ltb, get_or, set, replicate}
use Rattle.std.proofs.Math.Path.{refl, ap, ap₂}
use Rattle.std.proofs.Common.{sym, ◌∙◌, inl, inr, add-zero, zero-add, arith, length-set, get_or-set_same, get_or-set_other}
use Rattle.std.proofs.Math.Bool.{true, false}
use mathlib.Core.List.{List, [], ◌∷◌, map}
use Prim.Native.Nat.{ℕ, zero, suc, ◌+◌, ◌-◌, ◌*◌, ◌≤◌, ◌<◌}
use Rattle.std.proofs.Math.ListN.{length}
use Rattle.std.proofs.lemmas.List.{length-replicate, get_or-replicate}
use borrow.Author.Tests.{eq-eqb, ne_eqb, lt-ltb, le-ltb, ltb-true, le-leb, lt-leb}
use Rattle.laws.specs.Tests.{choose, and_left, and_right, and_both}
use Rattle.laws.specs.Order.{eq_or, le_or}
use Rattle.laws.specs.Counts.{bit, count, count-append}
use Rattle.laws.specs.Loops.{steps, sum_from, all-at, all_true}
use Rattle.wire.specs.Field.{payload_at}
use Rattle.page.specs.Page.{Score}
use Rattle.page.specs.Decode as Decode
use Rattle.page.specs.Decode.{payloads}
use Rattle.page_read.specs.Value.{score_value}
use Rattle.store.specs.Pool.{page_in}
use Rattle.store.specs.Checkpoint.{CheckpointPage, scores_in, score_of, once_below}
use Rattle.store_laws.specs.ScoreOrder.{once_at}
use Rattle.store.specs.Reopen.{Cells, greatest_of}
use Rattle.flash_blocks.specs.Pages.{pages_of, page_at}
use Rattle.store_laws.specs.WrittenPages.{pages_in}
use Rattle.mount_checkpoint_pages.specs.CheckpointPage.{number_of, scores_from, scores_on}
use Rattle.mount_checkpoint.specs.Marks.{score_at, marked, mark_scores, mark_page, mark_pages, marks_of, is_marked, window_of, covers_of}
use Rattle.mount_refines.specs.Checkpoint.Header.{scores_read}
use Rattle.mount_refines.specs.Checkpoint.Collect.{Reach, gathered, sum_checkpoint_pages}
use Rattle.mount_refines.specs.Checkpoint.Pool.{Judged, headers}
use Rattle.mount_refines.specs.Checkpoint.Totals.{from_bytes, by-checkpoint-pages}
use Rattle.mount_refines.specs.Checkpoint.Ids.{sum_scores, once_enough}

-- ---- the scores of a page, one by one and as a list

abbrev pub score_on : List ℕ → ℕ → Score
score_on b i = record { id = (score_at b i).id; score = (score_at b i).score }

module _ (g : Score → ℕ) (b : List ℕ) where
  read-sum : (n i at : ℕ) → at ≡ scores_from b + 9 * i → sum_from (λ k. g (score_on b k)) n i ≡ sum_scores g (map Decode.score_of (payloads 0x14 9 n b at))
  unfolding sum_from payloads score_at score_value Decode.score_of
  read-sum zero i at e = refl
  read-sum (suc n) i at e =
      ap₂ ◌+◌ (ap (λ (k : ℕ). g (Decode.score_of (payload_at b k 0x14))) (sym e)) (read-sum n (i + 1) (at + 9) (omega arith))

  pub scores-read : sum_from (λ k. g (score_on b k)) (scores_on b) 0 ≡ sum_scores g (scores_read b)
  unfolding scores_read
  scores-read = read-sum (scores_on b) 0 (scores_from b) (omega arith)

-- ---- one mark

-- After so many scores of the id at place i, it is marked exactly if there was one.
record Marks (width i n : ℕ) (marks : List ℕ) : Type 0 where
  size : length marks ≡ width
  is : is_marked marks i ≡ ltb 0 n

more : (n : ℕ) → ltb 0 (n + 1) ≡ true
more n = lt-ltb 0 (n + 1) (omega arith)

module _ (width i start id n : ℕ) (marks : List ℕ) (l : i < width) (m : Marks width i n marks) where
  other : (start + i ≡ id → ⊥) → ltb 0 n ≡ ltb 0 (n + bit (eqb (start + i) id))
  other h = ap (ltb 0) (sym (add-zero n) ∙ ap (λ (t : Bool). n + bit t) (sym (ne_eqb (start + i) id h)))

  kept : (start + i ≡ id → ⊥) → Marks width i (n + bit (eqb (start + i) id)) marks
  kept h = record { size = m.size; is = m.is ∙ other h }

  placed : (i ≡ id - start) ⊎ (i ≡ id - start → ⊥) → start ≤ id → id - start < length marks → Marks width i (n + bit (eqb (start + i) id))
      (set marks (id - start) 1)
  placed (inl e) a b =
      record {
        size = length-set marks (id - start) 1 ∙ m.size;
        is =
            ap (λ (x : ℕ). not (eqb x 0)) (ap (λ (k : ℕ). get_or (set marks (id - start) 1) k 0) e ∙ get_or-set_same marks (id - start) 1 0 b) ∙
            sym (ap (λ (t : Bool). ltb 0 (n + bit t)) (eq-eqb (start + i) id (omega arith)) ∙ more n);
      }
  placed (inr e) a b =
      record {
        size = length-set marks (id - start) 1 ∙ m.size;
        is = ap (λ (x : ℕ). not (eqb x 0)) (get_or-set_other marks (id - start) i 1 0 e) ∙ m.is ∙ other (λ z. e (omega arith));
      }

  marked_next : Marks width i (n + bit (eqb (start + i) id)) (marked start id marks)
  unfolding marked
  marked_next = go (le_or start id) (le_or (length marks) (id - start))
    where
      go : (start ≤ id) ⊎ (id < start) → (length marks ≤ id - start) ⊎ (id - start < length marks) → Marks width i (n + bit (eqb (start + i) id))
          (marked start id marks)
      go (inr a) b = rw (lt-ltb id start a) (kept (λ z. omega arith))
      go (inl a) (inl b) = rw (le-ltb id start a, le-ltb (id - start) (length marks) b) (kept (λ z. omega (arith, m.size)))
      go (inl a) (inr b) = rw (le-ltb id start a, lt-ltb (id - start) (length marks) b) (placed (eq_or i (id - start)) a b)

-- ---- the marks of scores, pages and all pages

marks-steps : (width i : ℕ) (g : ℕ → List ℕ → List ℕ) (f : ℕ → ℕ) → ((q n : ℕ) (m : List ℕ) → Marks width i n m → Marks width i (n + f q) (g q m)) →
    (k q n : ℕ) (m : List ℕ) → Marks width i n m → Marks width i (n + sum_from f k q) (steps g k q m)
unfolding steps sum_from
marks-steps width i g f h zero q n m x = rw (add-zero n) x
marks-steps width i g f h (suc k) q n m x =
    let e : n + (f q + sum_from f k (q + 1)) ≡ n + f q + sum_from f k (q + 1) = omega arith in
    rw e (marks-steps width i g f h k (q + 1) (n + f q) (g q m) (h q n m x))

module _ (width i start : ℕ) (l : i < width) where
  -- how often a page has the id
  id_count : List ℕ → ℕ
  id_count b = sum_from (λ k. bit (eqb (start + i) (score_at b k).id)) (scores_on b) 0

  marks_page : (since : ℕ) (b : List ℕ) (n : ℕ) (m : List ℕ) → Marks width i n m → Marks width i (n + from_bytes since id_count b)
      (mark_page since start b m)
  unfolding mark_page mark_scores id_count
  marks_page since b n m x = go (ltb (number_of b) since)
    where
      go : (t : Bool) → Marks width i (n + choose t 0 (sum_from (λ k. bit (eqb (start + i) (score_at b k).id)) (scores_on b) 0))
          (choose t m (steps (λ k. marked start (score_at b k).id) (scores_on b) 0 m))
      go true = rw (add-zero n) x
      go false =
          marks-steps width i (λ k. marked start (score_at b k).id) (λ k. bit (eqb (start + i) (score_at b k).id))
          (λ k r y z. marked_next width i start (score_at b k).id r y l z) (scores_on b) 0 n m x

  blank-marks : Marks width i 0 (replicate width 0)
  blank-marks = record { size = length-replicate width 0; is = ap (λ (x : ℕ). not (eqb x 0)) (get_or-replicate width i 0 0 l) }

  marks-all : (ps : List (List ℕ)) (n since : ℕ) →
      is_marked (marks_of ps n since start width) i ≡ ltb 0 (sum_from (λ q. from_bytes since id_count (page_at ps q)) n 0)
  unfolding marks_of mark_pages
  marks-all ps n since =
      (marks-steps width i (λ q. mark_page since start (page_at ps q)) (λ q. from_bytes since id_count (page_at ps q))
      (λ q r y z. marks_page since (page_at ps q) r y z) n 0 0 (replicate width 0) blank-marks).is ∙
      ap (ltb 0) (zero-add (sum_from (λ q. from_bytes since id_count (page_at ps q)) n 0))

  id_count_read : (b : List ℕ) → id_count b ≡ count (score_of (start + i)) (scores_read b)
  unfolding id_count
  id_count_read b = scores-read (λ x. bit (eqb (start + i) x.id)) b ∙ as_count (scores_read b)
    where
      as_count : (xs : List Score) → sum_scores (λ x. bit (eqb (start + i) x.id)) xs ≡ count (score_of (start + i)) xs
      as_count [] = refl
      as_count (x ∷ xs) = ap (λ (n : ℕ). bit (eqb (start + i) x.id) + n) (as_count xs)

-- ---- the windows of a set

module _ {pool : List ℕ} {blocks : ℕ} {c : Cells} (j : Judged pool blocks c) (s k : ℕ) (r : Reach (λ i. page_in i (pages_in c)) s k)
    (end : greatest_of (pages_in c) ≡ suc (s + k)) where
  abbrev ps : List (List ℕ)
  ps = pages_of pool

  abbrev scores : List Score
  scores = scores_in (gathered (λ i. page_in i (pages_in c)) s k [])

  -- the marks of a window, whether it is full, and whether all ids are covered
  abbrev marks : ℕ → ℕ → List ℕ
  marks start width = marks_of ps (32 * blocks) (suc s) start width

  abbrev window : ℕ → ℕ → ℕ → Bool
  window start size width = window_of ps (32 * blocks) (suc s) start size width

  abbrev covers : ℕ → ℕ → Bool
  covers nodes width = covers_of ps (32 * blocks) (suc s) nodes width

  pub marked-is : (width i start : ℕ) → i < width → is_marked (marks start width) i ≡ ltb 0 (count (score_of (start + i)) scores)
  marked-is width i start l =
      marks-all width i start l ps (32 * blocks) (suc s) ∙
      ap (ltb 0)
      (by-checkpoint-pages j s k r end (λ y. count (score_of (start + i)) y.scores) refl (id_count width i start l)
      (λ q h. id_count_read width i start l (page_at ps q) ∙ ap (count (score_of (start + i))) (headers j q h).scores) ∙
      in_checkpoint-pages (gathered (λ i. page_in i (pages_in c)) s k []))
    where
      in_checkpoint-pages : (ys : List CheckpointPage) → sum_checkpoint_pages (λ y. count (score_of (start + i)) y.scores) ys ≡ count
          (score_of (start + i)) (scores_in ys)
      in_checkpoint-pages [] = refl
      in_checkpoint-pages (y ∷ ys) = omega (arith, in_checkpoint-pages ys, count-append (score_of (start + i)) y.scores (scores_in ys))

  module _ (start size width : ℕ) (fit : size ≤ width) where
    window-has : window start size width ≡ true → (i : ℕ) → i < size → 1 ≤ count (score_of (start + i)) scores
    unfolding window_of
    window-has e i l =
        ltb-true 0 (count (score_of (start + i)) scores)
        (sym (marked-is width i start (omega arith)) ∙ all-at (is_marked (marks start width)) size 0 e i (omega arith) (omega arith))

    has-window : ((i : ℕ) → i < size → 1 ≤ count (score_of (start + i)) scores) → window start size width ≡ true
    unfolding window_of
    has-window h =
        all_true (is_marked (marks start width)) size 0
        (λ i a b. marked-is width i start (omega arith) ∙ lt-ltb 0 (count (score_of (start + i)) scores) (h i (omega arith)))

  -- one window, or two
  covers_one : (nodes width : ℕ) → nodes ≤ width → covers nodes width ≡ window 0 nodes width
  unfolding covers_of
  covers_one nodes width l = rw (le-leb nodes width l) refl

  covers_two : (nodes width : ℕ) → width < nodes → nodes - width ≤ width →
      covers nodes width ≡ (window 0 width width && window width (nodes - width) width)
  unfolding covers_of
  covers_two nodes width l h = rw (lt-leb nodes width l, le-leb (nodes - width) width h) (both (window 0 width width))
    where
      both : (t : Bool) → choose t (window width (nodes - width) width) false ≡ (t && window width (nodes - width) width)
      both true = refl
      both false = refl

  module _ (nodes width : ℕ) (two : nodes ≤ 2 * width) where
    covers-has : (nodes ≤ width) ⊎ (width < nodes) → covers nodes width ≡ true → (i : ℕ) → i < nodes → 1 ≤ count (score_of i) scores
    covers-has (inl l) e i h = rw (zero-add i) at (window-has 0 nodes width l (sym (covers_one nodes width l) ∙ e) i h)
    covers-has (inr l) e i h = go (le_or width i)
      where
        w : (window 0 width width && window width (nodes - width) width) ≡ true
        w = sym (covers_two nodes width l (omega arith)) ∙ e

        go : (width ≤ i) ⊎ (i < width) → 1 ≤ count (score_of i) scores
        go (inr a) = rw (zero-add i) at (window-has 0 width width (omega arith)
            (and_left (window 0 width width) (window width (nodes - width) width) w) i a)
        go (inl a) =
            let q : width + (i - width) ≡ i = omega arith in
            rw q at (window-has width (nodes - width) width (omega arith) (and_right (window 0 width width) (window width (nodes - width) width) w)
            (i - width) (omega arith))

    has-covers : (nodes ≤ width) ⊎ (width < nodes) → ((i : ℕ) → i < nodes → 1 ≤ count (score_of i) scores) → covers nodes width ≡ true
    has-covers (inl l) h = covers_one nodes width l ∙ has-window 0 nodes width l (λ i a. rw (zero-add i) (h i a))
    has-covers (inr l) h =
        covers_two nodes width l (omega arith) ∙
        and_both (window 0 width width) (window width (nodes - width) width)
        (has-window 0 width width (omega arith) (λ i a. rw (zero-add i) (h i (omega arith))))
        (has-window width (nodes - width) width (omega arith) (λ i a. h (width + i) (omega arith)))

    -- ALL IDS ARE COVERED exactly if each has one score, where there are as many scores as nodes.
    pub covers_are : length scores ≡ nodes → covers nodes width ≡ once_below nodes scores
    covers_are size = go (covers nodes width) refl (once_below nodes scores) refl
      where
        go : (a : Bool) → covers nodes width ≡ a → (b : Bool) → once_below nodes scores ≡ b → a ≡ b
        go true e true f = refl
        go false e false f = refl
        go true e false f = sym (once_enough nodes scores size (covers-has (le_or nodes width) e)) ∙ f
        go false e true f = sym e ∙ has-covers (le_or nodes width) (λ i l. omega (arith, once_at nodes scores f i l))
