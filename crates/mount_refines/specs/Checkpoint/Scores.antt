-- The scores that the code takes into the rows are the store's, one for each node; and all of them are below a limit exactly where the
-- store's are. Assumes nothing.
use Rattle.std.specs.Prelude.{◌≡◌, Bool, ◌&&◌, ◌⊎◌, List, [], ◌∷◌, leb, ltb, set}
use Rattle.std.proofs.Math.Path.{refl}
use Rattle.std.proofs.Common.{sym, ap, ap₂, ◌∙◌, inl, inr, zero-add, get_or-set_same}
use Rattle.std.proofs.Math.Bool.{true, false}
use Prim.Native.Nat.{ℕ, zero, suc, ◌+◌, ◌*◌, ◌≤◌, ◌<◌}
use Rattle.std.proofs.Math.Nat.{add-zero}
use native.Mathlib.Omega.{arith}
use Rattle.std.proofs.Math.Dec.{eqb}
use Rattle.std.proofs.Math.ListN.{length, get_or, length-set}
use Rattle.std.proofs.Math.Seq.{get_or-set_other}
use borrow.Author.Tests.{eqb-true, eq-eqb, ne_eqb, lt-ltb, le-ltb, ltb-true, le-leb, lt-leb}
use Rattle.laws.specs.Tests.{choose, and_left, and_right}
use Rattle.laws.specs.Order.{eq_or, le_or}
use Rattle.laws.specs.Counts.{bit}
use Rattle.laws.specs.Loops.{steps, sum_from, steps-keep, all_from, all-at, all_true}
use Rattle.laws.specs.Update.{sum_below, sum_below-at}
use Rattle.layout.specs.Layout.{table_bytes}
use Rattle.account.specs.declared.Tariff.{Tariff}
use Rattle.flash_rows.specs.Row.{no_row}
use Rattle.flash_rows.specs.Step.{scored}
use Rattle.flash_rows.specs.declared.Row.{Row}
use Rattle.page.specs.Page.{Score}
use Rattle.store.specs.Pool.{page_in}
use Rattle.store.specs.Checkpoint.{CheckpointPage, checkpoint_of, scores_in, count_in, count_last, score_in, once_below, complete}
use Rattle.store_laws.specs.ScoreOrder.{once_at}
use Rattle.store.specs.Reopen.{Cells, reopened}
use Rattle.model.specs.Mount.{scores_below}
use Rattle.flash_blocks.specs.Pages.{pages_of, page_at}
use Rattle.store_laws.specs.WrittenPages.{pages_in}
use Rattle.mount_checkpoint_pages.specs.CheckpointPage.{number_of, scores_on}
use Rattle.mount_checkpoint.specs.Marks.{score_at}
use Rattle.mount_checkpoint.specs.Find.{complete_as, checkpoint_in}
use Rattle.mount_checkpoint.specs.Scores.{score_taken, take_scores, take_page, take_pages}
use Rattle.mount_refines.specs.Checkpoint.Collect.{gathered, sum_checkpoint_pages}
use Rattle.mount_refines.specs.Checkpoint.Pool.{Judged, headers}
use Rattle.mount_refines.specs.Checkpoint.Totals.{from_bytes, by-checkpoint-pages}
use Rattle.mount_refines.specs.Checkpoint.Ids.{
  sum_scores,
  of_id,
  one,
  sum_scores-append,
  count-of_id,
  sum_once,
  scores_below-ids,
}
use Rattle.mount_refines.specs.Checkpoint.Marks.{score_on, scores-read}
use Rattle.mount_refines.specs.Checkpoint.Found.{Spans, Completes, found-set, found_values, checkpoint_spans}
use Rattle.mount_restore.specs.Scores.{is_below}

-- ---- what becomes of one row

module _ (nodes id score : ℕ) (rows : List Row) (m : ℕ) where
  taken-size : length (score_taken nodes id score rows) ≡ length rows
  unfolding score_taken
  taken-size = go (ltb id nodes)
    where
      go : (t : Bool) → length (choose t (set rows id (scored score (get_or rows id no_row))) rows) ≡ length rows
      go true = length-set rows id (scored score (get_or rows id no_row))
      go false = refl

  taken-other : (m ≡ id → ⊥) → get_or (score_taken nodes id score rows) m no_row ≡ get_or rows m no_row
  unfolding score_taken
  taken-other h = go (ltb id nodes)
    where
      go : (t : Bool) → get_or (choose t (set rows id (scored score (get_or rows id no_row))) rows) m no_row ≡ get_or rows m no_row
      go true = get_or-set_other rows id m (scored score (get_or rows id no_row)) no_row h
      go false = refl

  taken_own : m ≡ id → m < nodes → nodes ≤ length rows → get_or (score_taken nodes id score rows) m no_row ≡ scored score (get_or rows m no_row)
  unfolding score_taken
  taken_own e l h =
      rw (← e, lt-ltb m nodes l) (get_or-set_same rows m (scored score (get_or rows m no_row)) no_row (omega arith))

  taken-beyond : nodes ≤ m → get_or (score_taken nodes id score rows) m no_row ≡ get_or rows m no_row
  unfolding score_taken
  taken-beyond h = go (le_or nodes id)
    where
      go : (nodes ≤ id) ⊎ (id < nodes) → get_or (score_taken nodes id score rows) m no_row ≡ get_or rows m no_row
      go (inl l) = rw (le-ltb id nodes l) refl
      go (inr l) = taken-other (λ e. omega arith)

-- After n scores of the node, which sum up to v, its row is as it was, or has the one score.
record Row-has (size m n v : ℕ) (r : Row) (rows : List Row) : Type 0 where
  length-is : length rows ≡ size
  never : n ≡ 0 → (get_or rows m no_row ≡ r) × (v ≡ 0)
  once : n ≡ 1 → get_or rows m no_row ≡ scored v r

module _ (size nodes m : ℕ) (r : Row) (l : m < nodes) (h : nodes ≤ size) where
  has-next : (id score n v : ℕ) (rows : List Row) → Row-has size m n v r rows →
      Row-has size m (n + choose (eqb m id) 1 0) (v + choose (eqb m id) score 0) r (score_taken nodes id score rows)
  has-next id score n v rows x = go (eq_or m id)
    where
      go : (m ≡ id) ⊎ (m ≡ id → ⊥) → Row-has size m (n + choose (eqb m id) 1 0) (v + choose (eqb m id) score 0) r (score_taken nodes id score rows)
      go (inl e) =
          rw (eq-eqb m id e)
          (record {
            length-is = taken-size nodes id score rows m ∙ x.length-is;
            never = λ z. absurd (omega arith);
            once =
                λ z.
                let q = x.never (omega arith) in
                taken_own nodes id score rows m e l (omega (arith, x.length-is)) ∙
                ap₂ scored (sym (zero-add score) ∙ ap (λ (k : ℕ). k + score) (sym q.1)) q.0;
          })
      go (inr e) =
          rw (ne_eqb m id e)
          (record {
            length-is = taken-size nodes id score rows m ∙ x.length-is;
            never = λ z. let q = x.never (omega arith) in (taken-other nodes id score rows m e ∙ q.0, omega (arith, q.1));
            once = λ z. taken-other nodes id score rows m e ∙ x.once (omega arith) ∙ ap (λ (k : ℕ). scored k r) (sym (add-zero v));
          })

  has-steps : (g : ℕ → List Row → List Row) (f w : ℕ → ℕ) →
      ((q n v : ℕ) (rows : List Row) → Row-has size m n v r rows → Row-has size m (n + f q) (v + w q) r (g q rows)) →
      (k q n v : ℕ) (rows : List Row) → Row-has size m n v r rows → Row-has size m (n + sum_from f k q) (v + sum_from w k q) r (steps g k q rows)
  unfolding steps sum_from
  has-steps g f w next zero q n v rows x = rw (add-zero n, add-zero v) x
  has-steps g f w next (suc k) q n v rows x =
      let a : n + (f q + sum_from f k (q + 1)) ≡ n + f q + sum_from f k (q + 1) = omega arith in
      let b : v + (w q + sum_from w k (q + 1)) ≡ v + w q + sum_from w k (q + 1) = omega arith in
      rw (a, b) (has-steps g f w next k (q + 1) (n + f q) (v + w q) (g q rows) (next q n v rows x))

  -- how often a page has the node, and what its scores there sum up to
  abbrev own : (Score → ℕ) → List ℕ → ℕ
  own g b = sum_from (λ k. of_id m g (score_on b k)) (scores_on b) 0

  has_page : (since : ℕ) (b : List ℕ) (n v : ℕ) (rows : List Row) → Row-has size m n v r rows →
      Row-has size m (n + from_bytes since (own one) b) (v + from_bytes since (own (λ x. x.score)) b) r (take_page since nodes b rows)
  unfolding take_page take_scores
  has_page since b n v rows x = go (ltb (number_of b) since)
    where
      go : (t : Bool) → Row-has size m (n + choose t 0 (own one b)) (v + choose t 0 (own (λ x. x.score) b)) r
          (choose t rows (steps (λ k. score_taken nodes (score_at b k).id (score_at b k).score) (scores_on b) 0 rows))
      go true = rw (add-zero n, add-zero v) x
      go false =
          has-steps (λ k. score_taken nodes (score_at b k).id (score_at b k).score) (λ k. of_id m one (score_on b k))
          (λ k. of_id m (λ x. x.score) (score_on b k))
          (λ k i u ys z. has-next (score_at b k).id (score_at b k).score i u ys z) (scores_on b) 0 n v rows x

  has_all : (ps : List (List ℕ)) (k since : ℕ) (rows : List Row) → length rows ≡ size → get_or rows m no_row ≡ r →
      Row-has size m (sum_from (λ q. from_bytes since (own one) (page_at ps q)) k 0)
      (sum_from (λ q. from_bytes since (own (λ x. x.score)) (page_at ps q)) k 0) r
      (take_pages ps k since nodes rows)
  unfolding take_pages
  has_all ps k since rows e f =
      let x : Row-has size m 0 0 r rows = record { length-is = e; never = λ z. (f, refl); once = λ z. absurd (omega arith) } in
      let a : (n : ℕ) → n ≡ 0 + n = λ n. omega arith in
      rw (
        a (sum_from (λ q. from_bytes since (own one) (page_at ps q)) k 0),
        a (sum_from (λ q. from_bytes since (own (λ x. x.score)) (page_at ps q)) k 0),
      )
      (has-steps (λ q. take_page since nodes (page_at ps q)) (λ q. from_bytes since (own one) (page_at ps q))
      (λ q. from_bytes since (own (λ x. x.score)) (page_at ps q))
      (λ q n v ys z. has_page since (page_at ps q) n v ys z) k 0 0 0 rows x)

-- What each score taken keeps, all scores keep.
pages-keep : (nodes : ℕ) (P : List Row → Type 0) → ((id score : ℕ) (rows : List Row) → P rows → P (score_taken nodes id score rows)) →
    (ps : List (List ℕ)) (k since : ℕ) (rows : List Row) → P rows → P (take_pages ps k since nodes rows)
unfolding take_pages take_page take_scores
pages-keep nodes P keep ps k since rows p =
    steps-keep (λ i. P) (λ q. take_page since nodes (page_at ps q)) k (λ q ys l z. by_page (ltb (number_of (page_at ps q)) since)
    (page_at ps q) ys z) rows p
  where
    by_page : (t : Bool) (b : List ℕ) (ys : List Row) → P ys →
        P (choose t ys (steps (λ i. score_taken nodes (score_at b i).id (score_at b i).score) (scores_on b) 0 ys))
    by_page true b ys z = z
    by_page false b ys z =
        steps-keep (λ i. P) (λ i. score_taken nodes (score_at b i).id (score_at b i).score) (scores_on b)
        (λ i xs l y. keep (score_at b i).id (score_at b i).score xs y) ys z

-- Rows with the scores of nodes: each node's row has its score and is otherwise as it was, and so is every other row.
pub record Scored (nodes : ℕ) (score : ℕ → ℕ) (rows after : List Row) : Type 0 where
  pub size : length after ≡ length rows
  pub own : (m : ℕ) → m < nodes → get_or after m no_row ≡ scored (score m) (get_or rows m no_row)
  pub others : (m : ℕ) → nodes ≤ m → get_or after m no_row ≡ get_or rows m no_row

-- ---- a complete checkpoint

module _ {pool : List ℕ} {blocks : ℕ} {c : Cells} (j : Judged pool blocks c) (width : ℕ) (wide : table_bytes blocks ≤ width)
    (t : Tariff) (nodes since : ℕ) (told : checkpoint_in (pages_of pool) blocks width ≡ complete_as t nodes since) where
  abbrev ps : List (List ℕ)
  ps = pages_of pool

  abbrev scores : List Score
  scores = scores_in (checkpoint_of (reopened blocks c))

  span : Spans c since
  span = found-set j width wide t nodes since told

  values : Completes (reopened blocks c) t nodes since
  values = found_values j width wide t nodes since told

  tests : (eqb (length scores) (count_in (checkpoint_of (reopened blocks c))) && once_below (count_in (checkpoint_of (reopened blocks c))) scores) ≡ true
  unfolding complete
  tests = and_right (count_last (checkpoint_of (reopened blocks c))) _ values.whole

  pub score_each : length scores ≡ nodes
  score_each = eqb-true _ _ (and_left (eqb (length scores) (count_in (checkpoint_of (reopened blocks c)))) _ tests) ∙ values.nodes_are

  pub score_once : once_below nodes scores ≡ true
  score_once =
      ap (λ (k : ℕ). once_below k scores) (sym values.nodes_are) ∙
      and_right (eqb (length scores) (count_in (checkpoint_of (reopened blocks c)))) _ tests

  own-sum : (m : ℕ) (g : Score → ℕ) →
      sum_from (λ q. from_bytes since (λ b. sum_from (λ k. of_id m g (score_on b k)) (scores_on b) 0) (page_at ps q))
      (32 * blocks) 0 ≡ sum_scores (of_id m g) scores
  own-sum m g =
      ap (λ (s : ℕ). sum_from (λ q. from_bytes s (λ b. sum_from (λ k. of_id m g (score_on b k)) (scores_on b) 0) (page_at ps q)) (32 * blocks) 0)
      span.begin ∙
      by-checkpoint-pages j span.below span.length span.reach span.end (λ y. sum_scores (of_id m g) y.scores) refl
      (λ b. sum_from (λ k. of_id m g (score_on b k)) (scores_on b) 0)
      (λ q l. scores-read (of_id m g) (page_at ps q) ∙ ap (sum_scores (of_id m g)) (headers j q l).scores) ∙
      in_checkpoint-pages (gathered (λ s. page_in s (pages_in c)) span.below span.length []) ∙
      ap (λ (ys : List CheckpointPage). sum_scores (of_id m g) (scores_in ys)) (sym (checkpoint_spans j since span))
    where
      in_checkpoint-pages : (ys : List CheckpointPage) → sum_checkpoint_pages (λ y. sum_scores (of_id m g) y.scores) ys ≡ sum_scores (of_id m g) (scores_in ys)
      in_checkpoint-pages [] = refl
      in_checkpoint-pages (y ∷ ys) = omega (arith, in_checkpoint-pages ys, sum_scores-append (of_id m g) y.scores (scores_in ys))

  -- THE SCORES IN THE ROWS are the store's, each in its node's row.
  pub scores-taken : (rows : List Row) → nodes ≤ length rows → Scored nodes (score_in scores) rows (take_pages ps (32 * blocks) since nodes rows)
  scores-taken rows h =
      record {
        size = pages-keep nodes (λ ys. length ys ≡ length rows)
            (λ id score ys e. taken-size nodes id score ys 0 ∙ e) ps (32 * blocks) since rows refl;
        own = mine;
        others =
            λ m l.
            pages-keep nodes (λ ys. get_or ys m no_row ≡ get_or rows m no_row)
            (λ id score ys e. taken-beyond nodes id score ys m l ∙ e) ps (32 * blocks) since rows refl;
      }
    where
      mine : (m : ℕ) → m < nodes → get_or (take_pages ps (32 * blocks) since nodes rows) m no_row ≡ scored (score_in scores m) (get_or rows m no_row)
      mine m l =
          let x = has_all (length rows) nodes m (get_or rows m no_row) l h ps (32 * blocks) since rows refl refl in
          let o = once_at nodes scores score_once m l in
          x.once (own-sum m one ∙ sym (count-of_id m scores) ∙ o) ∙
          ap (λ (v : ℕ). scored v (get_or rows m no_row)) (own-sum m (λ y. y.score) ∙ sum_once m (λ v. v) scores o)

  -- ALL BELOW THE LIMIT in rows that have these scores exactly where the store's are.
  pub scores-below : (limit : ℕ) (rows : List Row) → ((m : ℕ) → m < nodes → (get_or rows m no_row).score ≡ score_in scores m) →
      all_from (is_below limit rows) nodes 0 ≡ scores_below limit scores
  unfolding is_below
  scores-below limit rows h = go (all_from (is_below limit rows) nodes 0) refl (scores_below limit scores) refl
    where
      total : scores_below limit scores ≡ eqb (sum_below nodes (λ m. bit (leb limit (score_in scores m)))) 0
      total = scores_below-ids limit nodes scores score_each score_once

      zeros : (n : ℕ) (f : ℕ → ℕ) → ((i : ℕ) → i < n → f i ≡ 0) → sum_below n f ≡ 0
      zeros zero f z = refl
      zeros (suc n) f z = omega (arith, zeros n f (λ i l. z i (omega arith)), z n (omega arith))

      go : (a : Bool) → all_from (is_below limit rows) nodes 0 ≡ a → (b : Bool) → scores_below limit scores ≡ b → a ≡ b
      go true e true f = refl
      go false e false f = refl
      go true e false f =
          sym
          (total ∙
          eq-eqb _ 0
          (zeros nodes (λ m. bit (leb limit (score_in scores m)))
          (λ m l. ap bit (lt-leb limit (score_in scores m)
          (omega (
            arith,
            h m l,
            ltb-true (get_or rows m no_row).score limit (all-at (is_below limit rows) nodes 0 e m (omega arith)
                (omega arith)),
          )))))) ∙
          f
      go false e true f =
          sym e ∙
          all_true (is_below limit rows) nodes 0
          (λ m a l. lt-ltb (get_or rows m no_row).score limit (below m (omega arith) (le_or limit (score_in scores m))))
        where
          below : (m : ℕ) → m < nodes → (limit ≤ score_in scores m) ⊎ (score_in scores m < limit) → (get_or rows m no_row).score < limit
          below m l (inr q) = omega (arith, h m l)
          below m l (inl q) =
              absurd
              (omega (
                arith,
                sum_below-at nodes (λ i. bit (leb limit (score_in scores i))) m l,
                ap bit (le-leb limit (score_in scores m) q),
                eqb-true (sum_below nodes (λ i. bit (leb limit (score_in scores i)))) 0 (sym total ∙ f),
              ))
