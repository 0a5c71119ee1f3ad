-- The checkpoint pages of the code are the model's, one by one: checkpoint page k has the scores of the nodes from 0, 50, 104, .. on, the first one the tariff,
-- the last one the node count. Assumes nothing.
use Rattle.std.specs.Prelude.{◌≡◌, refl, Bool, ◌⊎◌, eqb, take, drop, None, Some}
use Rattle.std.proofs.Common.{sym, ◌∙◌, inl, inr, add-one, arith, ne_eqb, le-leb}
use Rattle.std.proofs.Math.Path.{ap, ap₂}
use mathlib.Core.List.{List, [], ◌∷◌}
use Prim.Native.Nat.{ℕ, zero, suc, ◌+◌, ◌-◌, ◌*◌, ◌≤◌, ◌<◌, min}
use Rattle.std.proofs.lemmas.Bool.{lt-leb}
use Rattle.laws.specs.Order.{le_or}
use Rattle.laws.specs.Tests.{eqb_same}
use Rattle.layout.specs.Layout.{first_scores, other_scores}
use Rattle.account.specs.declared.Tariff.{Tariff}
use Rattle.page.specs.Page.{Score}
use Rattle.store.specs.Checkpoint.{CheckpointPage, checkpoint_page, scores_from, parts, count_if_last, later_checkpoint_pages, checkpoint_pages}
use Rattle.store_laws.specs.CheckpointPageLaws.{length-scores_from}
use Rattle.flash_rows.specs.declared.Row.{Row}
use Rattle.std.specs.Bool.{then_some}
use Rattle.flash_checkpoint.specs.Scores.{scores_of}
use Rattle.flash_checkpoint.specs.CheckpointPages.{scores_before, scores_of_page, page_count}
use Rattle.flash_refines.specs.Store.Mirror.{row_at}

-- The scores that the rows hold are the given ones.
pub scores_of-is : (rows : List Row) (score : ℕ → ℕ) (nodes : ℕ) → ((n : ℕ) → n < nodes → (row_at rows n).score ≡ score n) → (i k : ℕ) → i + k ≤ nodes →
    scores_of rows i k ≡ scores_from i k score
unfolding scores_of
scores_of-is rows score nodes h i zero l = refl
scores_of-is rows score nodes h i (suc k) l =
    ap₂ (λ (s : ℕ) (rest : List Score). record { id = i; score = s } ∷ rest) (h i (omega arith))
    (ap (λ (j : ℕ). scores_of rows j k) (add-one i) ∙ scores_of-is rows score nodes h (suc i) k (omega arith))

-- Checkpoint page k takes the scores that are left, as far as it has room.
size_is : (k nodes : ℕ) → scores_of_page k nodes ≡ min (other_scores * k + first_scores) nodes - scores_before k
unfolding scores_of_page
size_is k nodes = go (le_or (other_scores * k + first_scores) nodes)
  where
    go : (other_scores * k + first_scores ≤ nodes) ⊎ (nodes < other_scores * k + first_scores) →
        scores_of_page k nodes ≡ min (other_scores * k + first_scores) nodes - scores_before k
    go (inl h) = rw (le-leb (other_scores * k + first_scores) nodes h) (omega arith)
    go (inr h) = rw (lt-leb (other_scores * k + first_scores) nodes h) (omega arith)

pub checkpoint_page_inside : (k nodes : ℕ) → k < page_count nodes → scores_before k + scores_of_page k nodes ≤ nodes
checkpoint_page_inside k nodes l = omega (arith, size_is k nodes)

module _ (t : Tariff) (score : ℕ → ℕ) (nodes : ℕ) where
  -- What checkpoint page k holds; and the checkpoint pages from k on, so many.
  unfoldable pub checkpoint_page_of : ℕ → CheckpointPage
  checkpoint_page_of k =
      checkpoint_page (then_some (eqb k 0) t) (scores_from (scores_before k) (scores_of_page k nodes) score) (then_some (eqb (k + 1) (page_count nodes)) nodes)

  abbrev pub checkpoint_pages_from : ℕ → ℕ → List CheckpointPage
  checkpoint_pages_from zero k = []
  checkpoint_pages_from (suc m) k = checkpoint_page_of k ∷ checkpoint_pages_from m (k + 1)

module _ (score : ℕ → ℕ) where
  take-scores : (width i m : ℕ) → take width (scores_from i m score) ≡ scores_from i (min width m) score
  take-scores zero i m =
      let e : min 0 m ≡ 0 = omega arith in
      ap (λ (n : ℕ). scores_from i n score) (sym e)
  take-scores (suc width) i zero =
      let e : min (suc width) 0 ≡ 0 = omega arith in
      ap (λ (n : ℕ). scores_from i n score) (sym e)
  take-scores (suc width) i (suc m) =
      let e : min (suc width) (suc m) ≡ suc (min width m) = omega arith in
      ap (λ (l : List Score). record { id = i; score = score i } ∷ l) (take-scores width (suc i) m) ∙ ap (λ (n : ℕ). scores_from i n score) (sym e)

  drop-scores : (width i m : ℕ) → drop width (scores_from i m score) ≡ scores_from (i + width) (m - width) score
  drop-scores zero i m =
      let e : i ≡ i + 0 = omega arith in
      let f : m ≡ m - 0 = omega arith in
      ap₂ (λ (j n : ℕ). scores_from j n score) e f
  drop-scores (suc width) i zero =
      let e : 0 ≡ 0 - suc width = omega arith in
      ap (λ (n : ℕ). scores_from (i + suc width) n score) e
  drop-scores (suc width) i (suc m) =
      let e : suc i + width ≡ i + suc width = omega arith in
      let f : m - width ≡ suc m - suc width = omega arith in
      drop-scores width (suc i) m ∙ ap₂ (λ (j n : ℕ). scores_from j n score) e f

  -- the count stands where no score is left
  count-last : (nodes most width i m : ℕ) → m ≤ most → count_if_last nodes (parts most width (scores_from i m score)) ≡ then_some (eqb m 0) nodes
  count-last nodes zero width i zero l = refl
  count-last nodes zero width i (suc m) l = absurd (omega arith)
  count-last nodes (suc most) width i zero l = refl
  count-last nodes (suc most) width i (suc m) l = ap (λ (b : Bool). then_some b nodes) (sym (ne_eqb (suc m) 0 (λ e. omega arith)))

module _ (t : Tariff) (score : ℕ → ℕ) (nodes : ℕ) where
  abbrev scores : List Score
  scores = scores_from 0 nodes score

  -- the scores behind those of checkpoint page k
  left_behind : (k m : ℕ) → 1 ≤ k → drop other_scores (scores_from (scores_before k) m score) ≡ scores_from (scores_before (k + 1)) (m - other_scores) score
  left_behind k m l =
      let e : scores_before k + other_scores ≡ scores_before (k + 1) = omega arith in
      drop-scores score other_scores (scores_before k) m ∙ ap (λ (i : ℕ). scores_from i (m - other_scores) score) e

  checkpoint_page_first : checkpoint_page (Some t) (take first_scores scores) (count_if_last nodes (parts nodes other_scores (drop first_scores scores))) ≡
      checkpoint_page_of t score nodes 0
  unfolding checkpoint_page_of
  checkpoint_page_first =
      let size : min first_scores nodes ≡ scores_of_page 0 nodes = omega (arith, size_is 0 nodes) in
      ap₂ (checkpoint_page (Some t)) (take-scores score first_scores 0 nodes ∙ ap (λ (n : ℕ). scores_from 0 n score) size)
      (ap (λ (l : List Score). count_if_last nodes (parts nodes other_scores l)) (drop-scores score first_scores 0 nodes) ∙
      count-last score nodes nodes other_scores (0 + first_scores) (nodes - first_scores) (omega arith) ∙
      ap (λ (b : Bool). then_some b nodes) (eqb_same (nodes - first_scores) 0 (0 + 1) (page_count nodes) (λ e. omega arith) (λ e. omega arith)))

  checkpoint_page_later : (most k m : ℕ) → 1 ≤ k → m - other_scores ≤ most → 1 ≤ m → m ≡ nodes - scores_before k →
      checkpoint_page None (take other_scores (scores_from (scores_before k) m score))
      (count_if_last nodes (parts most other_scores (scores_from (scores_before (k + 1)) (m - other_scores) score))) ≡
      checkpoint_page_of t score nodes k
  unfolding checkpoint_page_of
  checkpoint_page_later most k m l f p e =
      let size : min other_scores m ≡ scores_of_page k nodes = omega (arith, size_is k nodes) in
      rw (ne_eqb k 0 (λ z. omega arith))
      (ap₂ (checkpoint_page None) (take-scores score other_scores (scores_before k) m ∙ ap (λ (n : ℕ). scores_from (scores_before k) n score) size)
      (count-last score nodes most other_scores (scores_before (k + 1)) (m - other_scores) f ∙
      ap (λ (b : Bool). then_some b nodes) (eqb_same (m - other_scores) 0 (k + 1) (page_count nodes) (λ z. omega arith) (λ z. omega arith))))

  as_many : (a b k : ℕ) → a ≡ b → checkpoint_pages_from t score nodes a k ≡ checkpoint_pages_from t score nodes b k
  as_many a b k e = ap (λ (n : ℕ). checkpoint_pages_from t score nodes n k) e

  -- The model's checkpoint pages but the first, from checkpoint page k on, m nodes being left.
  later_are : (most k m : ℕ) → 1 ≤ k → m ≤ most → m ≡ nodes - scores_before k →
      later_checkpoint_pages nodes (parts most other_scores (scores_from (scores_before k) m score)) ≡ checkpoint_pages_from t score nodes (page_count nodes - k) k
  later_are zero k zero l f e = as_many 0 (page_count nodes - k) k (omega arith)
  later_are zero k (suc m) l f e = absurd (omega arith)
  later_are (suc most) k zero l f e = as_many 0 (page_count nodes - k) k (omega arith)
  later_are (suc most) k (suc m) l f e =
      ap (λ (xs : List Score). later_checkpoint_pages nodes (take other_scores (scores_from (scores_before k) (suc m) score) ∷ parts most other_scores xs))
      (left_behind k (suc m) l) ∙
      ap₂ (λ (x : CheckpointPage) (xs : List CheckpointPage). x ∷ xs) (checkpoint_page_later most k (suc m) l (omega arith) (omega arith) e)
      (later_are most (k + 1) (suc m - other_scores) (omega arith) (omega arith) (omega arith)) ∙
      as_many (suc (page_count nodes - (k + 1))) (page_count nodes - k) k (omega arith)

  -- THE SHEETS ARE THE MODEL'S.
  pub checkpoint-pages_are : checkpoint_pages t (scores_from 0 nodes score) ≡ checkpoint_pages_from t score nodes (page_count nodes) 0
  unfolding checkpoint_pages
  checkpoint-pages_are =
      rw (length-scores_from 0 nodes score)
      (ap₂ (λ (x : CheckpointPage) (xs : List CheckpointPage). x ∷ xs) checkpoint_page_first
      (ap (λ (xs : List Score). later_checkpoint_pages nodes (parts nodes other_scores xs)) (drop-scores score first_scores 0 nodes) ∙
      later_are nodes 1 (nodes - first_scores) (omega arith) (omega arith) (omega arith)) ∙
      as_many (suc (page_count nodes - 1)) (page_count nodes) 0 (omega arith))
