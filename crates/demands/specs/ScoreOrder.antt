-- Scores in node order (document 02, P1), of a pool's bytes: what it means, that the pools of closed batches and of prepares have it, and that it leaves
-- one closing set alone. Assumes nothing.
use Rattle.std.specs.Prelude.{◌≡◌, refl, Bool, ◌⊎◌, List, ℕ, ◌≤◌, ◌<◌, ltb, Option, None, Some}
use Rattle.std.proofs.Common.{sym, ap, ap₂, ◌∙◌, subst, inl, inr, arith, le-ltb}
use Rattle.laws.specs.Options.{some_same}
use Rattle.laws.specs.Order.{le_or}
use Rattle.laws.specs.Counts.{bit, count}
use Rattle.account.specs.declared.Tariff.{Tariff}
use Rattle.page.specs.Page.{Score}
use Rattle.store.specs.Checkpoint.{CheckpointPage, scores_from, checkpoint_pages, checkpoint_of, score_in, score_of}
use Rattle.store_laws.specs.ScoreOrder.{Ascending, scores_from-ascends, scores_from-ids, score-none, ascending_one}
use Rattle.store.specs.Reopen.{Cells, reopened}
use Rattle.store_laws.specs.CheckpointPageLaws.{score_in-scores_from}
use Rattle.book.specs.Book.{Book}
use Rattle.model.specs.Bytes.{cells_of}
use Rattle.model.specs.Pool.{blocks_of}
use Rattle.model.specs.Calls.{book_in}

-- The newest checkpoint of a pool (document 01: closing set), its pages by sequence number; none where a page does not check.
abbrev newest_by : ℕ → Option Cells → Option (List CheckpointPage)
newest_by blocks None = None
newest_by blocks (Some c) = Some (checkpoint_of (reopened blocks c))

unfoldable pub newest_checkpoint : List ℕ → Option (List CheckpointPage)
newest_checkpoint pool = newest_by (blocks_of pool) (cells_of pool)

-- Whether an id has a node.
abbrev pub has_node : Book → ℕ → Bool
has_node b n = ltb n b.count

-- THE FIELDS 14 OF A POOL STAND IN NODE ORDER.
pub record InNodeOrder (pool : List ℕ) : Type 0 where
  pub tariff : Tariff
  pub book : Book
  pub spelled : book_in pool ≡ Some book
  -- those of the newest checkpoint, by page sequence number and then by place: 50 on its first page, 54 on each other, each filled before the next
  pub scores : List Score
  pub written : newest_checkpoint pool ≡ Some (checkpoint_pages tariff scores)
  -- "by ascending node id"
  pub ascending : Ascending scores
  -- these ids: each that has a node, once, and no other
  pub ids : (n : ℕ) → count (score_of n) scores ≡ bit (has_node book n)
  -- with the scores of the book
  pub each : (n : ℕ) → n < book.count → score_in scores n ≡ (book.account n).score

-- What is closed with the scores from node 0 on is in node order.
pub closed_in_order : (pool : List ℕ) (t : Tariff) (b : Book) → book_in pool ≡ Some b → (c : Cells) → cells_of pool ≡ Some c →
    (score : ℕ → ℕ) →
    checkpoint_of (reopened (blocks_of pool) c) ≡ checkpoint_pages t (scores_from 0 b.count score) →
    ((n : ℕ) → n < b.count → score n ≡ (b.account n).score) → InNodeOrder pool
unfolding newest_checkpoint
closed_in_order pool t b spelled c reads score e same =
    record {
      tariff = t;
      book = b;
      spelled = spelled;
      scores = scores_from 0 b.count score;
      written = rw (reads, e) refl;
      ascending = scores_from-ascends 0 b.count score;
      ids = λ n. scores_from-ids 0 b.count score n (omega arith) ∙ ap (λ (k : ℕ). bit (ltb n k)) (omega arith);
      each = λ n l. score_in-scores_from 0 b.count score n (omega arith) (omega arith) ∙ same n l;
    }

-- ONE CLOSING SET: for a tariff and a book no order is left to choose.
module _ {pool pool' : List ℕ} (x : InNodeOrder pool) (y : InNodeOrder pool') (tariffs : x.tariff ≡ y.tariff)
    (books : book_in pool ≡ book_in pool') where
  same_book : x.book ≡ y.book
  same_book = some_same (sym x.spelled ∙ books ∙ y.spelled)

  same_ids : (n : ℕ) → count (score_of n) x.scores ≡ count (score_of n) y.scores
  same_ids n = x.ids n ∙ ap (λ (b : Book). bit (has_node b n)) same_book ∙ sym (y.ids n)

  each_same : (n : ℕ) → score_in x.scores n ≡ score_in y.scores n
  each_same n = go (le_or x.book.count n)
    where
      go : (x.book.count ≤ n) ⊎ (n < x.book.count) → score_in x.scores n ≡ score_in y.scores n
      go (inl l) =
          let none : count (score_of n) x.scores ≡ 0 = x.ids n ∙ ap bit (le-ltb n x.book.count l) in
          score-none n x.scores none ∙ sym (score-none n y.scores (sym (same_ids n) ∙ none))
      go (inr l) =
          x.each n l ∙
          ap (λ (b : Book). (b.account n).score) same_book ∙
          sym (y.each n (subst (λ (b : Book). n < b.count) same_book l))

  pub one_order : newest_checkpoint pool ≡ newest_checkpoint pool'
  one_order =
      x.written ∙
      ap₂ (λ (t : Tariff) (z : List Score). Some (checkpoint_pages t z)) tariffs
      (ascending_one x.scores y.scores x.ascending y.ascending same_ids each_same) ∙
      sym y.written
