-- The end of a batch leaves a fitting store: of the scores in a row each checkpoint page takes as many as it holds, so that only the last
-- is not full, and that one has the count. Assumes nothing.
use Rattle.std.specs.Prelude.{◌≡◌, refl, Bool, ◌⊎◌, List, [], ◌∷◌, ℕ, zero, suc, ◌+◌, ◌≤◌, ◌<◌, length, take, drop, None, Some}
use Rattle.std.proofs.Common.{sym, ap, ◌∙◌, inl, inr, arith, length-take, drop_of_length-le}
use Rattle.laws.specs.Every.{Every, none, both, every_take, every_drop}
use Rattle.laws.specs.Order.{le_or}
use Rattle.laws.specs.Lists.{nil-cons}
use Rattle.layout.specs.Layout.{first_scores, other_scores, node_limit, most_blocks, bound32}
use Rattle.account.specs.declared.Costs.{Costs}
use Rattle.account.specs.declared.Tariff.{Tariff}
use Rattle.account.specs.Range.{Bounded, Ranged}
use Rattle.page.specs.Page.{Entry, Score, Page}
use Rattle.page.specs.Limits.{bound16, CostsFit, TariffFits, ScoreFits, Filled, CheckpointFits}
use Rattle.store.specs.Live.{checkpoint_since}
use Rattle.store.specs.Write.{place}
use Rattle.store.specs.Run.{Run, write}
use Rattle.store.specs.Checkpoint.{
  CheckpointPage,
  checkpoint_page,
  checkpoint_page_content,
  scores_from,
  parts,
  count_if_last,
  later_checkpoint_pages,
  later_parts,
  checkpoint_pages,
  drain_by,
  drain,
  write_checkpoint_pages,
  close,
}
use Rattle.store_laws.specs.CheckpointPageLaws.{checkpoint-pages_few, length-scores_from, parts-nil}
use Rattle.store_laws.specs.Numbers.{last}
use Rattle.store_laws.proofs.Numbers.{write-last}
use Rattle.store_laws.specs.StoreFits.{RunFits, later-entries, write-fits}
use Rattle.store_laws.proofs.WriteFits.{flush_run-fits}

-- A tariff in range has 32-bit numbers.
costs_fit : (c : Costs) → Bounded c → CostsFit c
costs_fit c b = record { read = omega arith; edit = omega arith; rewrite = omega arith; enter = omega arith }

pub tariff-fits : (t : Tariff) → Ranged t → TariffFits t
tariff-fits t r = record { log = costs_fit t.log r.log; disk = costs_fit t.disk r.disk }

pub scores_from_fit : (i k : ℕ) (score : ℕ → ℕ) → i + k ≤ bound16 → ((n : ℕ) → n < i + k → score n < bound32) →
    Every ScoreFits (scores_from i k score)
scores_from_fit i zero score l h = none
scores_from_fit i (suc k) score l h =
    both {x = record { id = i; score = score i }} (record { id = omega arith; score = h i (omega arith) })
    (scores_from_fit (suc i) k score (omega arith) (λ n b. h n (omega arith)))

-- What is taken of scores fills a page, where more are left behind it; else the page has the count.
module _ (width most width' n : ℕ) (few : n < bound16) where
  filled : (xs : List Score) → Filled width (length (take width xs)) (count_if_last n (parts most width' (drop width xs)))
  filled xs = go (parts most width' (drop width xs)) refl (le_or (length xs) width)
    where
      go : (rest : List (List Score)) → parts most width' (drop width xs) ≡ rest → (length xs ≤ width) ⊎ (width < length xs) →
          Filled width (length (take width xs)) (count_if_last n rest)
      go [] e l = few
      go (y ∷ ys) e (inl l) =
          absurd (nil-cons y ys (sym (ap (parts most width') (drop_of_length-le xs l) ∙ parts-nil most width') ∙ e))
      go (y ∷ ys) e (inr l) = omega (arith, length-take width xs)

-- A checkpoint page within its limits.
abbrev pub CheckpointPageFits : CheckpointPage → Type 0
CheckpointPageFits x = CheckpointFits x.tariff x.scores x.count

later_checkpoint_pages_fit : (most n : ℕ) → n < bound16 → (xs : List Score) → Every ScoreFits xs →
    Every CheckpointPageFits (later_checkpoint_pages n (parts most other_scores xs))
later_checkpoint_pages_fit zero n few xs e = none
later_checkpoint_pages_fit (suc most) n few [] e = none
later_checkpoint_pages_fit (suc most) n few (x ∷ xs) e =
    both {x = checkpoint_page None (take other_scores (x ∷ xs)) (count_if_last n (parts most other_scores (drop other_scores (x ∷ xs))))}
    (record {
      tariff = tt;
      some = omega (arith, length-take other_scores (x ∷ xs));
      few = omega (arith, length-take other_scores (x ∷ xs));
      scores = every_take other_scores (x ∷ xs) e;
      filled = filled other_scores most other_scores n few (x ∷ xs);
    })
    (later_checkpoint_pages_fit most n few (drop other_scores (x ∷ xs)) (every_drop other_scores (x ∷ xs) e))

pub checkpoint-pages_fit : (t : Tariff) → TariffFits t → (scores : List Score) → Every ScoreFits scores → 1 ≤ length scores → length scores < bound16 →
    Every CheckpointPageFits (checkpoint_pages t scores)
unfolding checkpoint_pages
checkpoint-pages_fit t f scores e least few =
    both {x = checkpoint_page (Some t) (take first_scores scores) (count_if_last (length scores) (later_parts scores))}
    (record {
      tariff = f;
      some = omega (arith, length-take first_scores scores);
      few = omega (arith, length-take first_scores scores);
      scores = every_take first_scores scores e;
      filled = filled first_scores (length scores) other_scores (length scores) few scores;
    })
    (later_checkpoint_pages_fit (length scores) (length scores) few (drop first_scores scores) (every_drop first_scores scores e))

-- The checkpoint pages are written one after another.
pub write_checkpoint_pages-fits : (closing : Page → Bool) (xs : List CheckpointPage) {run : Run} → RunFits run → Every CheckpointPageFits xs → length
    xs + last run < bound32 →
    RunFits (write_checkpoint_pages closing xs run)
write_checkpoint_pages-fits closing [] h none b = h
write_checkpoint_pages-fits closing (x ∷ xs) {run} h (both f e) b =
    write_checkpoint_pages-fits closing xs
    (write-fits h closing (checkpoint_page_content x) run.now.buffer (record { from = omega arith; below = omega arith; content = f })
    (later-entries (omega arith) h.now.entries) h.now.few)
    e (omega (arith, write-last closing (checkpoint_page_content x) run.now.buffer run))

-- The buffer's page first, if it holds anything.
pub record Drained (run run' : Run) : Type 0 where
  pub fits : RunFits run'
  pub number : last run' ≤ suc (last run)

pub drain-fits : {run : Run} → RunFits run → suc (last run) < bound32 → Drained run (drain run)
unfolding write place
drain-fits {run} h b = go run.now.buffer refl
  where
    go : (es : List Entry) → run.now.buffer ≡ es → Drained run (drain_by es run)
    go [] e = record { fits = h; number = omega arith }
    go (x ∷ es) e = record { fits = flush_run-fits h (omega (arith, ap length e)) b; number = omega arith }

-- THE END OF A BATCH
pub close-fits : {run : Run} → RunFits run → (t : Tariff) → Ranged t → (score : ℕ → ℕ) → ((n : ℕ) → n < run.nodes → score n < bound32) →
    1 ≤ run.nodes → run.nodes ≤ node_limit most_blocks → 13 + last run < bound32 → RunFits (close t score run)
unfolding close
close-fits {run} h t r score low least few b =
    let scores = scores_from 0 run.nodes score in
    let k = length-scores_from 0 run.nodes score in
    let d = drain-fits h (omega arith) in
    write_checkpoint_pages-fits (checkpoint_since (last (drain run))) (checkpoint_pages t scores) d.fits
    (checkpoint-pages_fit t (tariff-fits t r) scores (scores_from_fit 0 run.nodes score (omega arith) (λ n l. low n (omega arith))) (omega arith)
    (omega arith))
    (omega (arith, d.number, checkpoint-pages_few t scores (omega arith)))
