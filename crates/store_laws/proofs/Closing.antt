-- The end of a batch: the buffer's page, then the checkpoint. No node notices; the checkpoint's pages are live while it is written, so all
-- of them stand at its end, under the greatest numbers, and are read back; and the cells are this very store again. Assumes nothing.
use Rattle.std.specs.Prelude.{◌≡◌, Bool, true, List, [], ◌∷◌, ◌++◌, ℕ, suc, ◌+◌, ◌≤◌, ◌<◌, take, Some}
use Rattle.std.proofs.Math.Path.{refl, ap}
use Rattle.std.proofs.Common.{sym, ◌∙◌, subst, append-nil, arith, eq-eqb, lt-ltb}
use Rattle.std.proofs.Math.Nat.{le_trans}
use Rattle.std.proofs.Math.ListN.{length}
use Rattle.laws.specs.Tests.{and_right}
use Rattle.laws.specs.Counts.{bit, bit_le_one, tally, tally_mono}
use Rattle.laws.specs.Every.{Every, every_append, every_map}
use Rattle.layout.specs.Layout.{first_scores, most_blocks}
use Rattle.account.specs.declared.Mode.{Mode}
use Rattle.account.specs.declared.Tariff.{Tariff}
use Rattle.node.specs.Node.{Node}
use Rattle.page.specs.Page.{Entry, Score, Page, page}
use Rattle.store.specs.Pool.{Blocks, numbered, above, find}
use Rattle.store.specs.Store.{Store, view}
use Rattle.store.specs.Live.{no_checkpoint, is_checkpoint, checkpoint_since}
use Rattle.store.specs.Write.{next, place}
use Rattle.store.specs.Run.{Run, moment, write}
use Rattle.store.specs.Checkpoint.{CheckpointPage, checkpoint_page, checkpoint_page_content, scores_from, count_if_last, later_checkpoint_pages, later_parts, checkpoint_pages, drain_by, drain, write_checkpoint_pages, close, collect, checkpoint_of, tariff_in, scores_in, count_in, score_in, complete}
use Rattle.store.specs.Reopen.{pool_of}
use Rattle.store_laws.specs.LiveLaws.{live_closing}
use Rattle.store_laws.specs.Placing.{most_checkpoint_pages, Invariant}
use Rattle.store_laws.proofs.Placing.{place-find, place-find-live, place-tally, place-has, silent_same, silent_invariant}
use Rattle.store_laws.specs.Versions.{says, late, VersionRules}
use Rattle.store_laws.proofs.Versions.{silent_versions}
use Rattle.store_laws.proofs.Passed.{written_lean}
use Rattle.store_laws.specs.Good.{LeanAt, Good, Keep}
use Rattle.store_laws.proofs.Good.{keep_refl, keep_trans, place-keep, flush_run_good, flush_run-keep}
use Rattle.store_laws.specs.Keeps.{Keeps}
use Rattle.store_laws.proofs.Keeps.{keep-holds}
use Rattle.store_laws.specs.Numbers.{last}
use Rattle.store_laws.proofs.Numbers.{write-last}
use Rattle.store_laws.specs.Opening.{none_closing, opened, own-passes, reopen}
use Rattle.store_laws.specs.CheckpointPageLaws.{checkpoint-pages_few, scores_in-checkpoint-pages, count_in-checkpoint-pages}
use Rattle.store_laws.specs.CheckpointPageLaws.{tariff_in-checkpoint-pages, length-scores_from, score_in-scores_from, checkpoint-pages-complete}
use Rattle.store_laws.specs.Closing.{Closed}

-- What a checkpoint page, or several, leave of a run.
pub record Left (B : ℕ) (closing : Page → Bool) (run run' : Run) : Type 0 where
  pub nodes : run'.nodes ≡ run.nodes
  pub invariant : Invariant B run'.nodes closing run'.now
  pub versions : VersionRules run'.now
  pub buffer : run'.now.buffer ≡ run.now.buffer
  pub passed : Every LeanAt run'.passed
  pub keep : (m : ℕ) → m < run.nodes → Keep run.now run'.now m

left_trans : {B : ℕ} {closing : Page → Bool} {a b c : Run} → Left B closing a b → Left B closing b c → Left B closing a c
left_trans p q =
    record {
      nodes = q.nodes ∙ p.nodes;
      invariant = q.invariant;
      versions = q.versions;
      buffer = q.buffer ∙ p.buffer;
      passed = q.passed;
      keep = λ m l. keep_trans (p.keep m l) (q.keep m (omega (arith, p.nodes)));
    }

-- the run with one checkpoint page written
abbrev write_checkpoint_page : (Page → Bool) → CheckpointPage → Run → Run
write_checkpoint_page closing x run = write closing (checkpoint_page_content x) run.now.buffer run

module _ {B : ℕ} {closing : Page → Bool} (run : Run) (v : Invariant B run.nodes closing run.now) (x : CheckpointPage) where
  write_checkpoint_page-left : VersionRules run.now → Every LeanAt run.passed → tally closing run.now.blocks < most_checkpoint_pages →
      Left B closing run (write_checkpoint_page closing x run)
  unfolding write place late says
  write_checkpoint_page-left r p l =
      let st = run.now in
      let c = checkpoint_page_content x in
      let w = silent_invariant v c refl l in
      record {
        nodes = refl;
        invariant = w;
        versions = silent_versions v c refl (λ u. refl) r;
        buffer = refl;
        passed = every_append p (every_map (moment run.nodes) (written_lean v c st.buffer w.lean));
        keep =
            λ m k.
            let o = silent_same v c refl m k in
            place-keep v c st.buffer m k o.greatest o.pieces;
      }

  -- it stands under the next number, and every page of the checkpoint stays
  write_checkpoint_page-find : find (suc (last run)) (write_checkpoint_page closing x run).now.blocks ≡ Some (page (suc (last run)) (checkpoint_page_content x))
  unfolding write
  write_checkpoint_page-find = place-find v (checkpoint_page_content x) run.now.buffer

  write_checkpoint_page_stays : (s : ℕ) (q : Page) → find s run.now.blocks ≡ Some q → closing q ≡ true → s ≤ last run →
      find s (write_checkpoint_page closing x run).now.blocks ≡ Some q
  unfolding write
  write_checkpoint_page_stays s q e c l =
      place-find-live v (checkpoint_page_content x) run.now.buffer s q l e (live_closing (view run.now) closing run.nodes q c)

  write_checkpoint_page-tally : (k : ℕ) → tally closing run.now.blocks + suc k ≤ most_checkpoint_pages →
      tally closing (write_checkpoint_page closing x run).now.blocks + k ≤ most_checkpoint_pages
  unfolding write
  write_checkpoint_page-tally k l =
      omega (arith, place-tally v closing (checkpoint_page_content x) run.now.buffer, bit_le_one (closing (next run.now (checkpoint_page_content x))))

  write_checkpoint_page-has : 0 < tally (numbered (last (write_checkpoint_page closing x run))) (write_checkpoint_page closing x run).now.blocks
  unfolding write place
  write_checkpoint_page-has =
      le_trans (omega (arith, ap bit (eq-eqb (suc (last run)) (suc (last run)) refl)))
      (place-has v (numbered (suc (last run))) (checkpoint_page_content x) run.now.buffer)

module _ {B : ℕ} {closing : Page → Bool} where
  pub write_checkpoint_pages-left : (xs : List CheckpointPage) (run : Run) → Invariant B run.nodes closing run.now → VersionRules run.now →
      Every LeanAt run.passed → tally closing run.now.blocks + length xs ≤ most_checkpoint_pages → Left B closing run (write_checkpoint_pages closing xs run)
  write_checkpoint_pages-left [] run v r p l =
      record { nodes = refl; invariant = v; versions = r; buffer = refl; passed = p; keep = λ m k. keep_refl run.now m }
  write_checkpoint_pages-left (x ∷ xs) run v r p l =
      let a = write_checkpoint_page-left run v x r p (omega arith) in
      left_trans a (write_checkpoint_pages-left xs (write_checkpoint_page closing x run) a.invariant a.versions a.passed
      (write_checkpoint_page-tally run v x (length xs) l))

  -- its last page has the last number
  write_checkpoint_pages-has : (x : CheckpointPage) (xs : List CheckpointPage) (run : Run) → Invariant B run.nodes closing run.now →
      VersionRules run.now →
      Every LeanAt run.passed → tally closing run.now.blocks + suc (length xs) ≤ most_checkpoint_pages →
      0 < tally (numbered (last (write_checkpoint_pages closing (x ∷ xs) run))) (write_checkpoint_pages closing (x ∷ xs) run).now.blocks
  write_checkpoint_pages-has x [] run v r p l = write_checkpoint_page-has run v x
  write_checkpoint_pages-has x (y ∷ xs) run v r p l =
      let a = write_checkpoint_page-left run v x r p (omega arith) in
      write_checkpoint_pages-has y xs (write_checkpoint_page closing x run) a.invariant a.versions a.passed
      (write_checkpoint_page-tally run v x (suc (length xs)) l)

  -- THE CHECKPOINT STANDS where it was written: no page of it is lost
  write_checkpoint_pages_stays : (xs : List CheckpointPage) (run : Run) → Invariant B run.nodes closing run.now → VersionRules run.now →
      Every LeanAt run.passed → tally closing run.now.blocks + length xs ≤ most_checkpoint_pages → (s : ℕ) (q : Page) →
      find s run.now.blocks ≡ Some q → closing q ≡ true → s ≤ last run → find s (write_checkpoint_pages closing xs run).now.blocks ≡ Some q
  write_checkpoint_pages_stays [] run v r p l s q e c h = e
  write_checkpoint_pages_stays (x ∷ xs) run v r p l s q e c h =
      let a = write_checkpoint_page-left run v x r p (omega arith) in
      write_checkpoint_pages_stays xs (write_checkpoint_page closing x run) a.invariant a.versions a.passed
      (write_checkpoint_page-tally run v x (length xs) l) s q
      (write_checkpoint_page_stays run v x s q e c h) c
      (omega (arith, write-last closing (checkpoint_page_content x) run.now.buffer run))

-- checkpoint pages under the numbers after k
abbrev Stand : Blocks → ℕ → List CheckpointPage → Type 0
Stand bs k [] = Unit {0}
Stand bs k (x ∷ xs) = (find (suc k) bs ≡ Some (page (suc k) (checkpoint_page_content x))) × Stand bs (suc k) xs

write_checkpoint_pages_stand : {B : ℕ} {closing : Page → Bool} (xs : List CheckpointPage) (run : Run) → Invariant B run.nodes closing run.now →
    VersionRules run.now →
    Every LeanAt run.passed → tally closing run.now.blocks + length xs ≤ most_checkpoint_pages →
    ((s : ℕ) (x : CheckpointPage) → last run < s → closing (page s (checkpoint_page_content x)) ≡ true) → Stand
    (write_checkpoint_pages closing xs run).now.blocks (last run) xs
write_checkpoint_pages_stand [] run v r p l c = tt
write_checkpoint_pages_stand {closing = closing} (x ∷ xs) run v r p l c =
    let a = write_checkpoint_page-left run v x r p (omega arith) in
    let few = write_checkpoint_page-tally run v x (length xs) l in
    let e = write-last closing (checkpoint_page_content x) run.now.buffer run in (
      write_checkpoint_pages_stays xs (write_checkpoint_page closing x run) a.invariant a.versions a.passed few (suc (last run))
          (page (suc (last run)) (checkpoint_page_content x)) (write_checkpoint_page-find run v x) (c (suc (last run)) x (omega arith)) (omega arith),
      subst (λ k. Stand (write_checkpoint_pages closing xs (write_checkpoint_page closing x run)).now.blocks k xs) e
          (write_checkpoint_pages_stand xs (write_checkpoint_page closing x run) a.invariant a.versions a.passed few (λ s y h. c s y (omega arith))),
    )

pub write_checkpoint_pages-last : (closing : Page → Bool) (xs : List CheckpointPage) (run : Run) →
    last (write_checkpoint_pages closing xs run) ≡ last run + length xs
write_checkpoint_pages-last closing [] run = omega arith
write_checkpoint_pages-last closing (x ∷ xs) run =
    write_checkpoint_pages-last closing xs (write_checkpoint_page closing x run) ∙
    omega (arith, write-last closing (checkpoint_page_content x) run.now.buffer run)

-- READ BACK, from the greatest number down to the tariff
collect-later : (bs : Blocks) (n : ℕ) (xs : List (List Score)) (k : ℕ) (later : List CheckpointPage) → Stand bs k (later_checkpoint_pages n xs) →
    collect (λ s. find s bs) (k + length (later_checkpoint_pages n xs)) later ≡ collect (λ s. find s bs) k (later_checkpoint_pages n xs ++ later)
unfolding collect
collect-later bs n [] k later h =
    let e : k + 0 ≡ k = omega arith in
    ap (λ z. collect (λ s. find s bs) z later) e
collect-later bs n (x ∷ xs) k later h =
    let e : k + suc (length (later_checkpoint_pages n xs)) ≡ suc k + length (later_checkpoint_pages n xs) = omega arith in
    ap (λ z. collect (λ s. find s bs) z later) e ∙ collect-later bs n xs (suc k) later h.1 ∙ rw h.0 refl

collect-checkpoint-pages : (bs : Blocks) (t : Tariff) (scores : List Score) (k : ℕ) → Stand bs k (checkpoint_pages t scores) →
    collect (λ s. find s bs) (k + length (checkpoint_pages t scores)) [] ≡ checkpoint_pages t scores
unfolding collect checkpoint_pages
collect-checkpoint-pages bs t scores k h =
    let n = length scores in
    let rest = later_checkpoint_pages n (later_parts scores) in
    let first = checkpoint_page (Some t) (take first_scores scores) (count_if_last n (later_parts scores)) in
    let e : k + suc (length rest) ≡ suc k + length rest = omega arith in
    ap (λ z. collect (λ s. find s bs) z []) e ∙
    collect-later bs n (later_parts scores) (suc k) [] h.1 ∙
    rw h.0 (ap {B = List CheckpointPage} (λ z. first ∷ z) (append-nil rest))

-- The buffer is written first, if it has anything.
pub record Drained (B : ℕ) (run run' : Run) : Type 0 where
  pub good : Good B run'
  pub nodes : run'.nodes ≡ run.nodes
  pub buffer : run'.now.buffer ≡ []
  pub number : last run' ≤ suc (last run)
  pub keep : (m : ℕ) → m < run.nodes → Keep run.now run'.now m

drained : {B : ℕ} {run : Run} → Good B run → Drained B run (drain run)
unfolding write place
drained {B} {run} v = go run.now.buffer refl
  where
    go : (b : List Entry) → run.now.buffer ≡ b → Drained B run (drain_by b run)
    go [] e =
        record { good = v; nodes = refl; buffer = e; number = omega arith; keep = λ m l. keep_refl run.now m }
    go (x ∷ b) e = record { good = flush_run_good v; nodes = refl; buffer = refl; number = omega arith; keep = flush_run-keep v }

-- Nothing is in the checkpoint when it begins: older ones are dead.
pub closing_none : {B N : ℕ} {st : Store} → Invariant B N no_checkpoint st → tally (checkpoint_since st.last) st.blocks ≡ 0
unfolding checkpoint_since
closing_none {st = st} v =
    omega (
      arith,
      v.rules.within,
      tally_mono (checkpoint_since st.last) (above st.last) st.blocks (λ p. and_right (is_checkpoint p) (above st.last p)),
    )

pub closing_begins : {B N : ℕ} {st : Store} → Invariant B N no_checkpoint st → Invariant B N (checkpoint_since st.last) st
closing_begins v =
    record {
      blocks = v.blocks;
      nodes = v.nodes;
      checkpoint_pages = omega (arith, closing_none v);
      rules = v.rules;
      fit = v.fit;
      lean = v.lean;
    }

closing_over : {B N : ℕ} {closing : Page → Bool} {st : Store} → Invariant B N closing st → Invariant B N no_checkpoint st
closing_over {st = st} v =
    record {
      blocks = v.blocks;
      nodes = v.nodes;
      checkpoint_pages = omega (arith, none_closing st.blocks);
      rules = v.rules;
      fit = v.fit;
      lean = v.lean;
    }

closing_new : (k s : ℕ) (x : CheckpointPage) → k < s → checkpoint_since k (page s (checkpoint_page_content x)) ≡ true
unfolding checkpoint_since above
closing_new k s x l = rw (lt-ltb k s l) refl

module _ {B N : ℕ} {table : ℕ → Node} {modes : ℕ → Mode} {run : Run} (v : Keeps B N table modes run) (small : B ≤ most_blocks) (t : Tariff)
    (score : ℕ → ℕ) where
  scores : List Score
  scores = scores_from 0 run.nodes score

  closing : Page → Bool
  closing = checkpoint_since (last (drain run))

  d : Drained B run (drain run)
  d = drained v.good

  few : length (checkpoint_pages t scores) ≤ most_checkpoint_pages
  unfolding scores
  few =
      checkpoint-pages_few t (scores_from 0 run.nodes score)
      (omega (arith, length-scores_from 0 run.nodes score, v.good.invariant.nodes))

  fits : tally closing (drain run).now.blocks + length (checkpoint_pages t scores) ≤ most_checkpoint_pages
  unfolding closing
  fits = omega (arith, few, closing_none d.good.invariant)

  begins : Invariant B (drain run).nodes closing (drain run).now
  unfolding closing
  begins = closing_begins d.good.invariant

  left : Left B closing (drain run) (close t score run)
  unfolding close closing scores
  left = write_checkpoint_pages-left (checkpoint_pages t scores) (drain run) begins d.good.versions d.good.passed fits

  close-empty : (close t score run).now.buffer ≡ []
  close-empty = left.buffer ∙ d.buffer

  close-has : 0 < tally (numbered (last (close t score run))) (close t score run).now.blocks
  unfolding close closing scores checkpoint_pages
  close-has =
      let n = length scores in
      write_checkpoint_pages-has (checkpoint_page (Some t) (take first_scores scores) (count_if_last n (later_parts scores)))
      (later_checkpoint_pages n (later_parts scores))
      (drain run) begins d.good.versions d.good.passed fits

  close-last : last (close t score run) ≡ last (drain run) + length (checkpoint_pages t scores)
  unfolding close scores
  close-last = write_checkpoint_pages-last (checkpoint_since (last (drain run))) (checkpoint_pages t (scores_from 0 run.nodes score)) (drain run)

  close_good : Good B (close t score run)
  close_good =
      record {
        invariant = closing_over left.invariant;
        versions = left.versions;
        small = rw close-empty (omega arith);
        passed = left.passed;
      }

  close_keeps : Keeps B N table modes (close t score run)
  close_keeps =
      record {
        good = close_good;
        nodes = left.nodes ∙ d.nodes ∙ v.nodes;
        holds =
            λ n l.
            keep-holds
            (keep_trans (d.keep n (omega (arith, v.nodes))) (left.keep n (omega (arith, v.nodes, d.nodes)))) (v.holds n l);
        neat = v.neat;
      }

  close-checkpoint : checkpoint_of (close t score run).now ≡ checkpoint_pages t scores
  unfolding checkpoint_of close closing scores
  close-checkpoint =
      ap (λ k. collect (λ s. find s (close t score run).now.blocks) k []) close-last ∙
      collect-checkpoint-pages (close t score run).now.blocks t scores (last (drain run))
      (write_checkpoint_pages_stand (checkpoint_pages t scores) (drain run) begins d.good.versions d.good.passed fits
      (λ s x l. closing_new (last (drain run)) s x l))

  scores_are : scores ≡ scores_from 0 N score
  unfolding scores
  scores_are = ap (λ k. scores_from 0 k score) v.nodes

  -- THE END OF A BATCH
  pub close-closed : Closed B N table modes t score run (close t score run)
  close-closed =
      let set : checkpoint_of (close t score run).now ≡ checkpoint_pages t (scores_from 0 N score) = close-checkpoint ∙ ap (checkpoint_pages t) scores_are in
      record {
        keeps = close_keeps;
        passes = own-passes (close t score run).now left.invariant.rules left.versions;
        again = reopen (close t score run).now left.invariant.rules close-has close-empty;
        checkpoint = set;
        complete = ap complete set ∙ checkpoint-pages-complete t N score;
        tariff = ap tariff_in set ∙ tariff_in-checkpoint-pages t (scores_from 0 N score);
        count = ap count_in set ∙ count_in-checkpoint-pages t (scores_from 0 N score) ∙ length-scores_from 0 N score;
        scores =
            λ n l.
            ap (λ z. score_in (scores_in z) n) set ∙
            ap (λ z. score_in z n) (scores_in-checkpoint-pages t (scores_from 0 N score)) ∙
            score_in-scores_from 0 N score n (omega arith) (omega arith);
        number = omega (arith, close-last, few, d.number);
      }

-- THE NEXT CALL finds what the last one kept
pub closed-opens : {B N : ℕ} {table : ℕ → Node} {modes : ℕ → Mode} {t : Tariff} {score : ℕ → ℕ} {run run' : Run} →
    Closed B N table modes t score run run' → Keeps B N table modes (opened B N (pool_of run'.now))
closed-opens {B} {N} {table} {modes} {run' = run'} c =
    subst (λ st. Keeps B N table modes (record { nodes = N; now = st; passed = [] })) (sym c.again)
    (record {
      good =
          record {
            invariant = subst (λ n. Invariant B n no_checkpoint run'.now) c.keeps.nodes c.keeps.good.invariant;
            versions = c.keeps.good.versions;
            small = c.keeps.good.small;
            passed = Every.none;
          };
      nodes = refl;
      holds = c.keeps.holds;
      neat = c.keeps.neat;
    })
