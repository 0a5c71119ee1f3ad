-- The end of a batch and the next mount: the pool left behind passes every question but the eighth, and is found saying the very book that
-- the run said. Assumes nothing.
use Rattle.std.specs.Prelude.{◌≡◌, refl, true, List, ℕ, zero, suc, ◌+◌, ◌≤◌, ◌<◌, leb, ltb}
use Rattle.std.proofs.Common.{sym, ◌∙◌, subst, arith, le-leb, lt-ltb}
use Rattle.std.proofs.Math.Path.{ap}
use Rattle.laws.specs.Tests.{and_both}
use Rattle.layout.specs.Layout.{most_blocks, node_limit, most_log_pages}
use Rattle.account.specs.declared.Tariff.{Tariff}
use Rattle.account.specs.Tariff.{limit}
use Rattle.account.specs.Range.{in_range, ranged_in_range}
use Rattle.pairs.specs.Pairs.{Pair}
use Rattle.tree.specs.Sound.{sound}
use Rattle.tree_laws.specs.SoundLaws.{spells_sound}
use Rattle.store.specs.View.{pages}
use Rattle.store.specs.Store.{Store, view}
use Rattle.store_laws.specs.Changes.{Lean}
use Rattle.store_laws.specs.Keeps.{Keeps}
use Rattle.store.specs.Checkpoint.{scores_from, checkpoint_pages, close, checkpoint_of, scores_in, count_in}
use Rattle.store_laws.specs.CheckpointPageLaws.{scores_in-checkpoint-pages}
use Rattle.store.specs.Reopen.{Cells, pool_of, reopened}
use Rattle.store_laws.specs.Closing.{Closed}
use Rattle.store_laws.proofs.Closing.{close-closed}
use Rattle.book.specs.Book.{Book}
use Rattle.model.specs.State.{State, book_of}
use Rattle.model.specs.Batch.{closed}
use Rattle.model.specs.Mount.{state_of, three_pages, scores_below, TreeSound}
use Rattle.demands.specs.Says.{modes, Says, book_of_trimmed, score-is, says}
use Rattle.demands.specs.Mount.{Sealed, Ready}

pub three_below : (n : ℕ) (st : Store) → ((k : ℕ) → k < n → pages (view st) k ≤ most_log_pages) → three_pages n st ≡ true
unfolding three_pages
three_below zero st h = refl
three_below (suc n) st h =
    and_both (leb (pages (view st) n) most_log_pages) (three_pages n st) (le-leb (pages (view st) n) most_log_pages (h n (omega arith)))
    (three_below n st (λ k l. h k (omega arith)))

three_all : (n : ℕ) (st : Store) (most : ℕ) → Lean most (view st) → n ≤ most → three_pages n st ≡ true
three_all n st most h l = three_below n st (λ k r. omega (arith, h.each k (omega arith)))

scores-all : (most i k : ℕ) (score : ℕ → ℕ) → ((n : ℕ) → n < i + k → score n < most) → scores_below most (scores_from i k score) ≡ true
unfolding scores_below
scores-all most i zero score h = refl
scores-all most i (suc k) score h =
    and_both (ltb (score i) most) (scores_below most (scores_from (suc i) k score)) (lt-ltb (score i) most (h i (omega arith)))
    (scores-all most (suc i) k score (λ n l. h n (omega arith)))

module _ {blocks : ℕ} {t : Tariff} {s : State} {b : Book} {ps : List Pair} (few : blocks ≤ most_blocks) (r : Ready blocks t s b ps) where
  -- The run holds the book itself.
  keeps : Keeps blocks b.count b.table (modes b) s.run
  keeps = subst (λ (z : Book). Keeps blocks z.count z.table (modes z) s.run) r.says.is r.says.sound

  shut : Closed blocks b.count b.table (modes b) t s.score s.run (close t s.score s.run)
  shut = close-closed keeps few t s.score

  abbrev st : Store
  st = (closed t s).run.now

  abbrev c : Cells
  c = pool_of st

  pub score_of_lem : (n : ℕ) → n < b.count → s.score n ≡ (b.account n).score
  score_of_lem n l =
      score-is s n (rw r.says.is l) ∙ ap (λ (z : Book). (z.account n).score) r.says.is

  -- The closed run says the book still.
  pub closed-says : Says blocks (closed t s) b
  unfolding closed
  closed-says =
      says b (closed t s) shut.keeps (subst (λ (z : Book). Rattle.demands.specs.Says.Trimmed z) r.says.is (book_of_trimmed s)) score_of_lem

  -- THE NEXT MOUNT finds it.
  pub again : reopened blocks c ≡ st
  unfolding closed
  again = shut.again

  reopened-says : Says blocks (state_of st) b
  unfolding state_of closed
  reopened-says =
      says b (state_of st)
      (record {
        good =
            record {
              invariant = rw (shut.count, ← shut.keeps.nodes) shut.keeps.good.invariant;
              versions = shut.keeps.good.versions;
              small = shut.keeps.good.small;
              passed = Rattle.laws.specs.Every.none;
            };
        nodes = shut.count;
        holds = shut.keeps.holds;
        neat = shut.keeps.neat;
      })
      (subst (λ (z : Book). Rattle.demands.specs.Says.Trimmed z) r.says.is (book_of_trimmed s))
      (λ n l. shut.scores n l ∙ score_of_lem n l)

  pub mounted_says : Says blocks (state_of (reopened blocks c)) b
  mounted_says = subst (λ (z : Store). Says blocks (state_of z) b) (sym again) reopened-says

  tree_sound_lem : TreeSound blocks t st ≡ true
  unfolding TreeSound state_of closed
  tree_sound_lem =
      let e : book_of (state_of st) ≡ b = reopened-says.is in
      and_both (sound (node_limit blocks) (count_in (checkpoint_of st)) (book_of (state_of st)).table) _
      (rw (e, shut.count) (spells_sound (node_limit blocks) b.count b.table ps r.holds.spells r.holds.most))
      (and_both (three_pages (count_in (checkpoint_of st)) st) _
      (three_all (count_in (checkpoint_of st)) st (closed t s).run.nodes shut.keeps.good.invariant.lean (omega (arith, shut.count, shut.keeps.nodes)))
      (and_both (in_range t) (scores_below (limit t) (scores_in (checkpoint_of st))) (ranged_in_range t r.ranged)
      (rw (shut.checkpoint, scores_in-checkpoint-pages t (scores_from 0 b.count s.score))
      (scores-all (limit t) 0 b.count s.score (λ n l. rw (score_of_lem n (omega arith)) (r.scored n (omega arith)))))))

  -- THE POOL LEFT BEHIND passes every question but the eighth.
  pub closed-sealed : Sealed blocks c t
  unfolding closed
  closed-sealed =
      record {
        pass = shut.passes;
        complete = rw again shut.complete;
        tariff = rw again shut.tariff;
        sound = rw again tree_sound_lem;
      }

  -- Its checkpoint has the scores by ascending id.
  pub closed-checkpoint : checkpoint_of (reopened blocks c) ≡ checkpoint_pages t (scores_from 0 b.count s.score)
  unfolding closed
  closed-checkpoint = ap checkpoint_of again ∙ shut.checkpoint

  -- The state that the next mount finds is worth as much as this one.
  pub closed_ready : Ready blocks t (state_of (reopened blocks c)) b ps
  closed_ready = record { says = mounted_says; holds = r.holds; ranged = r.ranged; scored = r.scored }
