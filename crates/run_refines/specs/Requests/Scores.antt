-- A SCORE stored in a node's row: the world follows the run with that score, and says the same beside. Assumes nothing.
use Rattle.std.specs.Prelude.{◌≡◌, ◌⊎◌, List, ℕ, ◌<◌, length}
use Rattle.std.proofs.Math.Path.{refl}
use Rattle.std.proofs.Common.{sym, ap, ◌∙◌, subst, inl, inr, arith}
use Rattle.std.proofs.Math.ListN.{length-set}
use Rattle.std.proofs.Math.Seq.{get_or-set_same, get_or-set_other}
use Rattle.laws.specs.Order.{eq_or}
use Rattle.laws.specs.Update.{update, update_same, update_other}
use Rattle.account.specs.declared.Mode.{Mode}
use Rattle.store.specs.Run.{Run}
use Rattle.flash_rows.specs.Row.{no_row}
use Rattle.flash_rows.specs.Step.{names, scored, score-scored}
use Rattle.flash_rows.specs.declared.Row.{Row}
use Rattle.flash_rows.specs.Worktable.{Worktable}
use Rattle.flash_allocate.specs.World.{World, world}
use Rattle.flash_refines.specs.Store.Mirror.{row_at, RowMode}
use Rattle.flash_refines.specs.Store.Buffer.{buffer_same}
use Rattle.flash_refines.specs.Store.Follows.{Follows}
use Rattle.run_serve.specs.Settle.{rescored}

-- What a row says beside its score.
module _ (t : Worktable) (n score : ℕ) where
  length-rescored : length (rescored n score t).rows ≡ length t.rows
  unfolding rescored
  length-rescored = length-set t.rows n (scored score (row_at t.rows n))

  same_buffer : (rescored n score t).buffer ≡ t.buffer
  unfolding rescored
  same_buffer = refl

  row_here : n < length t.rows → row_at (rescored n score t).rows n ≡ scored score (row_at t.rows n)
  unfolding rescored
  row_here l = get_or-set_same t.rows n (scored score (row_at t.rows n)) no_row l

  row_other : (m : ℕ) → (n ≡ m → ⊥) → row_at (rescored n score t).rows m ≡ row_at t.rows m
  unfolding rescored
  row_other m d = get_or-set_other t.rows n m (scored score (row_at t.rows n)) no_row (λ e. d (sym e))

  row-says : {A : Type 0} (f : Row → A) → ((r : Row) → f (scored score r) ≡ f r) → n < length t.rows → (m : ℕ) → f (row_at (rescored n score t).rows m) ≡
      f (row_at t.rows m)
  row-says f same l m = go (eq_or n m)
    where
      go : (n ≡ m) ⊎ (n ≡ m → ⊥) → f (row_at (rescored n score t).rows m) ≡ f (row_at t.rows m)
      go (inl e) = subst (λ (k : ℕ). f (row_at (rescored n score t).rows k) ≡ f (row_at t.rows k)) e (ap f (row_here l) ∙ same (row_at t.rows n))
      go (inr d) = ap f (row_other m d)

names-scored : (score q : ℕ) (r : Row) → names q (scored score r) ≡ names q r
unfolding names scored
names-scored score q r = refl

version-scored : (score : ℕ) (r : Row) → (scored score r).version ≡ r.version
unfolding scored
version-scored score r = refl

mode_scored : (score : ℕ) (r : Row) → (scored score r).mode ≡ r.mode
unfolding scored
mode_scored score r = refl

pages-scored : (score : ℕ) (r : Row) → (scored score r).pages ≡ r.pages
unfolding scored
pages-scored score r = refl

module _ {score : ℕ → ℕ} {w : World} {run : Run} (f : Follows score w run) (n : ℕ) (there : n < run.nodes) (new : ℕ) where
  abbrev rows' : List Row
  rows' = (rescored n new w.table).rows

  inside : n < length w.table.rows
  inside = omega (arith, f.mirrors.names.long, f.nodes)

  scores : (m : ℕ) → m < run.nodes → (n ≡ m) ⊎ (n ≡ m → ⊥) → (row_at rows' m).score ≡ update score n new m
  scores m l (inl e) =
      subst (λ (k : ℕ). (row_at rows' k).score ≡ update score n new k) e
      (ap (λ (r : Row). r.score) (row_here w.table n new inside) ∙ score-scored new (row_at w.table.rows n) ∙ sym (update_same score n new n refl))
  scores m l (inr d) =
      ap (λ (r : Row). r.score) (row_other w.table n new m d) ∙ f.scores m l ∙ sym (update_other score n new m (λ e. d (sym e)))

  -- THE SCORE STORED
  pub rescored_follows : Follows (update score n new) (world w.pages (rescored n new w.table) w.state) run
  rescored_follows =
      let m = f.mirrors in
      record {
        table = omega (arith, length-rescored w.table n new, f.table);
        nodes = f.nodes;
        no_checkpoint_page = f.no_checkpoint_page;
        mirrors =
            record {
              pages = m.pages;
              names =
                  record {
                    long = rw (length-rescored w.table n new) m.names.long;
                    each = λ k i q l li lq. row-says w.table n new (names _) (names-scored new _) inside k ∙ m.names.each k i q l li lq;
                  };
              owners = m.owners;
              rows =
                  record {
                    version = λ k l. row-says w.table n new (λ (r : Row). r.version) (version-scored new) inside k ∙ m.rows.version k l;
                    mode =
                        λ k l.
                        subst (λ (z : Mode). RowMode z run.now k) (sym (row-says w.table n new (λ (r : Row). r.mode) (mode_scored new) inside k))
                        (m.rows.mode k l);
                    pages = λ k l. row-says w.table n new (λ (r : Row). r.pages) (pages-scored new) inside k ∙ m.rows.pages k l;
                  };
              current = m.current;
              fill = m.fill;
              last = m.last;
            };
        buffer = buffer_same f.buffer refl (same_buffer w.table n new);
        scores = λ m l. scores m l (eq_or n m);
      }
