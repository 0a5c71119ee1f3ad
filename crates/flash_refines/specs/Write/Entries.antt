-- ONE ENTRY appended by the code is the store's. Assumes nothing.
use Rattle.std.specs.Prelude.{◌≡◌, ◌⊎◌, [], ◌∷◌, ◌++◌, ℕ, ◌+◌, ◌≤◌, ◌<◌, length, slice_get}
use Rattle.std.proofs.Math.Path.{refl, sym, subst}
use Rattle.std.proofs.Common.{◌∙◌, inl, inr, arith}
use Rattle.std.proofs.Math.Bool.{false}
use Rattle.laws.specs.Order.{eq_or}
use Rattle.layout.specs.Layout.{most_entries}
use Rattle.node.specs.Node.{Node}
use Rattle.node.specs.Change.{Change}
use Rattle.store.specs.View.{greatest}
use Rattle.store.specs.View as View
use Rattle.store.specs.Pool.{block}
use Rattle.store.specs.Store.{Store, view}
use Rattle.store.specs.Live.{carries}
use Rattle.store.specs.Write.{enter}
use Rattle.store.specs.Run.{Run, edit_by}
use Rattle.store_laws.proofs.Placing.{enter_now, enter-other}
use Rattle.flash_allocate.specs.World.{World}
use Rattle.flash_log.specs.Entry.{besides, logged, Logged, entry_of, append}
use Rattle.flash_refines.specs.Store.Mirror.{row_at, RowsName, RowsSay}
use Rattle.flash_refines.specs.Store.RowModes.{same_row_mode}
use Rattle.flash_refines.specs.Store.Buffer.{Buffered, append-is, append-holds}
use Rattle.flash_refines.specs.Store.Follows.{Follows, Writable}
use Rattle.flash_refines.specs.Store.Followed.{owners_open}
use Rattle.flash_refines.specs.Store.Ownership.{owned_same}
use Rattle.flash_allocate.specs.State.{with_entries}

module _ {B : ℕ} {score : ℕ → ℕ} {w : World} {run : Run} (b : Writable B run) (f : Follows score w run) (n : ℕ) (there : n < run.nodes) (c : Change)
    (fits : 1 + length run.now.buffer ≤ most_entries) where
  abbrev st : Store
  st = run.now

  abbrev after : Store
  after = enter n c st

  abbrev v : ℕ
  v = (row_at w.table.rows n).version

  -- every node has its version, and so the same pages
  version_same : (m : ℕ) → greatest (view after) m ≡ greatest (view st) m
  version_same m = go (eq_or n m)
    where
      go : (n ≡ m) ⊎ (n ≡ m → ⊥) → greatest (view after) m ≡ greatest (view st) m
      go (inl e) = rw (← e) (enter_now b.good.invariant n c).greatest
      go (inr d) = (enter-other b.good.invariant n c m d).greatest

  pages_same : (m : ℕ) → View.pages (view after) m ≡ View.pages (view st) m
  pages_same m = go (eq_or n m)
    where
      go : (n ≡ m) ⊎ (n ≡ m → ⊥) → View.pages (view after) m ≡ View.pages (view st) m
      go (inl e) = rw (← e) (enter_now b.good.invariant n c).pages
      go (inr d) = (enter-other b.good.invariant n c m d).pages

  named : RowsName w.state.blocks (w.state.nodes + w.state.checkpoint) (carries (view after)) w.table.rows st.blocks
  named =
      record {
        long = f.mirrors.names.long;
        each = λ m i q l li lq.
            f.mirrors.names.each m i q l li lq ∙
            owned_same (view st) (view after) m (version_same m) (slice_get (block st.blocks i) q);
      }

  says : RowsSay w.state.nodes w.table.rows after
  unfolding enter
  says =
      record {
        version = λ m l. f.mirrors.rows.version m l ∙ sym (version_same m);
        mode = λ m l. same_row_mode (row_at w.table.rows m).mode st after m (version_same m) refl (f.mirrors.rows.mode m l);
        pages = λ m l. f.mirrors.rows.pages m l ∙ sym (pages_same m);
      }

  -- THE ENTRY follows the store's.
  pub enter_follows : (x : Node) → Follows score (besides w.pages (append n v c (logged w.table w.state))) (edit_by false n c x run)
  unfolding enter with_entries
  enter_follows x =
      subst (λ (l : Logged). Follows score (besides w.pages l) (edit_by false n c x run)) (sym (append-holds n v c (logged w.table w.state)))
      (record {
        table = f.table;
        nodes = f.nodes;
        no_checkpoint_page = f.no_checkpoint_page;
        mirrors =
            record {
              pages = f.mirrors.pages;
              names = named;
              owners = owners_open w.state.nodes w.state.checkpoint f.no_checkpoint_page after;
              rows = says;
              current = f.mirrors.current;
              fill = f.mirrors.fill;
              last = f.mirrors.last;
            };
        buffer =
            subst (λ (k : ℕ). Buffered (append n v c (logged w.table w.state)) (st.buffer ++ (entry_of n k c ∷ [])))
            (f.mirrors.rows.version n (omega (arith, f.nodes)))
            joined;
        scores = f.scores;
      })
    where
      joined : Buffered (append n v c (logged w.table w.state)) (st.buffer ++ (entry_of n v c ∷ []))
      joined = append-is n v c (logged w.table w.state) {es = st.buffer} f.buffer (omega arith)
