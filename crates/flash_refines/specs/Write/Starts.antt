-- A FRESH START in log mode by the code is the store's: the whole content of a node, there or new, under a new version. Assumes nothing.
use Rattle.std.specs.Prelude.{◌≡◌, refl, ◌⊎◌, length, set, slice_get}
use Rattle.std.proofs.Math.Path.{sym, ap, subst}
use Rattle.std.proofs.Common.{◌∙◌, inl, inr, arith, get_or-set_same, get_or-set_other}
use mathlib.Core.List.{List, ◌∷◌, map}
use Prim.Native.Nat.{ℕ, suc, ◌+◌, ◌*◌, ◌≤◌, ◌<◌, max}
use Rattle.std.proofs.Math.ListN.{length-set}
use Rattle.laws.specs.Order.{eq_or}
use Rattle.laws.specs.Counts.{tally}
use Rattle.laws.specs.Lay.{part}
use Rattle.laws.specs.BigEndian.{number_at}
use Rattle.laws.specs.Update.{update, update_same, update_other}
use Rattle.laws.specs.Options.{test}
use Rattle.layout.specs.Layout.{most_entries, node_limit, bound32}
use Rattle.account.specs.declared.Mode.{Mode}
use Rattle.account.specs.declared.Mode.TheVariants.{Log}
use Rattle.node.specs.Node.{Node}
use Rattle.node.specs.Change.{Change, changes_of}
use Rattle.node.specs.Replay.{step}
use Rattle.page.specs.Image.{image}
use Rattle.store.specs.View.{greatest}
use Rattle.store.specs.View as View
use Rattle.store.specs.Pool.{block}
use Rattle.store.specs.Store.{Store, view}
use Rattle.store.specs.Live.{carries, no_checkpoint}
use Rattle.store.specs.Write.{start}
use Rattle.store.specs.Run.{Run, begin}
use Rattle.store_laws.specs.Changes.{Same, Now}
use Rattle.store_laws.specs.Contents.{Spelled, spelled}
use Rattle.store_laws.specs.Placing.{Invariant}
use Rattle.store_laws.proofs.Placing.{start_now, start-other, start_invariant}
use Rattle.store_laws.proofs.Good.{begin_mode}
use Rattle.flash_rows.specs.Row.{no_row, decode}
use Rattle.flash_rows.specs.Step.{names, fresh}
use Rattle.flash_rows.specs.declared.Row.{Row}
use Rattle.flash_allocate.specs.declared.state.State.{State}
use Rattle.flash_allocate.specs.World.{World, world}
use Rattle.flash_log.specs.Entry.{Logged, besides, append_all}
use Rattle.flash_write.specs.Group.{begun, started, restart, start_next}
use Rattle.flash_write.specs.Group as Code
use Rattle.flash_refines.specs.Store.Mirror.{row_at, RowsName, RowMode, RowsSay, Mirrors}
use Rattle.flash_refines.specs.Store.RowModes.{same_row_mode}
use Rattle.flash_refines.specs.Store.Notes.{names_fresh}
use Rattle.flash_refines.specs.Store.Placed.{next_number_is}
use Rattle.flash_refines.specs.Store.Buffer.{Buffered, append_all-is, only_buffer, append_all-holds}
use Rattle.flash_refines.specs.Store.Follows.{Follows, Writable}
use Rattle.flash_refines.specs.Store.Followed.{blocks_are, owners_open}
use Rattle.flash_refines.specs.Store.Ownership.{none_owned, owned_same, carried_few}
use Rattle.flash_allocate.specs.State.{with_entries, next_sequence, with_sequence, with_nodes}

-- Node n, whose row was this, begins anew with these changes; there are N' nodes then, and their scores are score'.
module _ {B : ℕ} {score : ℕ → ℕ} {w : World} {run : Run} (b : Writable B run) (f : Follows score w run) (n : ℕ) (c : Change) (cs : List Change)
    (fits : length (c ∷ cs) + length run.now.buffer ≤ most_entries) (row : Row) (N' : ℕ) (count : N' ≡ max run.nodes (suc n)) (next : n ≤ run.nodes)
    (limit : N' ≤ node_limit B) (score' : ℕ → ℕ) (own-score : row.score ≡ score' n)
    (other-score : (m : ℕ) → m < N' → (n ≡ m → ⊥) → score' m ≡ score m) where
  abbrev st : Store
  st = run.now

  abbrev v : ℕ
  v = suc st.last

  abbrev after : Store
  after = start n (c ∷ cs) st

  abbrev rows' : List Row
  rows' = set w.table.rows n (fresh v Log row)

  abbrev l' : Logged
  l' = append_all n v (c ∷ cs) (begun n row v w.table w.state)

  -- the same, but for the buffer
  abbrev holds : Logged
  holds = only_buffer n v (begun n row v w.table w.state) l'

  held : l' ≡ holds
  held = append_all-holds n v (c ∷ cs) (begun n row v w.table w.state)

  -- the world with this many nodes
  abbrev grown : Logged → World
  grown l = world w.pages l.table (with_nodes N' l.state)

  there : (m : ℕ) → m < N' → (n ≡ m → ⊥) → m < run.nodes
  there m l d = omega (arith, count)

  invariant : Invariant B N' no_checkpoint after
  invariant = start_invariant b.good.invariant n c cs N' there limit

  now : Now (view after) n v (map step (c ∷ cs)) 0 (map step (c ∷ cs))
  now = start_now b.good.invariant n c cs

  other : (m : ℕ) → (n ≡ m → ⊥) → Same (view st) (view after) m
  other m d = start-other b.good.invariant n c cs m d

  -- rows
  inside : N' ≤ length w.table.rows
  inside = omega (arith, f.table, blocks_are b f, b.good.invariant.blocks)

  row_here : row_at rows' n ≡ fresh v Log row
  row_here = get_or-set_same w.table.rows n (fresh v Log row) no_row (omega (arith, inside, count))

  row_other : (m : ℕ) → (n ≡ m → ⊥) → row_at rows' m ≡ row_at w.table.rows m
  row_other m d = get_or-set_other w.table.rows n m (fresh v Log row) no_row (λ e. d (sym e))

  -- no page carries the node
  nowhere : tally (carries (view after) n) st.blocks ≡ 0
  unfolding start
  nowhere = omega (arith, carried_few after invariant.rules n, now.pages)

  named : RowsName w.state.blocks N' (carries (view after)) rows' st.blocks
  named = record { long = rw (length-set w.table.rows n (fresh v Log row)) inside; each = λ m i q l li lq. each m i q l li lq (eq_or n m) }
    where
      each : (m i q : ℕ) → m < N' → i < w.state.blocks → q < 32 → (n ≡ m) ⊎ (n ≡ m → ⊥) →
          names (32 * i + q) (row_at rows' m) ≡ test (carries (view after) m) (slice_get (block st.blocks i) q)
      each m i q l li lq (inl e) =
          rw (← e)
          (ap (names (32 * i + q)) row_here ∙ names_fresh row v Log (32 * i + q) ∙
          sym (none_owned (carries (view after) n) st.blocks nowhere i q))
      each m i q l li lq (inr d) =
          ap (names (32 * i + q)) (row_other m d) ∙
          f.mirrors.names.each m i q (omega (arith, there m l d, f.nodes)) li lq ∙
          owned_same (view st) (view after) m (other m d).greatest (slice_get (block st.blocks i) q)

  says : RowsSay N' rows' after
  unfolding fresh start
  says = record { version = λ m l. version m l (eq_or n m); mode = λ m l. mode m l (eq_or n m); pages = λ m l. pages m l (eq_or n m) }
    where
      here : (m : ℕ) → m < N' → (n ≡ m → ⊥) → m < w.state.nodes
      here m l d = omega (arith, there m l d, f.nodes)

      version : (m : ℕ) → m < N' → (n ≡ m) ⊎ (n ≡ m → ⊥) → (row_at rows' m).version ≡ greatest (view after) m
      version m l (inl e) = rw (← e) (ap (λ (r : Row). r.version) row_here ∙ sym now.greatest)
      version m l (inr d) = ap (λ (r : Row). r.version) (row_other m d) ∙ f.mirrors.rows.version m (here m l d) ∙ sym (other m d).greatest

      mode : (m : ℕ) → m < N' → (n ≡ m) ⊎ (n ≡ m → ⊥) → RowMode (row_at rows' m).mode after m
      mode m l (inl e) =
          subst (λ (k : ℕ). RowMode (row_at rows' k).mode after k) e
          (subst (λ (k : Mode). RowMode k after n) (sym (ap (λ (r : Row). r.mode) row_here))
          (begin_mode b.good n c cs fits next (omega (arith, count))).none)
      mode m l (inr d) =
          subst (λ (k : Mode). RowMode k after m) (sym (ap (λ (r : Row). r.mode) (row_other m d)))
          (same_row_mode (row_at w.table.rows m).mode st after m (other m d).greatest refl (f.mirrors.rows.mode m (here m l d)))

      pages : (m : ℕ) → m < N' → (n ≡ m) ⊎ (n ≡ m → ⊥) → (row_at rows' m).pages ≡ View.pages (view after) m
      pages m l (inl e) = rw (← e) (ap (λ (r : Row). r.pages) row_here ∙ sym now.pages)
      pages m l (inr d) = ap (λ (r : Row). r.pages) (row_other m d) ∙ f.mirrors.rows.pages m (here m l d) ∙ sym (other m d).pages

  mirrored : Mirrors image (carries (view after)) no_checkpoint (grown holds) after
  unfolding start with_nodes with_sequence with_entries
  mirrored =
      record {
        pages = f.mirrors.pages;
        names = subst (λ (k : ℕ). RowsName w.state.blocks k (carries (view after)) rows' st.blocks) (omega (arith, f.no_checkpoint_page)) named;
        owners = owners_open N' w.state.checkpoint f.no_checkpoint_page after;
        rows = says;
        current = f.mirrors.current;
        fill = f.mirrors.fill;
        last = refl;
      }

  begin_follows : Follows score' (grown l') (begin n (c ∷ cs) run)
  unfolding start with_nodes with_sequence with_entries fresh
  begin_follows =
      subst (λ (l : Logged). Follows score' (grown l) (begin n (c ∷ cs) run)) (sym held)
      (record {
        table = omega (arith, length-set w.table.rows n (fresh v Log row), f.table);
        nodes = count;
        no_checkpoint_page = f.no_checkpoint_page;
        mirrors = mirrored;
        buffer = joined;
        scores = λ m l. score_of_lem m (omega (arith, count)) (eq_or n m);
      })
    where
      joined : Buffered l' after.buffer
      joined = append_all-is n v (c ∷ cs) (begun n row v w.table w.state) {es = st.buffer} f.buffer (omega arith)

      score_of_lem : (m : ℕ) → m < N' → (n ≡ m) ⊎ (n ≡ m → ⊥) → (row_at rows' m).score ≡ score' m
      score_of_lem m l (inl e) = rw (← e) (ap (λ (r : Row). r.score) row_here ∙ own-score)
      score_of_lem m l (inr d) = ap (λ (r : Row). r.score) (row_other m d) ∙ f.scores m (there m l d) ∙ sym (other-score m l d)

  -- the state's own count of nodes, where it stays
  count_stays : with_nodes w.state.nodes l'.state ≡ l'.state
  unfolding with_nodes with_sequence with_entries
  count_stays = ap (λ (l : Logged). with_nodes w.state.nodes l.state) held ∙ sym (ap (λ (l : Logged). l.state) held)

-- The same of a node's whole content, where the buffer has room for it.
module _ {B : ℕ} {score : ℕ → ℕ} {w : World} {run : Run} (b : Writable B run) (f : Follows score w run) (number : suc run.now.last < bound32) (x : Node)
    (fits : length (changes_of x) + length run.now.buffer ≤ most_entries) where
  s : Spelled x
  s = spelled x

  fits' : length (s.first ∷ s.rest) + length run.now.buffer ≤ most_entries
  fits' = omega (arith, ap length s.is)

  version : suc run.now.last ≡ next_sequence w.state.last
  version = sym (ap next_sequence f.mirrors.last ∙ next_number_is run.now.last number)

  -- A FRESH START of a node that is there follows the store's.
  pub restart_follows : (n : ℕ) → n < run.nodes → Follows score (restart n x w) (begin n (changes_of x) run)
  unfolding Code.start
  restart_follows n there =
      subst (λ (v : ℕ). Follows score (besides w.pages (started n row v x w.table w.state)) (begin n (changes_of x) run)) version
      (subst (λ (cs : List Change). Follows score (besides w.pages (append_all n v cs (begun n row v w.table w.state))) (begin n cs run)) (sym s.is)
      (subst (λ (t : State). Follows score (world w.pages (append_all n v (s.first ∷ s.rest) (begun n row v w.table w.state)).table t)
      (begin n (s.first ∷ s.rest) run))
      (count_stays b f n s.first s.rest fits' row w.state.nodes count next limit score (f.scores n there) (λ m l d. refl))
      (begin_follows b f n s.first s.rest fits' row w.state.nodes count next limit score (f.scores n there) (λ m l d. refl))))
    where
      v : ℕ
      v = suc run.now.last

      row : Row
      row = row_at w.table.rows n

      count : w.state.nodes ≡ max run.nodes (suc n)
      count = omega (arith, f.nodes)

      next : n ≤ run.nodes
      next = omega arith

      limit : w.state.nodes ≤ node_limit B
      limit = omega (arith, f.nodes, b.good.invariant.nodes)

  -- A NEW NODE, "in log mode, score 0", follows the store's.
  pub start_next_follows : suc run.nodes ≤ node_limit B → Follows (update score run.nodes 0) (start_next x w) (begin run.nodes (changes_of x) run)
  unfolding Code.start no_row decode number_at part
  start_next_follows limit =
      subst (λ (n : ℕ). Follows (update score n 0) (start_next x w) (begin n (changes_of x) run)) f.nodes
      (subst (λ (v : ℕ). Follows score' (grown_by n (started n no_row v x w.table w.state)) (begin n (changes_of x) run)) version
      (subst (λ (cs : List Change). Follows score' (grown_by n (append_all n v cs (begun n no_row v w.table w.state))) (begin n cs run))
      (sym s.is)
      (begin_follows b f n s.first s.rest fits' no_row (n + 1) (omega (arith, f.nodes)) (omega (arith, f.nodes)) (omega (arith, f.nodes)) score'
      (sym (update_same score n 0 n refl)) (λ m l d. update_other score n 0 m (λ e. d (sym e))))))
    where
      grown_by : ℕ → Logged → World
      grown_by n l = world w.pages l.table (with_nodes (n + 1) l.state)

      n : ℕ
      n = w.state.nodes

      v : ℕ
      v = suc run.now.last

      score' : ℕ → ℕ
      score' = update score n 0
