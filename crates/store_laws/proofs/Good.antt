-- A run in good order, and that every write of a run leaves it so: the node written has exactly what was written and the mode
-- written, every other node stays, and each state passed keeps the three-page rule. Assumes nothing.
use Rattle.std.specs.Prelude.{◌≡◌, refl, Bool, true, false, not, ◌⊎◌, ℕ, suc, ◌+◌, ◌≤◌, ◌<◌, max, leb, length}
use Rattle.std.proofs.Common.{sym, ◌∙◌, subst, inl, inr, leb-true, leb-false}
use Rattle.std.proofs.Math.Path.{ap}
use mathlib.Core.List.{List, [], ◌∷◌, ◌++◌, map}
use native.Mathlib.Omega.{arith}
use Rattle.std.proofs.Math.ListN.{length-append}
use Rattle.laws.specs.Counts.{bit_le_one, empty, tally}
use Rattle.laws.specs.Every.{Every, every_append, every_map}
use Rattle.layout.specs.Layout.{most_entries, most_log_pages, node_limit}
use Rattle.account.specs.declared.Mode.{Mode}
use Rattle.account.specs.declared.Mode.TheVariants.{Log, Disk}
use Rattle.node.specs.Node.{Node}
use Rattle.node.specs.Change.{Change, changes_of}
use Rattle.node.specs.Replay.{Piece, step}
use Rattle.node.specs.Replay as Replay
use Rattle.page.specs.Page.{Entry, Content, Page, log, whole}
use Rattle.store.specs.Item.{entries}
use Rattle.store.specs.View.{greatest, pieces, buffered, pages}
use Rattle.store.specs.Pool.{numbered}
use Rattle.store.specs.Store.{Store, view}
use Rattle.store.specs.Live.{no_checkpoint}
use Rattle.store.specs.Write.{place, flush, enter, start, node_page}
use Rattle.store.specs.Run.{Run, moment, write, flush_run, room_by, make_room, begin, write_group, edit_by, write_edit, write_node}
use Rattle.store_laws.specs.ItemLaws.{length-entries}
use Rattle.store_laws.specs.Changes.{Same, Now, Lean}
use Rattle.store_laws.specs.BlockRules.{numbered-none}
use Rattle.store_laws.specs.Placing.{Invariant}
use Rattle.store_laws.proofs.Placing.{place-find, flush_now, flush_invariant, page_now, page_other, page_invariant, enter_now, enter-other, enter_invariant, start_now, start-other, start_invariant}
use Rattle.store_laws.specs.Versions.{InLog}
use Rattle.store_laws.proofs.Versions.{flush_versions, page_versions, enter_versions, start_versions, place_mode, same_mode_lem}
use Rattle.store_laws.proofs.Passed.{written_lean}
use Rattle.store_laws.specs.Contents.{Spelled, spelled}
use Rattle.store_laws.specs.Good.{LeanAt, Good, Keep, Done, Roomy}

pub keep_refl : (a : Store) (m : ℕ) → Keep a a m
keep_refl a m = record { greatest = refl; pieces = refl; mode = λ x h. h }

pub keep_trans : {a b c : Store} {m : ℕ} → Keep a b m → Keep b c m → Keep a c m
keep_trans p q =
    record { greatest = q.greatest ∙ p.greatest; pieces = q.pieces ∙ p.pieces; mode = λ x h. q.mode x (p.mode x h) }

-- A node seen as before keeps its mode too, where the blocks stay and where a page is placed.
same_keep : (a b : Store) (m : ℕ) → Same (view a) (view b) m → b.blocks ≡ a.blocks → Keep a b m
same_keep a b m o e =
    record { greatest = o.greatest; pieces = o.pieces; mode = λ x h. same_mode_lem x a b m o.greatest e h }

pub place-keep : {B N : ℕ} {closing : Page → Bool} {st : Store} (v : Invariant B N closing st) (c : Content) (rest : List Entry) (m : ℕ) → m < N →
    greatest (view (place closing N c rest st)) m ≡ greatest (view st) m → pieces (view (place closing N c rest st)) m ≡ pieces (view st) m →
    Keep st (place closing N c rest st) m
place-keep v c rest m l g x = record { greatest = g; pieces = x; mode = λ y h. place_mode v m y c rest l g h }

module _ {B : ℕ} {run : Run} (v : Good B run) where
  -- the states passed while a page is written
  write_passed : (c : Content) (rest : List Entry) → Lean run.nodes (view (place no_checkpoint run.nodes c rest run.now)) →
      Every LeanAt (write no_checkpoint c rest run).passed
  unfolding write
  write_passed c rest t =
      every_append v.passed (every_map (moment run.nodes) (written_lean v.invariant c rest t))

  -- the buffer is written out
  pub flush_run_good : Good B (flush_run run)
  unfolding write flush place
  flush_run_good =
      record {
        invariant = flush_invariant v.invariant refl;
        versions = flush_versions v.invariant v.versions;
        small = omega arith;
        passed = write_passed (log run.now.buffer) [] (flush_invariant v.invariant refl).lean;
      }

  pub flush_run-keep : (m : ℕ) → m < run.nodes → Keep run.now (flush_run run).now m
  unfolding write flush
  flush_run-keep m l =
      let a = flush_now v.invariant m l in
      place-keep v.invariant (log run.now.buffer) [] m l a.greatest a.pieces

  flush_run-pages : (m : ℕ) → m < run.nodes → pages (view (flush_run run).now) m ≤ suc (pages (view run.now) m)
  unfolding write flush
  flush_run-pages m l =
      let a = flush_now v.invariant m l in
      omega (arith, a.pages, bit_le_one (not (empty (buffered (view run.now) m))))

pub make_room-roomy : {B : ℕ} {run : Run} (v : Good B run) (k : ℕ) → k ≤ most_entries → Roomy B k run (make_room k run)
unfolding make_room write place
make_room-roomy {B} {run} v k l = go (leb (k + length run.now.buffer) most_entries) refl
  where
    go : (t : Bool) → leb (k + length run.now.buffer) most_entries ≡ t → Roomy B k run (room_by t run)
    go true e =
        record {
          good = v;
          nodes = refl;
          fits = leb-true _ _ e;
          keep = λ m q. keep_refl run.now m;
          pages = λ m q. omega arith;
        }
    go false e =
        record { good = flush_run_good v; nodes = refl; fits = omega arith; keep = flush_run-keep v; pages = flush_run-pages v }

-- A fresh start that fits; the node may be the next one.
module _ {B : ℕ} {run : Run} (v : Good B run) (n : ℕ) (c : Change) (cs : List Change) (fits : length (c ∷ cs) + length run.now.buffer ≤ most_entries)
    (next-or-there : n ≤ run.nodes) (limit : max run.nodes (suc n) ≤ node_limit B) where
  begin_invariant : Invariant B (max run.nodes (suc n)) no_checkpoint (start n (c ∷ cs) run.now)
  begin_invariant = start_invariant v.invariant n c cs (max run.nodes (suc n)) (λ m k h. omega arith) limit

  begin_good : Good B (begin n (c ∷ cs) run)
  unfolding start
  begin_good =
      record {
        invariant = begin_invariant;
        versions = start_versions v.invariant n (c ∷ cs) v.versions;
        small =
            omega (
              arith,
              length-append run.now.buffer (entries n (suc run.now.last) (c ∷ cs)),
              length-entries n (suc run.now.last) (c ∷ cs),
            );
        passed = v.passed;
      }

  pub begin_mode : InLog (start n (c ∷ cs) run.now) n
  unfolding start
  begin_mode =
      let now = start_now v.invariant n c cs in
      record {
        none =
            ap (λ z. tally (numbered z) run.now.blocks) now.greatest ∙
            numbered-none run.now.last run.now.blocks v.invariant.rules.within (suc run.now.last) (omega arith);
        some = omega (arith, now.greatest);
      }

  begin-done : Done B n run (begin n (c ∷ cs) run) (map step (c ∷ cs)) Log
  unfolding start
  begin-done =
      record {
        good = begin_good;
        own = (start_now v.invariant n c cs).pieces;
        mode = begin_mode;
        others = λ m k h. omega arith;
        keep = λ m k h. same_keep run.now (start n (c ∷ cs) run.now) m (start-other v.invariant n c cs m h) refl;
      }

-- a write after room was made
after-room : {B k n : ℕ} {run room run' : Run} {xs : List Piece} {mode : Mode} → Roomy B k run room → Done B n room run' xs mode →
    Done B n run run' xs mode
after-room r d =
    record {
      good = d.good;
      own = d.own;
      mode = d.mode;
      others = λ m k h. omega (arith, r.nodes, d.others m k h);
      keep = λ m k h. keep_trans (r.keep m k) (d.keep m (omega (arith, r.nodes)) h);
    }

-- A GROUP: the whole content of x under a new version
pub write_group-done : {B : ℕ} {run : Run} (v : Good B run) (n : ℕ) (x : Node) → length (changes_of x) ≤ most_entries → n ≤ run.nodes →
    max run.nodes (suc n) ≤ node_limit B → Done B n run (write_group n x run) (map step (changes_of x)) Log
unfolding write_group
write_group-done {B} {run} v n x f l b =
    subst (λ cs. Done B n run (begin n cs (make_room (length cs) run)) (map step cs) Log) (sym s.is)
    (after-room r (begin-done r.good n s.first s.rest r.fits (omega (arith, r.nodes)) (rw r.nodes b)))
  where
    s : Spelled x
    s = spelled x

    r : Roomy B (length ((spelled x).first ∷ (spelled x).rest)) run (make_room (length ((spelled x).first ∷ (spelled x).rest)) run)
    r =
        make_room-roomy v (length ((spelled x).first ∷ (spelled x).rest))
        (subst (λ cs. length cs ≤ most_entries) (spelled x).is f)

-- after it the node lies on no page
pub write_group-pages : {B : ℕ} {run : Run} (v : Good B run) (n : ℕ) (x : Node) → length (changes_of x) ≤ most_entries →
    pages (view (write_group n x run).now) n ≡ 0
unfolding write_group
write_group-pages {B} {run} v n x f =
    subst (λ cs. pages (view (start n cs (make_room (length cs) run).now)) n ≡ 0) (sym (spelled x).is)
    (start_now r.good.invariant n (spelled x).first (spelled x).rest).pages
  where
    r : Roomy B (length ((spelled x).first ∷ (spelled x).rest)) run (make_room (length ((spelled x).first ∷ (spelled x).rest)) run)
    r =
        make_room-roomy v (length ((spelled x).first ∷ (spelled x).rest))
        (subst (λ cs. length cs ≤ most_entries) (spelled x).is f)

-- An entry that fits.
enter-done : {B : ℕ} {run : Run} (v : Good B run) (n : ℕ) (c : Change) (x : Node) → 1 + length run.now.buffer ≤ most_entries → n < run.nodes →
    InLog run.now n → pages (view run.now) n < most_log_pages →
    Done B n run (edit_by false n c x run) (pieces (view run.now) n ++ (step c ∷ [])) Log
unfolding enter
enter-done {B} {run} v n c x f l lg p =
    record {
      good =
          record {
            invariant = enter_invariant v.invariant n c p;
            versions = enter_versions v.invariant n c lg v.versions;
            small = omega (arith, length-append run.now.buffer (entries n (greatest (view run.now) n) (c ∷ [])));
            passed = v.passed;
          };
      own = now.pieces;
      mode = same_mode_lem Log run.now (enter n c run.now) n now.greatest refl lg;
      others = λ m k h. k;
      keep = λ m k h. same_keep run.now (enter n c run.now) m (enter-other v.invariant n c m h) refl;
    }
  where
    now : Now (view (enter n c run.now)) n (greatest (view run.now) n) (pieces (view run.now) n ++ (step c ∷ []))
        (pages (view run.now) n) (buffered (view run.now) n ++ (step c ∷ []))
    now = enter_now v.invariant n c

-- AN EDIT in log mode: one entry more, or the whole edited content
pub write_edit-done : {B : ℕ} {run : Run} (v : Good B run) (n : ℕ) (c : Change) (x : Node) → length (changes_of x) ≤ most_entries → n < run.nodes →
    InLog run.now n →
    Done B n run (write_edit n c x run) (pieces (view run.now) n ++ (step c ∷ [])) Log ⊎
    Done B n run (write_edit n c x run) (map step (changes_of x)) Log
unfolding write_edit
write_edit-done {B} {run} v n c x f l lg = go (leb most_log_pages (pages (view (make_room 1 run).now) n)) refl
  where
    r : Roomy B 1 run (make_room 1 run)
    r = make_room-roomy v 1 (omega arith)

    go : (t : Bool) → leb most_log_pages (pages (view (make_room 1 run).now) n) ≡ t →
        Done B n run (edit_by t n c x (make_room 1 run)) (pieces (view run.now) n ++ (step c ∷ [])) Log ⊎
        Done B n run (edit_by t n c x (make_room 1 run)) (map step (changes_of x)) Log
    go true q =
        inr (after-room r (write_group-done r.good n x f (omega (arith, r.nodes)) (omega (arith, r.nodes, v.invariant.nodes))))
    go false q =
        inl
        (subst (λ xs. Done B n run (edit_by false n c x (make_room 1 run)) (xs ++ (step c ∷ [])) Log) (r.keep n l).pieces
        (after-room r
        (enter-done r.good n c x r.fits (omega (arith, r.nodes)) ((r.keep n l).mode Log lg)
        (leb-false most_log_pages (pages (view (make_room 1 run).now) n) q))))

-- A NODE PAGE
pub write_node-done : {B : ℕ} {run : Run} (v : Good B run) (n : ℕ) (x : Node) → n < run.nodes →
    Done B n run (write_node n x run) (Replay.whole x ∷ []) Disk
unfolding write node_page place
write_node-done {B} {run} v n x l =
    record {
      good =
          record {
            invariant = page_invariant v.invariant n x refl;
            versions = page_versions v.invariant n x v.versions;
            small = rest-small;
            passed = write_passed v (whole n x) run.now.buffer (page_invariant v.invariant n x refl).lean;
          };
      own = now.pieces;
      mode = record { node = x; page = rw now.greatest (place-find v.invariant (whole n x) run.now.buffer) };
      others = λ m k h. k;
      keep =
          λ m k h.
          let o = page_other v.invariant n x m k h in
          place-keep v.invariant (whole n x) run.now.buffer m k o.greatest o.pieces;
    }
  where
    now : Now (view (place no_checkpoint run.nodes (whole n x) run.now.buffer run.now)) n (suc run.now.last) (Replay.whole x ∷ []) 1 []
    now = page_now v.invariant n x

    rest-small : length (place no_checkpoint run.nodes (whole n x) run.now.buffer run.now).buffer ≤ most_entries
    rest-small = v.small
