-- "Pools with any order still open" (document 02, P1): two pools that differ in the order of their newest checkpoint's scores alone are asked the same
-- questions with the same answers, and stand with the same tariff, book and map. Assumes nothing.
use Rattle.std.specs.Prelude.{◌≡◌, Bool, ◌⊎◌, List, [], ◌∷◌, ℕ, zero, suc, ◌+◌, ◌/◌, ◌≤◌, ◌<◌, eqb, leb, length, Option, Some}
use Rattle.std.proofs.Math.Path.{refl, sym, ap, ap₂, fun_ext}
use Rattle.std.proofs.Common.{◌∙◌, subst, inl, inr, arith, ne_eqb, ltb-true, lt-ltb, le-ltb, le-leb}
use Rattle.std.proofs.Math.Bool.{true, false, ◌&&◌}
use Rattle.std.proofs.Math.Dec.{ltb}
use Rattle.std.proofs.lemmas.Bool.{lt-leb}
use Rattle.laws.specs.Tests.{choose}
use Rattle.laws.specs.Order.{le_or}
use Rattle.laws.specs.Counts.{bit, count, Reordered}
use Rattle.laws.specs.BigEndian.{Bytes}
use Rattle.laws.specs.Options.{some_same}
use Rattle.layout.specs.Layout.{block_bytes, node_limit, most_log_pages, last_sequence}
use Rattle.account.specs.declared.Tariff.{Tariff}
use Rattle.account.specs.Serve.{fresh}
use Rattle.account.specs.Tariff.{limit}
use Rattle.account.specs.Range.{in_range}
use Rattle.pairs.specs.Pairs.{Pair}
use Rattle.node.specs.Node.{Node}
use Rattle.node.specs.Replay.{replay}
use Rattle.page.specs.Page.{Score}
use Rattle.tree.specs.Sound.{sound}
use Rattle.tree.specs.Spells.{map_of}
use Rattle.tree_laws.specs.SoundLaws.{map_unique}
use Rattle.store.specs.View.{View, pieces, pages}
use Rattle.store.specs.Store.{Store, view, draft_of, node_in, node_of, mode_of, no_node}
use Rattle.store.specs.Checkpoint.{CheckpointPage, checkpoint_of, scores_in, count_in, score_in, complete}
use Rattle.store_laws.specs.ScoreOrder.{ReorderedSet, complete_reordered, score_reordered}
use Rattle.store.specs.Reopen.{Cells, reopened}
use Rattle.store_laws.specs.Unscored.{unscored_cells, Alike, alike}
use Rattle.book.specs.Book.{Book}
use Rattle.model.specs.State.{book_of}
use Rattle.model.specs.Mount.{state_of, three_pages, scores_below, TreeSound, numbers_left}
use Rattle.model.specs.Bytes.{cells_of}
use Rattle.model.specs.Pool.{blocks_of, pool_length}
use Rattle.model.specs.PoolLaws.{is-pool}
use Rattle.model.specs.Questions.{asked, of_pages, of_pool}
use Rattle.demands.specs.Mount.{Sealed, Ready, sealed_ready}
use Rattle.demands.specs.OneCall.{OpenPool}

-- TWO POOLS THAT DIFFER IN THE ORDER OF SCORES ALONE, both made of bytes and of one length.
pub record ReorderedPool (pool pool' : List ℕ) : Type 0 where
  pub bytes : Bytes pool'
  pub length : length pool ≡ length pool'
  pub pages : Cells
  pub pages' : Cells
  pub reads : cells_of pool ≡ Some pages
  pub reads' : cells_of pool' ≡ Some pages'
  -- page for page they are the same but for fields 14 ..
  pub same : unscored_cells pages ≡ unscored_cells pages'
  -- .. of which the newest checkpoints have the same, in whatever order, on whichever of its pages
  pub scores :
      Reordered (scores_in (checkpoint_of (reopened (blocks_of pool) pages))) (scores_in (checkpoint_of (reopened (blocks_of pool) pages')))

-- What a store says of contents follows from its view.
node_by-view : (a b : Store) → view a ≡ view b → (n : ℕ) → node_of a n ≡ node_of b n
unfolding node_of draft_of
node_by-view a b e n = ap (λ (w : View). node_in (replay (pieces w n))) e

three_by-view : (a b : Store) → view a ≡ view b → (n : ℕ) → three_pages n a ≡ three_pages n b
unfolding three_pages
three_by-view a b e zero = refl
three_by-view a b e (suc n) = ap₂ ◌&&◌ (ap (λ (w : View). leb (pages w n) most_log_pages) e) (three_by-view a b e n)

-- The scores are below a limit where none is at it or over it: their order does not matter.
abbrev pub at_limit : ℕ → Score → Bool
at_limit most x = leb most x.score

pub below_counts : (most : ℕ) (xs : List Score) → scores_below most xs ≡ eqb (count (at_limit most) xs) 0
unfolding scores_below
below_counts most [] = refl
below_counts most (x ∷ xs) = ap (λ (z : Bool). ltb x.score most && z) (below_counts most xs) ∙ go (le_or most x.score) (count (at_limit most) xs)
  where
    go : (most ≤ x.score) ⊎ (x.score < most) → (n : ℕ) → (ltb x.score most && eqb n 0) ≡ eqb (bit (leb most x.score) + n) 0
    go (inl l) n = rw (le-ltb x.score most l, le-leb most x.score l) (sym (ne_eqb (1 + n) 0 (λ e. omega arith)))
    go (inr l) n = let e : n ≡ 0 + n = omega arith in rw (lt-ltb x.score most l, lt-leb most x.score l) (ap (λ (z : ℕ). eqb z 0) e)

below_reordered : (most : ℕ) (xs ys : List Score) → Reordered xs ys → scores_below most xs ≡ scores_below most ys
below_reordered most xs ys r = below_counts most xs ∙ ap (λ (n : ℕ). eqb n 0) (r (at_limit most)) ∙ sym (below_counts most ys)

module _ {pool pool' : List ℕ} (r : ReorderedPool pool pool') where
  abbrev B : ℕ
  B = blocks_of pool

  abbrev st : Store
  st = reopened B r.pages

  abbrev st' : Store
  st' = reopened B r.pages'

  abbrev set : List CheckpointPage
  set = checkpoint_of st

  abbrev set' : List CheckpointPage
  set' = checkpoint_of st'

  a : Alike B r.pages r.pages'
  a = alike B r.pages r.pages' r.same

  sets : ReorderedSet set set'
  sets = record { tariff = a.tariff; count = a.count; last = a.last; scores = r.scores }

  completes : complete set ≡ complete set'
  completes = complete_reordered set set' sets

  -- ---- the questions

  tables : (book_of (state_of st)).table ≡ (book_of (state_of st')).table
  unfolding book_of state_of
  tables =
      fun_ext (λ (n : ℕ). ap₂ (λ (k : ℕ) (x : Node). choose (ltb n k) x no_node) a.count (node_by-view st st' a.views n))

  trees : (t : Tariff) → TreeSound B t st ≡ TreeSound B t st'
  unfolding TreeSound state_of
  trees t =
      ap₂ ◌&&◌ (ap₂ (sound (node_limit B)) a.count tables)
      (ap₂ ◌&&◌ (ap (λ (k : ℕ). three_pages k st) a.count ∙ three_by-view st st' a.views (count_in set'))
      (ap (λ (z : Bool). in_range t && z) (below_reordered (limit t) (scores_in set) (scores_in set') r.scores)))

  lasts : numbers_left st ≡ numbers_left st'
  lasts = ap (λ (w : View). leb w.last last_sequence) a.views

  pages-asked : of_pages B (Some r.pages) ≡ of_pages B (Some r.pages')
  pages-asked =
      let five = a.pass in
      let six = ap₂ ◌&&◌ completes (ap (asked (λ t. true)) a.tariff) in
      let seven = ap₂ (λ (f : Tariff → Bool) (o : Option Tariff). asked f o) (fun_ext (λ (t : Tariff). trees t)) a.tariff in
      let eight = lasts in
      λ i. (5, five i) ∷ (6, six i) ∷ (7, seven i) ∷ (8, eight i) ∷ []

  pub same_blocks : blocks_of pool' ≡ B
  same_blocks = ap (λ (n : ℕ). n / block_bytes) (sym r.length)

  pub pool-asked : of_pool pool ≡ of_pool pool'
  unfolding of_pool
  pool-asked = ap (of_pages B) r.reads ∙ pages-asked ∙ sym (ap₂ of_pages same_blocks r.reads')

  same_size : pool_length pool ≡ pool_length pool'
  unfolding pool_length
  same_size = rw r.length refl

  -- ---- what stands

  module _ {t : Tariff} (m : Sealed B r.pages t) where
    sealed_again : Sealed B r.pages' t
    sealed_again =
        record {
          pass = sym a.pass ∙ m.pass;
          complete = sym completes ∙ m.complete;
          tariff = sym a.tariff ∙ m.tariff;
          sound = sym (trees t) ∙ m.sound;
        }

    books : book_of (state_of st) ≡ book_of (state_of st')
    unfolding book_of state_of
    books =
        let x = a.count in
        let y = tables in
        let z = fun_ext (λ (n : ℕ). account n (ltb n (count_in set)) refl) in
        λ i. record { count = x i; table = y i; account = z i }
      where
        account : (n : ℕ) (b : Bool) → ltb n (count_in set) ≡ b →
            choose b (record { mode = mode_of st n; score = score_in (scores_in set) n }) fresh ≡
            choose (ltb n (count_in set')) (record { mode = mode_of st' n; score = score_in (scores_in set') n }) fresh
        account n true e =
            let mode = a.modes n in
            let score = score_reordered set set' sets m.complete n (ltb-true n (count_in set) e) in
            rw (← a.count, e) (λ i. record { mode = mode i; score = score i })
        account n false e = rw (← a.count, e) refl

  -- IT STANDS AS THE OTHER DOES, with the same tariff, book and map.
  pub reordered_stands : {t : Tariff} {b : Book} {ps : List Pair} → OpenPool t pool b ps → OpenPool t pool' b ps
  reordered_stands {t} {b} {ps} o =
      record {
        bytes = r.bytes;
        size = sym same_size ∙ o.size;
        cells = r.pages';
        reads = r.reads';
        sealed = rw same_blocks (sealed_again m);
        ready = rw same_blocks (subst (λ (z : Book). Ready B t (state_of st') z ps) same_book ready');
      }
    where
      m : Sealed B r.pages t
      m = subst (λ (c : Cells). Sealed B c t) (some_same (sym o.reads ∙ r.reads)) o.sealed

      same_book : book_of (state_of st') ≡ b
      same_book =
          sym (books m) ∙
          ap (λ (c : Cells). book_of (state_of (reopened B c))) (some_same (sym r.reads ∙ o.reads)) ∙
          o.ready.says.is

      same_map : map_of (book_of (state_of st')).count (book_of (state_of st')).table ≡ ps
      same_map = ap (λ (z : Book). map_of z.count z.table) same_book ∙ map_unique b.table b.count ps o.ready.holds.spells

      ready' : Ready B t (state_of st') (book_of (state_of st')) ps
      ready' =
          subst (Ready B t (state_of st') (book_of (state_of st'))) same_map (sealed_ready (is-pool pool o.size).least (sealed_again m))
