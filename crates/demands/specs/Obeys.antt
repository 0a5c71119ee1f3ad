-- The layout as a definition, and that it is what mount asks: "every pool that obeys the layout opens, any other is refused", whoever wrote it;
-- the map that a pool spells is unique. What stands between calls (OneCall `OpenPool`) obeys, and what obeys stands. Assumes nothing.
use Rattle.std.specs.Prelude.{◌≡◌, true, List, [], ◌∷◌, ℕ, ◌*◌, ◌≤◌, ◌<◌, ltb, Option, None, Some}
use Rattle.std.proofs.Math.Path.{refl, ap}
use Rattle.std.proofs.Common.{sym, ◌∙◌, subst, arith}
use borrow.Author.Tests.{leb-true, le-leb, ltb-true, lt-ltb}
use Rattle.laws.specs.Tests.{and_left, and_right, and_both}
use Rattle.laws.specs.Every.{Every, both}
use Rattle.laws.specs.BigEndian.{Bytes}
use Rattle.laws.specs.Options.{some_same}
use Rattle.layout.specs.Layout.{pages_in_block, node_limit, most_log_pages, last_sequence}
use Rattle.account.specs.declared.Tariff.{Tariff}
use Rattle.account.specs.Tariff.{limit}
use Rattle.account.specs.Range.{in_range, Ranged, ranged_in_range}
use Rattle.pairs.specs.Pairs.{Pair}
use Rattle.page.specs.Page.{Score}
use Rattle.tree.specs.Spells.{Spells, map_of}
use Rattle.tree.specs.Sound.{sound}
use Rattle.tree_laws.specs.SoundLaws.{spells_sound, map_unique}
use Rattle.store.specs.View.{pages}
use Rattle.store.specs.Pool.{Blocks}
use Rattle.store.specs.Store.{Store, view}
use Rattle.store.specs.Checkpoint.{checkpoint_of, tariff_in, scores_in, count_in, complete}
use Rattle.store.specs.Reopen.{Cells, cells, blocks_in, newest, block_of, store_of, reopened, blocks_pass, page_passes, every_page, pages_pass}
use Rattle.store_laws.specs.BlockRules.{BlockRules}
use Rattle.store_laws.specs.BlockTests.{Passing, passing, passing_rules, rules_blocks}
use Rattle.store_laws.specs.CellLaws.{cells-blocks_in}
use Rattle.store_laws.specs.PageTests.{passing_numbers, passing_versions}
use Rattle.store_laws.specs.Versions.{VersionRules}
use Rattle.store_laws.specs.Opening.{own-passes, complete-newest}
use Rattle.book.specs.Book.{Book}
use Rattle.model.specs.State.{State, book_of}
use Rattle.model.specs.Mount.{opened, state_of, three_pages, scores_below, TreeSound, numbers_left}
use Rattle.model.specs.Bytes.{bytes_of, cells_of}
use Rattle.model.specs.Pool.{blocks_of, pool_length, mount_by, mount_of}
use Rattle.model.specs.PoolLaws.{is-pool}
use Rattle.model.specs.Calls.{book_by, book_in}
use Rattle.demands.specs.Mount.{Sealed, sealed_mounts, mounts_sealed, mounts_opened, opened_mounts, Ready, sealed_ready}
use Rattle.demands.specs.Mount.{three_each, ranged, rest_tests, range_tests, kept}
use Rattle.demands.specs.Mount as Mount
use Rattle.demands.specs.Close.{three_below}
use Rattle.demands.specs.PoolBytes.{CellFits, cells_of-bytes_of, bytes-bytes_of, IsPool, cells_of-is}
use Rattle.demands.specs.OneCall.{OpenPool}

-- THE LAYOUT: what document 01 asks of a pool, but for question 8, whether its greatest sequence number is at most 4,000,000,000.
pub record Obeys (pool : List ℕ) (t : Tariff) (ps : List Pair) : Type 0 where
  -- B blocks of 16,384 bytes, B from 4 to 64
  pub size : pool_length pool ≡ true
  -- the pool is the images of its written pages, block by block, and FF; each page is within its limits
  pub blocks : Blocks
  pub is : pool ≡ bytes_of (cells pages_in_block blocks)
  pub fits : Every CellFits (cells pages_in_block blocks)
  -- the rules on blocks and sequence numbers, and those on versions
  pub rules : BlockRules pages_in_block (blocks_of pool) blocks (block_of (newest blocks) blocks) (newest blocks)
  pub versions : VersionRules (store_of blocks)
  -- a complete checkpoint with a tariff in range and scores below the limit T
  pub set : complete (checkpoint_of (store_of blocks)) ≡ true
  pub tariff : tariff_in (checkpoint_of (store_of blocks)) ≡ Some t
  pub ranged : Ranged t
  pub scores : Every (λ (x : Score). x.score < limit t) (scores_in (checkpoint_of (store_of blocks)))
  -- a sound tree that spells the map, within the node limit, no log node on more than three pages
  pub spells : Spells (book_of (state_of (store_of blocks))).table (book_of (state_of (store_of blocks))).count ps
  pub kept : (book_of (state_of (store_of blocks))).count ≤ node_limit (blocks_of pool)
  pub three : (n : ℕ) → n < (book_of (state_of (store_of blocks))).count → pages (view (store_of blocks)) n ≤ most_log_pages

count_of : (st : Store) → (book_of (state_of st)).count ≡ count_in (checkpoint_of st)
unfolding book_of state_of
count_of st = refl

scores-test : (most : ℕ) (xs : List Score) → Every (λ (x : Score). x.score < most) xs → scores_below most xs ≡ true
unfolding scores_below
scores-test most [] Every.none = refl
scores-test most (x ∷ xs) (both h e) = and_both (ltb x.score most) (scores_below most xs) (lt-ltb x.score most h) (scores-test most xs e)

scores_each : (most : ℕ) (xs : List Score) → scores_below most xs ≡ true → Every (λ (x : Score). x.score < most) xs
unfolding scores_below
scores_each most [] e = Every.none
scores_each most (x ∷ xs) e =
    both (ltb-true x.score most (and_left (ltb x.score most) (scores_below most xs) e))
    (scores_each most xs (and_right (ltb x.score most) (scores_below most xs) e))

module _ {pool : List ℕ} {t : Tariff} {ps : List Pair} (o : Obeys pool t ps) where
  abbrev st : Store
  st = store_of o.blocks

  reads : cells_of pool ≡ Some (cells pages_in_block o.blocks)
  reads = rw o.is (cells_of-bytes_of (cells pages_in_block o.blocks) o.fits)

  again : reopened (blocks_of pool) (cells pages_in_block o.blocks) ≡ st
  unfolding reopened
  again = ap store_of (rules_blocks o.rules)

  tree : TreeSound (blocks_of pool) t st ≡ true
  unfolding TreeSound state_of book_of
  tree =
      and_both (sound (node_limit (blocks_of pool)) (count_in (checkpoint_of st)) (book_of (state_of st)).table) _
      (spells_sound (node_limit (blocks_of pool)) (count_in (checkpoint_of st)) (book_of (state_of st)).table ps o.spells o.kept)
      (and_both (three_pages (count_in (checkpoint_of st)) st) _ (three_below (count_in (checkpoint_of st)) st o.three)
      (and_both (in_range t) (scores_below (limit t) (scores_in (checkpoint_of st))) (ranged_in_range t o.ranged)
      (scores-test (limit t) (scores_in (checkpoint_of st)) o.scores)))

  -- It passes the questions 5 to 7.
  obeys_sealed : Sealed (blocks_of pool) (cells pages_in_block o.blocks) t
  obeys_sealed =
      record {
        pass = own-passes st o.rules o.versions;
        complete = rw again o.set;
        tariff = rw again o.tariff;
        sound = rw again tree;
      }

  -- EVERY POOL THAT OBEYS THE LAYOUT OPENS, with sequence numbers left.
  pub obeys_opens : newest o.blocks ≤ last_sequence → mount_of pool ≡ opened t (state_of st)
  unfolding mount_of
  obeys_opens left =
      ap (mount_by (blocks_of pool)) reads ∙
      mounts_opened (sealed_mounts obeys_sealed (rw again (le-leb (newest o.blocks) last_sequence left))) ∙
      ap (λ (z : Store). opened t (state_of z)) again

  -- The map that it spells is unique: it is computed from the pages.
  abbrev pub spelled : List Pair
  spelled = map_of (book_of (state_of st)).count (book_of (state_of st)).table

  pub obeys_map : spelled ≡ ps
  obeys_map = map_unique (book_of (state_of st)).table (book_of (state_of st)).count ps o.spells

  -- The book that it spells is that of its pages.
  pub obeys_spelled : book_in pool ≡ Some (book_of (state_of st))
  unfolding book_in
  obeys_spelled = ap (book_by (blocks_of pool)) reads ∙ ap (λ (z : Store). Some (book_of (state_of z))) again

  obeys_book : (b : Book) → book_in pool ≡ Some b → book_of (state_of st) ≡ b
  obeys_book b e = some_same (sym obeys_spelled ∙ e)

  -- The state that its bytes are read back as.
  abbrev reopening : State
  reopening = state_of (reopened (blocks_of pool) (cells pages_in_block o.blocks))

  -- IT STANDS BETWEEN CALLS.
  pub obeys_stands : (b : Book) → book_in pool ≡ Some b → OpenPool t pool b ps
  obeys_stands b e =
      record {
        bytes = rw o.is (bytes-bytes_of (cells pages_in_block o.blocks));
        size = o.size;
        cells = cells pages_in_block o.blocks;
        reads = reads;
        sealed = obeys_sealed;
        ready =
            subst (λ (z : Book). Ready (blocks_of pool) t reopening z ps) (ap (λ (z : Store). book_of (state_of z)) again ∙ obeys_book b e)
            (subst (Ready (blocks_of pool) t reopening (book_of reopening))
            (ap (λ (z : Store). map_of (book_of (state_of z)).count (book_of (state_of z)).table) again ∙ obeys_map)
            (sealed_ready (is-pool pool o.size).least obeys_sealed));
      }

-- Two readings of one pool find the same pages, and so the same map.
pub obeys_unique : {pool : List ℕ} {t t' : Tariff} {ps qs : List Pair} → Obeys pool t ps → Obeys pool t' qs → ps ≡ qs
obeys_unique {pool} o p =
    sym (obeys_map o) ∙ ap (λ (bs : Blocks). map_of (book_of (state_of (store_of bs))).count (book_of (state_of (store_of bs))).table) same ∙ obeys_map p
  where
    same : o.blocks ≡ p.blocks
    same =
        sym (rules_blocks o.rules) ∙
        ap (blocks_in pages_in_block (blocks_of pool)) (some_same (sym (reads o) ∙ reads p)) ∙
        rules_blocks p.rules

-- A POOL THAT OPENS obeys the layout and has sequence numbers left: any other is refused.
pub record Opening (pool : List ℕ) (t : Tariff) (s : State) : Type 0 where
  pub obeys : Obeys pool t (map_of (book_of s).count (book_of s).table)
  pub left : newest obeys.blocks ≤ last_sequence
  pub book : book_in pool ≡ Some (book_of s)

-- The pages of a pool that passes the questions 5 to 7.
module _ (pool : List ℕ) (bytes : Bytes pool) (t : Tariff) (size : pool_length pool ≡ true) (c : Cells) (r : cells_of pool ≡ Some c)
    (m : Sealed (blocks_of pool) c t) where
  abbrev B : ℕ
  B = blocks_of pool

  abbrev bs : Blocks
  bs = blocks_in pages_in_block B c

  block_tests : Passing pages_in_block B c
  unfolding pages_pass
  block_tests = passing pages_in_block B c (and_left (blocks_pass pages_in_block B c) (every_page (page_passes bs) bs) m.pass)

  page_tests : every_page (page_passes bs) bs ≡ true
  unfolding pages_pass
  page_tests = and_right (blocks_pass pages_in_block B c) (every_page (page_passes bs) bs) m.pass

  cells_are : cells pages_in_block bs ≡ c
  cells_are = cells-blocks_in pages_in_block B c (omega (arith, block_tests.size)) block_tests.filled

  image : IsPool pool c
  image = cells_of-is pool bytes (32 * B) (omega (arith, (is-pool pool size).whole)) c r

  sealed_obeys : Obeys pool t (map_of (book_of (state_of (reopened B c))).count (book_of (state_of (reopened B c))).table)
  unfolding reopened
  sealed_obeys =
      let four = (is-pool pool size).least in
      record {
        size = size;
        blocks = bs;
        is = rw cells_are image.is;
        fits = rw cells_are image.fits;
        rules = passing_rules pages_in_block B c block_tests (passing_numbers bs page_tests) (complete-newest B c m.complete);
        versions = passing_versions bs page_tests;
        set = m.complete;
        tariff = m.tariff;
        ranged = ranged four m;
        scores =
            scores_each (limit t) (scores_in (checkpoint_of (store_of bs)))
            (and_right (in_range t) (scores_below (limit t) (scores_in (checkpoint_of (store_of bs)))) (range_tests four m));
        spells = Mount.spelled four m;
        kept = kept four m;
        three =
            λ n l.
            three_each _ (store_of bs) (and_left (three_pages (count_in (checkpoint_of (store_of bs))) (store_of bs)) _ (rest_tests four m)) n (count_in_lem n l);
      }
    where
      count_in_lem : (n : ℕ) → n < (book_of (state_of (store_of bs))).count → n < count_in (checkpoint_of (store_of bs))
      count_in_lem n l = rw (count_of (store_of bs)) at l

  module _ (l : numbers_left (reopened B c) ≡ true) where
    left_is : newest bs ≤ last_sequence
    unfolding reopened
    left_is = leb-true (newest bs) last_sequence l

    sealed_opening : Opening pool t (state_of (reopened B c))
    unfolding sealed_obeys book_in
    sealed_opening = record { obeys = sealed_obeys; left = left_is; book = rw r refl }

module _ (pool : List ℕ) (bytes : Bytes pool) (t : Tariff) (s : State) (size : pool_length pool ≡ true) where
  by-cells : (o : Option Cells) → cells_of pool ≡ o → mount_by (blocks_of pool) o ≡ opened t s → Opening pool t s
  by-cells None r f = let z : ◌≡◌ {A = ℕ} 0 1 = cc in absurd (omega arith)
  by-cells (Some c) r f =
      let x = opened_mounts f in
      subst (λ (z : State). Opening pool t z) (sym x.is)
      (sealed_opening pool bytes t size c r (mounts_sealed x.mounts) x.mounts.left)

  pub opens_obeys : mount_of pool ≡ opened t s → Opening pool t s
  unfolding mount_of
  opens_obeys e = by-cells (cells_of pool) refl e

-- WHAT STANDS BETWEEN CALLS obeys the layout, and spells its map.
pub stands_obeys : {t : Tariff} {pool : List ℕ} {b : Book} {ps : List Pair} → OpenPool t pool b ps → Obeys pool t ps
stands_obeys {t} {pool} {b} {ps} o =
    let s = state_of (reopened (blocks_of pool) o.cells) in
    let same : book_of s ≡ b = o.ready.says.is in
    subst (Obeys pool t)
    (map_unique (book_of s).table (book_of s).count ps (subst (λ (z : Book). Spells z.table z.count ps) (sym same) o.ready.holds.spells))
    (sealed_obeys pool o.bytes t o.size o.cells o.reads o.sealed)
