-- The pool of an accepted prepare opens: node 0 alone, an empty leaf in log mode with score 0, and the empty map. Assumes nothing.
use Rattle.std.specs.Prelude.{◌≡◌, Bool, true, List, [], ◌∷◌, eqb, leb, ltb, replicate, None, Some}
use Rattle.std.proofs.Math.Path.{refl, ap, subst, sym, fun_ext}
use Rattle.std.proofs.Common.{◌∙◌, arith}
use Prim.Native.Nat.{ℕ, zero, suc, ◌*◌, ◌-◌, ◌≤◌, max}
use borrow.Author.Tests.{le-leb, eq-eqb, lt-ltb, le-ltb}
use Rattle.std.proofs.Math.ListN.{length}
use Rattle.std.proofs.lemmas.List.{length-replicate}
use Rattle.laws.specs.Tests.{choose, and_both}
use Rattle.laws.specs.Counts.{tally}
use Rattle.layout.specs.Layout.{fewest_blocks, node_limit, pages_in_block}
use Rattle.account.specs.declared.Mode.{Mode}
use Rattle.account.specs.declared.Mode.TheVariants.{Log}
use Rattle.account.specs.declared.Tariff.{Tariff}
use Rattle.account.specs.Tariff.{limit}
use Rattle.account.specs.Range.{Ranged, ranged_in_range, limit_some}
use Rattle.account.specs.Serve.{fresh}
use Rattle.node.specs.Ascends.{ascends}
use Rattle.node.specs.Replay as Replay
use Rattle.page.specs.Page.{Page}
use Rattle.tree.specs.Sound as Sound
use Rattle.tree.specs.Spells.{map_of, pairs_below, pairs_of_node}
use Rattle.store.specs.View as View
use Rattle.store.specs.View.{View}
use Rattle.store.specs.Pool.{Blocks, block, numbered, page_in, or_else, find, items_at}
use Rattle.store.specs.Allocate.{blanks}
use Rattle.store.specs.Store.{Store, seen, view, draft_of, node_in, node_of, mode_at, mode_of, no_node}
use Rattle.store.specs.Checkpoint as Checkpoint
use Rattle.store.specs.Checkpoint.{checkpoint_of, collect, complete, score_in}
use Rattle.store.specs.Reopen.{cells, blocks_in, newest, store_of, reopened, all_filled, differ, full_or_all, blocks_pass, page_passes, every_page, pages_pass}
use Rattle.store_laws.specs.CellLaws.{length-cells, blocks_in-cells, all_filled-cells}
use Rattle.book.specs.Book.{Book}
use Rattle.model.specs.State.{book_of}
use Rattle.model.specs.Mount.{state_of, three_pages, scores_below, TreeSound}
use Rattle.store.specs.Prepare.{empty_leaf, first_pages, prepared_blocks}
use Rattle.model.specs.Prepare.{prepared, root_alone, first_book}
use Rattle.demands.specs.Mount.{Mounts, Ready, mounts_ready}

-- Blank blocks count for nothing.
blank-block : (k i : ℕ) → block (replicate k []) i ≡ []
blank-block zero i = refl
blank-block (suc k) zero = refl
blank-block (suc k) (suc i) = blank-block k i

blank-tally : (k : ℕ) (f : Page → Bool) → tally f (replicate k []) ≡ 0
blank-tally zero f = refl
blank-tally (suc k) f = omega (arith, blank-tally k f)

blank-find : (k s : ℕ) → find s (replicate k []) ≡ None
blank-find zero s = refl
blank-find (suc k) s = blank-find k s

blank-newest : (k : ℕ) → newest (replicate k []) ≡ 0
blank-newest zero = refl
blank-newest (suc k) = omega (arith, blank-newest k)

blank-blanks : (k : ℕ) → blanks (replicate k []) ≡ k
blank-blanks zero = refl
blank-blanks (suc k) = omega (arith, blank-blanks k)

blank-differ : (k : ℕ) → differ (replicate k []) ≡ true
blank-differ zero = refl
blank-differ (suc k) = blank-differ k

blank-full : (width s k : ℕ) → full_or_all width s (replicate k []) ≡ true
blank-full width s zero = refl
blank-full width s (suc k) = blank-full width s k

blank-every : (f : Page → Bool) (k : ℕ) → every_page f (replicate k []) ≡ true
blank-every f zero = refl
blank-every f (suc k) = blank-every f k

module _ (blocks : ℕ) (t : Tariff) (four : fewest_blocks ≤ blocks) where
  abbrev k : ℕ
  k = blocks - 1

  abbrev bs : Blocks
  bs = prepared_blocks blocks t

  abbrev st : Store
  st = store_of bs

  pub length-blocks : length bs ≡ blocks
  length-blocks = omega (arith, length-replicate {A = List Page} k [])

  short : (i : ℕ) → length (block bs i) ≤ pages_in_block
  short zero = omega arith
  short (suc i) = rw (blank-block k i) (omega arith)

  blocks_back : blocks_in pages_in_block blocks (prepared blocks t) ≡ bs
  unfolding prepared
  blocks_back = subst (λ (n : ℕ). blocks_in pages_in_block n (cells pages_in_block bs) ≡ bs) length-blocks (blocks_in-cells pages_in_block bs short)

  last-is : newest bs ≡ 3
  last-is = ap (λ (n : ℕ). max 3 n) (blank-newest k)

  opened-is : reopened blocks (prepared blocks t) ≡ st
  unfolding reopened
  opened-is = ap store_of blocks_back

  -- Question 5 of all pages.
  blocks_pass_lem : blocks_pass pages_in_block blocks (prepared blocks t) ≡ true
  unfolding blocks_pass prepared
  blocks_pass_lem =
      rw blocks_back
      (and_both (eqb (length (prepared blocks t)) (pages_in_block * blocks)) _ (eq-eqb _ _ size)
      (and_both (all_filled pages_in_block blocks (prepared blocks t)) _ filled
      (and_both (differ bs) _ apart
      (and_both (leb 1 (blanks bs)) (full_or_all pages_in_block (newest bs) bs) (le-leb 1 (blanks bs) (omega (arith, blank-blanks k)))
      full))))
    where
      size : length (prepared blocks t) ≡ pages_in_block * blocks
      size = length-cells pages_in_block bs ∙ omega (arith, length-blocks)

      filled : all_filled pages_in_block blocks (prepared blocks t) ≡ true
      filled = subst (λ (n : ℕ). all_filled pages_in_block n (cells pages_in_block bs) ≡ true) length-blocks (all_filled-cells pages_in_block bs)

      apart : differ bs ≡ true
      apart = rw (blank-tally k (numbered 2), blank-tally k (numbered 3)) (blank-differ k)

      full : full_or_all pages_in_block (newest bs) bs ≡ true
      full = subst (λ (n : ℕ). full_or_all pages_in_block n bs ≡ true) (sym last-is) (blank-full pages_in_block 3 k)

  pass : pages_pass blocks (prepared blocks t) ≡ true
  unfolding pages_pass
  pass =
      and_both (blocks_pass pages_in_block blocks (prepared blocks t)) _ blocks_pass_lem
      (rw (blocks_back, blank-tally k (numbered 1)) (blank-every (page_passes bs) k))

  -- What is seen does not depend on the blank blocks.
  find-is : (s : ℕ) → find s bs ≡ find s (first_pages t ∷ [])
  find-is s = ap (or_else (page_in s (first_pages t))) (blank-find k s)

  abbrev seen_first : View
  seen_first = seen (first_pages t ∷ []) [] 3

  view-is : view st ≡ seen_first
  view-is =
      let e = fun_ext (λ (s : ℕ). ap items_at (find-is s)) in
      let l = last-is in
      λ i. record { at = e i; buffer = []; last = l i }

  set_is : checkpoint_of st ≡ Checkpoint.checkpoint_page (Some t) (record { id = 0; score = 0 } ∷ []) (Some 1) ∷ []
  unfolding checkpoint_of collect
  set_is = ap (λ (n : ℕ). collect (λ s. find s bs) n []) last-is

  -- The book that it says.
  root_is : node_of st 0 ≡ empty_leaf
  unfolding node_of draft_of View.pieces View.greatest Replay.replay Replay.replay_from Replay.redo_piece Replay.redo
  root_is = ap (λ (w : View). node_in (Replay.replay (View.pieces w 0))) view-is

  root_log : mode_of st 0 ≡ Log
  unfolding mode_of View.greatest
  root_log =
      ap (λ (w : View). mode_at (find (View.greatest w 0) bs)) view-is ∙ ap mode_at (find-is 1)

  book-is : book_of (state_of st) ≡ first_book
  unfolding book_of state_of score_in
  book-is =
      let n : Checkpoint.count_in (checkpoint_of st) ≡ 1 = ap Checkpoint.count_in set_is in
      let e = fun_ext (λ (i : ℕ). table i) in
      let a = fun_ext (λ (i : ℕ). account i) in
      λ i. record { count = n i; table = e i; account = a i }
    where
      table : (i : ℕ) → choose (ltb i (Checkpoint.count_in (checkpoint_of st))) (node_of st i) no_node ≡ root_alone i
      table zero = rw set_is root_is
      table (suc i) = rw (set_is, le-ltb (suc i) 1 (omega arith)) refl

      account : (i : ℕ) →
          choose (ltb i (Checkpoint.count_in (checkpoint_of st)))
          (record { mode = mode_of st i; score = score_in (Checkpoint.scores_in (checkpoint_of st)) i }) fresh ≡ fresh
      account zero = rw set_is (ap (λ (m : Mode). record { mode = m; score = 0 }) root_log)
      account (suc i) = rw (set_is, le-ltb (suc i) 1 (omega arith)) refl

  one_page_lem : View.pages (view st) 0 ≡ 1
  unfolding View.pages View.greatest
  one_page_lem = ap (λ (w : View). View.pages w 0) view-is

  module _ (r : Ranged t) where
    tree : TreeSound blocks t st ≡ true
    unfolding TreeSound state_of three_pages scores_below Sound.sound Sound.complete Sound.walk_from Sound.visit Sound.visit_leaf Sound.leftmost
        Sound.in_order ascends Sound.all_marked
    tree =
        rw (book-is, set_is, le-leb 1 (node_limit blocks) (omega arith), one_page_lem, ranged_in_range t r, lt-ltb 0 (limit t) (limit_some r)) refl

    pub prepared_mounts : Mounts blocks (prepared blocks t) t
    unfolding complete
    prepared_mounts =
        record {
          pass = pass;
          complete = rw (opened-is, set_is) refl;
          tariff = rw (opened-is, set_is) refl;
          sound = rw opened-is tree;
          left = rw (opened-is, last-is) refl;
        }

    pub prepared-book : book_of (state_of (reopened blocks (prepared blocks t))) ≡ first_book
    prepared-book = rw opened-is book-is

    -- Its one field 14.
    pub prepared-checkpoint : checkpoint_of (reopened blocks (prepared blocks t)) ≡ Checkpoint.checkpoint_pages t (Checkpoint.scores_from 0 1 (λ n. 0))
    unfolding Checkpoint.checkpoint_pages
    prepared-checkpoint = rw opened-is set_is

    -- THE POOL OF A PREPARE opens as the first book, and spells the empty map.
    pub prepared_ready : Ready blocks t (state_of (reopened blocks (prepared blocks t))) first_book []
    unfolding pairs_below pairs_of_node
    prepared_ready =
        subst (λ (b : Book). Ready blocks t (state_of (reopened blocks (prepared blocks t))) b (map_of b.count b.table)) prepared-book
        (mounts_ready four prepared_mounts)
