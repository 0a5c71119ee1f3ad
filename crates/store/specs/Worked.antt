-- The definitions run: a hundred and more edits of one node with the pages that they force out and a rewrite at three pages, a
-- checkpoint and its reading back, the blocks that pages go to, each computed. Assumes nothing.
use Rattle.std.specs.Prelude.{◌≡◌, refl, true, false, List, [], ◌∷◌, map, ℕ, zero, suc, ◌+◌, length, set, replicate, Some}
use Rattle.account.specs.declared.Mode.TheVariants.{Log, Disk}
use Rattle.account.specs.declared.Tariff.{Tariff}
use Rattle.layout.specs.Layout.{no_leaf}
use Rattle.pairs.specs.Pairs as Pairs
use Rattle.node.specs.declared.Shape.TheVariants.{Leaf, Branch}
use Rattle.node.specs.Node.{node}
use Rattle.node.specs.Change.{put, link}
use Rattle.node.specs.Replay.{redo, redo_piece, replay_from, replay}
use Rattle.page.specs.Page.{Score, Page, page, log, whole, checkpoint}
use Rattle.store.specs.View.{greatest, pieces, pages}
use Rattle.store.specs.Pool.{Blocks, block, above}
use Rattle.store.specs.Store.{Store, view, draft_of, node_of, mode_of}
use Rattle.store.specs.Live.{carries, checkpoint_since}
use Rattle.store.specs.Allocate.{spot}
use Rattle.store.specs.Write.{found, place, enter, start}
use Rattle.store.specs.Run.{Run, written, write, flush_run, make_room, write_group, write_edit}
use Rattle.store.specs.Serve.{read, edit, rewrite, serve, create}
use Rattle.store.specs.Checkpoint.{CheckpointPage, checkpoint_page, checkpoint_pages, close, collect, checkpoint_of, scores_in, score_in, complete}
use Rattle.store.specs.Reopen.{cells_in, pool_of, pages_pass, blocks_pass}
use Rattle.store.specs.Prepare.{prepared, prepared_run}

abbrev tariff : Tariff
tariff =
    record {
      log = record { read = 3; edit = 1; rewrite = 2; enter = 2 };
      disk = record { read = 1; edit = 4; rewrite = 4; enter = 3 };
    }

-- The pool of a prepare, four blocks.
abbrev fresh : Run
fresh = prepared_run 4 tariff

abbrev edits : ℕ → Run
edits zero = fresh
edits (suc k) = serve Log 0 (edit (put 7 k)) (edits k)

-- on how many pages the node lies after so many edits
abbrev pages_after : List ℕ → List ℕ
pages_after [] = []
pages_after (k ∷ ks) = pages (view (edits k).now) 0 ∷ pages_after ks

-- 24 keys put, one by one.
abbrev puts : ℕ → Run
puts zero = fresh
puts (suc k) = serve Log 0 (edit (put k (100 + k))) (puts k)

abbrev keys : ℕ → ℕ → List (ℕ × ℕ)
keys i zero = []
keys i (suc k) = (i, 100 + i) ∷ keys (suc i) k

-- A split at the root: node 1 with the first 12 keys, node 2 with 13, node 0 above them; then the checkpoint.
abbrev split : Run
split =
    serve Log 0 (rewrite (node Branch ((12, 1) ∷ []) 2))
    (create 2 (node Leaf (keys 12 13) no_leaf) (create 1 (node Leaf (keys 0 12) 2) (puts 24)))

abbrev score : ℕ → ℕ → Score
score n s = record { id = n; score = s }

abbrev closed : Run
closed = close tariff (λ n. n) split

-- A checkpoint that another writer made: its scores begin with that of node 2.
abbrev foreign_set : List CheckpointPage
foreign_set = checkpoint_page (Some tariff) (score 2 7 ∷ score 0 5 ∷ score 1 6 ∷ []) (Some 3) ∷ []

-- Number and size of each page: entries of a log page, scores of a checkpoint page.
abbrev sizes : List Page → List (ℕ × ℕ)
sizes [] = []
sizes (page s (log es) ∷ ps) = (s, length es) ∷ sizes ps
sizes (page s (whole n x) ∷ ps) = (s, 0) ∷ sizes ps
sizes (page s (checkpoint t scores n) ∷ ps) = (s, length scores) ∷ sizes ps

-- Disk mode writes a page a change.
abbrev rewrites : ℕ → Run → Run
rewrites zero run = run
rewrites (suc k) run = serve Disk 0 (rewrite (node Leaf ((k, k) ∷ []) no_leaf)) (rewrites k run)

-- A node made and moved to disk mode, then changes of node 0 behind it: a live page at the head of each of three full blocks.
abbrev behind : ℕ → ℕ → Run → Run
behind n k run = rewrites k (serve Disk n read (create n (node Leaf ((n, n) ∷ []) no_leaf) run))

abbrev spread : Run
spread = behind 3 31 (behind 2 31 (behind 1 28 fresh))

-- The same with the buffer written out in the last place of block 2, so that the next page is the checkpoint's.
abbrev drained : Run
drained = flush_run (behind 3 30 (behind 2 31 (behind 1 28 fresh)))

-- A pool that another writer made: the later page of node 0 stands before the earlier one.
abbrev foreign : Store
foreign =
    record {
      blocks =
          (page 5 (log (record { id = 0; version = 1; change = put 7 2 } ∷ [])) ∷
          page 4 (log (record { id = 0; version = 1; change = put 7 1 } ∷ record { id = 0; version = 1; change = link Leaf no_leaf } ∷ [])) ∷
          []) ∷
          [] ∷
          [];
      current = 0;
      buffer = [];
      last = 5;
    }

-- Four blocks, those named full and the others blank; and the block that the next page goes to.
abbrev full_block : List Page
full_block = replicate 32 (page 5 (log []))

abbrev full_at : List ℕ → Blocks
full_at [] = replicate 4 []
full_at (i ∷ is) = set (full_at is) i full_block

abbrev next_of : List ℕ → ℕ → ℕ
next_of full current = (spot 32 (λ p. false) (full_at full) current).current

abbrev lengths : List (List Page) → List ℕ
lengths [] = []
lengths (b ∷ bs) = length b ∷ lengths bs

pub record Ran : Type 0 where
  -- 27 edits fill the buffer, the 28th forces a page out, the 55th another: the node lies on three pages then and is written whole, so
  -- that it lies on none; and so on
  pub three : pages_after (27 ∷ 28 ∷ 54 ∷ 55 ∷ 80 ∷ 81 ∷ 107 ∷ 108 ∷ []) ≡ 1 ∷ 2 ∷ 2 ∷ 0 ∷ 0 ∷ 1 ∷ 1 ∷ 2 ∷ []
  -- the first group forces page 4 out and has version 5; the second fits exactly, version 6; the third forces page 7 out and has
  -- version 8; the end writes the buffer, page 9, then the checkpoint, page 10
  pub groups : sizes (block closed.now.blocks 0) ≡ (2, 1) ∷ (3, 1) ∷ (4, 24) ∷ (7, 27) ∷ (9, 2) ∷ (10, 3) ∷ []
  pub lower : node_of closed.now 1 ≡ node Leaf (keys 0 12) 2
  pub upper : node_of closed.now 2 ≡ node Leaf (keys 12 13) no_leaf
  pub root : node_of closed.now 0 ≡ node Branch ((12, 1) ∷ []) 2
  -- the pool passes the tests, and gives the scores back, by ascending id
  pub passes : pages_pass 4 (pool_of closed.now) ≡ true
  pub scores : scores_in (checkpoint_of closed.now) ≡ score 0 0 ∷ score 1 1 ∷ score 2 2 ∷ []
  -- scores in another order are as complete, and each node has its own
  pub any_order : complete foreign_set ≡ true
  pub by_id : map (score_in (scores_in foreign_set)) (0 ∷ 1 ∷ 2 ∷ []) ≡ 5 ∷ 6 ∷ 7 ∷ []
  -- three of four blocks full, one live page in each of blocks 0 and 1, two in block 2: block 0 is compacted, its page copied, and
  -- the new page goes behind it
  pub copied : lengths (rewrites 1 spread).now.blocks ≡ 0 ∷ 32 ∷ 32 ∷ 2 ∷ []
  pub moved : node_of (rewrites 1 spread).now 1 ≡ node Leaf ((1, 1) ∷ []) no_leaf
  -- the old checkpoint's page in block 0 is dead while the new one is written: block 0 has the fewest live pages
  pub checkpointed : lengths (close tariff (λ n. n) drained).now.blocks ≡ 0 ∷ 32 ∷ 32 ∷ 2 ∷ []
  -- "take the next blank one upwards and round": block 2 behind a full block 1, though block 0 is blank; block 3 behind 2, though 0 and 1 are;
  -- block 0 behind 3, and 1 where 0 is full; a block with room is kept
  pub upwards : next_of (1 ∷ []) 1 ∷ next_of (2 ∷ []) 2 ∷ next_of (1 ∷ 2 ∷ []) 1 ∷ [] ≡ 2 ∷ 3 ∷ 3 ∷ []
  pub round : next_of (3 ∷ []) 3 ∷ next_of (0 ∷ 3 ∷ []) 3 ∷ next_of (1 ∷ []) 0 ∷ [] ≡ 0 ∷ 1 ∷ 0 ∷ []
  -- two blocks blank: the page goes to a blank one; one blank: the live pages of another are copied there first, and none of these is live
  pub blank_blocks : lengths (spot 32 (λ p. false) (full_at (0 ∷ 1 ∷ [])) 0).blocks ≡ 32 ∷ 32 ∷ 0 ∷ 0 ∷ []
  pub last_blank : lengths (spot 32 (λ p. false) (full_at (0 ∷ 1 ∷ 2 ∷ [])) 1).blocks ≡ 0 ∷ 32 ∷ 32 ∷ 0 ∷ []
  pub all_live : lengths (spot 32 (λ p. true) (full_at (0 ∷ 1 ∷ 3 ∷ [])) 3).blocks ≡ 0 ∷ 32 ∷ 32 ∷ 32 ∷ []
  -- entries are taken by page number, wherever the pages lie
  pub order : node_of foreign 0 ≡ node Leaf ((7, 2) ∷ []) no_leaf

pub ran : Ran
unfolding prepared prepared_run above greatest pages pieces draft_of node_of mode_of carries checkpoint_since spot found place enter start written write
    make_room write_group write_edit serve create checkpoint_pages close collect checkpoint_of score_in complete cells_in blocks_pass pages_pass Pairs.insert redo
    redo_piece replay_from replay
ran =
    record {
      three = refl;
      groups = refl;
      lower = refl;
      upper = refl;
      root = refl;
      passes = refl;
      scores = refl;
      any_order = refl;
      by_id = refl;
      copied = refl;
      moved = refl;
      checkpointed = refl;
      upwards = refl;
      round = refl;
      blank_blocks = refl;
      last_blank = refl;
      all_live = refl;
      order = refl;
    }
