-- Document 01's marked cases of splits, the requests of each kind of split, scans and their stops, tables of foreign writers, and
-- 330 puts through leaf, branch and root splits: all run by the definitions alone. Assumes nothing.
use Rattle.std.specs.Prelude.{◌≡◌, refl, true, false, List, [], ◌∷◌, ◌++◌, map, ℕ, zero, suc, ◌+◌, length}
use Rattle.laws.specs.Update.{update}
use Rattle.layout.specs.Layout.{no_leaf}
use Rattle.pairs.specs.Pairs.{Pair, lookup, insert, range, has_above}
use Rattle.node.specs.declared.Shape.TheVariants.{Leaf, Branch}
use Rattle.node.specs.Node.{node, pairs_of}
use Rattle.node.specs.Change.{put, remove, link}
use Rattle.node.specs.Ascends.{ascends}
use Rattle.node.specs.Halves.{lower_half, middle_key, upper_half}
use Rattle.tree.specs.Table.{Table, slot, path, leaf_for}
use Rattle.tree.specs.NodeRequest.{NodeRequest, read, edit, rewrite, create, apply_all, count_after_all}
use Rattle.tree.specs.Get.{get_answer}
use Rattle.tree.specs.Put.{renamed, settle, work, finish, full_run, ids_needed, put_refused, put_requests}
use Rattle.tree.specs.Delete.{delete_requests}
use Rattle.tree.specs.Scan.{stops_in, pairs_from, leaves_after, scan_reads, scan_requests, scan_answer}
use Rattle.tree.specs.Spells.{join_pointers, pairs_of_node, pairs_below, map_of}
use Rattle.tree.specs.Sound.{in_order, visit_leaf, visit_children, visit_branch, visit, leftmost, all_marked, complete, walk_from, sound}

-- A table with its count; as prepare leaves it, one empty leaf.
record Book : Type 0 where
  count : ℕ
  table : Table

prepared : Book
prepared = record { count = 1; table = λ i. node Leaf [] no_leaf }

-- The node limit of the largest pool.
limit : ℕ
limit = 620

after_put : Book → ℕ → Book
after_put b k =
    let rs = put_requests limit b.count b.table k (100 + k) in
    record { count = count_after_all rs b.count; table = apply_all rs b.table }

-- So many puts of ascending keys, each with the value 100 more.
after_puts : ℕ → ℕ → Book → Book
after_puts zero k b = b
after_puts (suc n) k b = after_puts n (suc k) (after_put b k)

puts : ℕ → Book
puts n = after_puts n 0 prepared

abbrev run : ℕ → ℕ → List Pair
run zero k = []
run (suc n) k = (k, 100 + k) ∷ run n (suc k)

-- How many pairs each node has, the last id first.
sizes : Book → List ℕ
sizes b = from b.count
  where
    from : ℕ → List ℕ
    from zero = []
    from (suc i) = length (pairs_of (b.table i)) ∷ from i

put_on : Book → ℕ → List NodeRequest
put_on b k = put_requests limit b.count b.table k (100 + k)

scan_on : Book → ℕ → ℕ → ℕ → List NodeRequest
scan_on b low high most = scan_requests b.count b.table low high most

-- A request without its pairs: their number stands for them.
abbrev outline : NodeRequest → NodeRequest
outline (read id) = read id
outline (edit id c) = edit id c
outline (rewrite id n) = rewrite id (node Leaf [] (length (pairs_of n)))
outline (create id n) = create id (node Leaf [] (length (pairs_of n)))

record Splits : Type 0 where
  -- M 24 keys: no split. M 25 keys: 12 and 13.
  keys24 : sizes (puts 24) ≡ 24 ∷ []
  keys25 : sizes (puts 25) ≡ 13 ∷ 12 ∷ 1 ∷ []
  -- 9: the root is among the full nodes, so that the 25th key needs two ids beside the one in use
  root_ids : put_refused 2 1 (puts 24).table 24 ∷ put_refused 3 1 (puts 24).table 24 ∷ [] ≡ true ∷ false ∷ []
  -- the root, a leaf, splits: two new nodes, then it is rewritten above them
  root_split : put_on (puts 24) 24 ≡
      read 0 ∷
      create 1 (node Leaf (run 12 0) 2) ∷
      create 2 (node Leaf (run 13 12) no_leaf) ∷
      rewrite 0 (node Branch ((12, 1) ∷ []) 2) ∷
      []
  -- a leaf splits below a parent with room: the parent's two edits, here its last pointer
  leaf_split : put_on (puts 36) 36 ≡
      read 0 ∷
      read 2 ∷
      rewrite 2 (node Leaf (run 12 12) 3) ∷
      create 3 (node Leaf (run 13 24) no_leaf) ∷
      edit 0 (put 24 2) ∷
      edit 0 (link Branch 3) ∷
      []
  -- a full branch below the root splits with its leaf: 12 keys stay, the 13th rises to the root, 12 go right
  branch_split : map outline (put_on (puts 468) 468) ≡
      read 0 ∷
      read 28 ∷
      read 40 ∷
      rewrite 40 (node Leaf [] 12) ∷
      create 41 (node Leaf [] 13) ∷
      rewrite 28 (node Leaf [] 12) ∷
      create 42 (node Leaf [] 12) ∷
      edit 0 (put 312 28) ∷
      edit 0 (link Branch 42) ∷
      []
  -- the 330 puts: 30 nodes, a sound tree that spells the 330 pairs
  nodes330 : (puts 330).count ≡ 30
  pairs330 : map_of (puts 330).count (puts 330).table ≡ run 330 0
  sound330 : sound limit (puts 330).count (puts 330).table ≡ true

splits : Splits
unfolding prepared limit after_put after_puts puts sizes put_on put_requests put_refused get_answer lookup leaf_for path full_run ids_needed work settle
    finish insert slot update lower_half upper_half middle_key renamed join_pointers pairs_of_node pairs_below ascends in_order visit_leaf visit_children
    visit_branch visit leftmost all_marked complete walk_from sound
splits =
    record {
      keys24 = refl;
      keys25 = refl;
      root_ids = refl;
      root_split = refl;
      leaf_split = refl;
      branch_split = refl;
      nodes330 = refl;
      pairs330 = refl;
      sound330 = refl;
    }

-- A leaf splits in the middle: the slot that led to it has a key, and that key's pointer is renamed.
between : Book
between =
    record {
      count = 4;
      table =
          λ i.
          elim i [
            | zero ↦ node Branch ((100, 2) ∷ (200, 1) ∷ []) 3
            | suc i ↦
                elim i [
                  | zero ↦ node Leaf (run 24 110) 3
                  | suc i ↦ elim i [ zero ↦ node Leaf [] 1 | suc i ↦ node Leaf (run 3 200) no_leaf ]
                ]
          ];
    }

record Cases : Type 0 where
  -- a foreign writer's table, with ids in another order, a thin branch and an empty leaf
  foreign : sound limit 4 between.table ≡ true
  renames : put_on between 134 ≡
      read 0 ∷
      read 1 ∷
      rewrite 1 (node Leaf (run 12 110) 4) ∷
      create 4 (node Leaf (run 13 122) 3) ∷
      edit 0 (put 122 1) ∷
      edit 0 (put 200 4) ∷
      []
  -- a key at the upper bound of its leaf, an id that no pointer reaches, and a count past the limit
  bound : sound limit 4 (update between.table 2 (node Leaf (run 1 100) 1)) ≡ false
  within : sound limit 4 (update between.table 2 (node Leaf (run 1 99) 1)) ≡ true
  lost : sound limit 5 between.table ≡ false
  past : sound 3 4 between.table ≡ false
  -- 9: a new key in a full leaf needs an id; a present key does not, and neither does a leaf with room
  refused : put_refused 4 4 between.table 134 ≡ true
  silent : put_requests 4 4 between.table 134 0 ≡ []
  replaces : put_requests 4 4 between.table 133 0 ≡ read 0 ∷ read 1 ∷ edit 1 (put 133 0) ∷ []
  fits : put_requests 4 4 between.table 7 0 ≡ read 0 ∷ read 2 ∷ edit 2 (put 7 0) ∷ []
  -- a delete of a present key is one edit, of an absent one reads alone
  removes : delete_requests 4 between.table 110 ≡ read 0 ∷ read 1 ∷ edit 1 (remove 110) ∷ []
  absent : delete_requests 4 between.table 7 ≡ read 0 ∷ read 2 ∷ []
  -- a scan: `most` met at a leaf's end reads no further; one more wanted, or the last key equal to the high one, reads the next
  -- leaf; an empty leaf is read; low above high reads nothing
  enough : scan_on between 110 250 24 ≡ read 0 ∷ read 1 ∷ []
  onward : scan_on between 110 250 25 ≡ read 0 ∷ read 1 ∷ read 3 ∷ []
  equal : scan_on between 110 133 32 ≡ read 0 ∷ read 1 ∷ read 3 ∷ []
  above : scan_on between 110 132 32 ≡ read 0 ∷ read 1 ∷ []
  empty : scan_on between 0 120 32 ≡ read 0 ∷ read 2 ∷ read 1 ∷ []
  nothing : scan_on between 9 3 32 ≡ []
  pairs : scan_answer 4 between.table 130 201 32 ≡ run 4 130 ++ run 2 200
  few : scan_answer 4 between.table 130 250 5 ≡ run 4 130 ++ run 1 200

cases : Cases
unfolding between limit put_on scan_on put_requests put_refused get_answer lookup leaf_for path full_run ids_needed work settle finish insert slot update
    lower_half upper_half middle_key renamed delete_requests range has_above stops_in pairs_from leaves_after scan_reads scan_answer ascends in_order
    visit_leaf visit_children visit_branch visit leftmost all_marked complete walk_from sound
cases =
    record {
      foreign = refl;
      renames = refl;
      bound = refl;
      within = refl;
      lost = refl;
      past = refl;
      refused = refl;
      silent = refl;
      replaces = refl;
      fits = refl;
      removes = refl;
      absent = refl;
      enough = refl;
      onward = refl;
      equal = refl;
      above = refl;
      empty = refl;
      nothing = refl;
      pairs = refl;
      few = refl;
    }
