-- Every limit that document 01 names, at the limit and one past it: one table, one theorem, by computation; and the lengths of pools, which are said of any
-- pool, since a list of a million bytes does not compute. The limits of one page stand in `page` Worked, that of a batch in `command` Worked, 24 and 25 keys
-- in Worked. Assumes nothing.
use Rattle.std.specs.Prelude.{◌≡◌, true, false, List, [], ◌∷◌, ◌++◌, map, ℕ, zero, suc, eqb, length, replicate, Some}
use Rattle.std.proofs.Math.Path.{refl}
use Rattle.laws.specs.Tests.{choose}
use Rattle.layout.specs.Layout.{node_limit}
use Rattle.account.specs.declared.Mode.TheVariants.{Log, Disk}
use Rattle.account.specs.declared.Request.TheVariants.{Read}
use Rattle.account.specs.declared.Tariff.{Tariff}
use Rattle.account.specs.Tariff.{tariff_of}
use Rattle.node.specs.Change.{remove}
use Rattle.store.specs.Checkpoint.{checkpoint_of, tariff_in, complete}
use Rattle.store.specs.Reopen.{Cells, reopened, pages_pass}
use Rattle.model.specs.Mount.{refused, opened, state_of, TreeSound, mount_cells}
use Rattle.model.specs.Pool.{pool_length}
use Rattle.model.specs.Questions.{of_buffers, of_prepare}
use Rattle.model.specs.Call.{outcome, prepare_of, batch_of}
use Rattle.cases.specs.Pools.{
  pool_bytes,
  in_first,
  tariff,
  score,
  checkpoint_at,
  pairs,
  tree_of,
  entry,
  puts_of,
  linked,
  log_node,
  alone,
  prepared,
  get,
}
use Rattle.cases.specs.Cases.{
  lent,
  prepares,
  calls,
  answers,
  mounts_pages,
  numbers,
  serves,
  scored,
  logged,
  number,
  answered,
  test,
  served,
  sizes,
  Row,
  row,
  said,
  given,
}
use Rattle.model.specs.Worked.{line}
use Rattle.model.specs.Computes.{computes}

-- Pools of four and of five blocks of zeros; the pool that a prepare leaves.
abbrev zeros : List ℕ
zeros = replicate 65536 0

abbrev five_blocks : List ℕ
five_blocks = replicate 81920 0

abbrev one : List ℕ
one = pool_bytes (in_first prepared)

-- A delete of 7; a scan from 9 to 3 by the two bytes of its `most`; a put; so many puts of 7.
abbrev delete : List ℕ
delete = 0x03 ∷ 0 ∷ 4 ∷ 0 ∷ 0 ∷ 0 ∷ 7 ∷ []

abbrev scan : ℕ → ℕ → List ℕ
scan high low = 0x04 ∷ 0 ∷ 10 ∷ 0 ∷ 0 ∷ 0 ∷ 9 ∷ 0 ∷ 0 ∷ 0 ∷ 3 ∷ high ∷ low ∷ []

abbrev put : ℕ → List ℕ
put k = 0x02 ∷ 0 ∷ 8 ∷ 0 ∷ 0 ∷ 0 ∷ k ∷ 0 ∷ 0 ∷ 0 ∷ 50 ∷ []

abbrev puts : ℕ → List ℕ
puts zero = []
puts (suc n) = put 7 ++ puts n

-- A tariff of ones with another number in one of its eight places; all eight in turn, for prepare.
abbrev at : ℕ → ℕ → ℕ → ℕ
at place n i = choose (eqb place i) n 1

abbrev tariff_with : ℕ → ℕ → Tariff
tariff_with n i = tariff_of (at 0 n i) (at 1 n i) (at 2 n i) (at 3 n i) (at 4 n i) (at 5 n i) (at 6 n i) (at 7 n i)

abbrev each_from : ℕ → ℕ → List ℕ → List Row
each_from i n [] = []
each_from i n (e ∷ es) = row (prepares zeros (tariff_with n i)) (number e) ∷ each_from (suc i) n es

abbrev each_place : ℕ → List ℕ → List Row
each_place n expected = each_from 0 n expected

abbrev pub limits : List Row
limits =
    -- "Work table: at least 1,024 × B bytes" (2). No page of these pools checks, so that 5 says: the questions before were passed
    row (calls (lent zeros 4096 [] 0)) (number 5) ∷
    row (calls (lent zeros 4095 [] 0)) (number 2) ∷
    row (calls (lent five_blocks 5120 [] 0)) (number 5) ∷
    row (calls (lent five_blocks 5119 [] 0)) (number 2) ∷
    -- "most (two bytes, 1 to 32)" (3)
    row (calls (lent zeros 4096 (scan 0 0) 512)) (number 3) ∷
    row (calls (lent zeros 4096 (scan 0 1) 512)) (number 5) ∷
    row (calls (lent zeros 4096 (scan 0 32) 512)) (number 5) ∷
    row (calls (lent zeros 4096 (scan 0 33) 512)) (number 3) ∷
    row (calls (lent zeros 4096 (scan 1 1) 4096)) (number 3) ∷
    -- "7 bytes for each command of tags 01 to 03 and 3 + 8 × most for each sweep" (4)
    row (calls (lent zeros 4096 get 7)) (number 5) ∷
    row (calls (lent zeros 4096 get 6)) (number 4) ∷
    row (calls (lent zeros 4096 (put 7) 7)) (number 5) ∷
    row (calls (lent zeros 4096 (put 7) 6)) (number 4) ∷
    row (calls (lent zeros 4096 delete 7)) (number 5) ∷
    row (calls (lent zeros 4096 delete 6)) (number 4) ∷
    row (calls (lent zeros 4096 (scan 0 5) 43)) (number 5) ∷
    row (calls (lent zeros 4096 (scan 0 5) 42)) (number 4) ∷
    row (calls (lent zeros 4096 (get ++ scan 0 5) 50)) (number 5) ∷
    row (calls (lent zeros 4096 (get ++ scan 0 5) 49)) (number 4) ∷
    -- "Node limit: 10 × (B − 2); 65,536 bytes give 20" (7)
    row (mounts_pages (in_first (tree_of 20))) (number 0) ∷
    row (mounts_pages (in_first (tree_of 21))) (number 7) ∷
    -- "Are enough node ids unused?" (9): a new key in a full leaf needs one id. At 19 nodes there is one; at 20 there is none, and a key that is
    -- there needs none
    row (answers (lent (pool_bytes (in_first (tree_of 19))) 4096 (put 24) 7)) (answered 0 (0x80 ∷ 0 ∷ 0 ∷ []) 13) ∷
    row (answers (lent (pool_bytes (in_first (tree_of 20))) 4096 (put 24) 7)) (answered 0 (0x8F ∷ 0 ∷ 1 ∷ 9 ∷ []) 0) ∷
    row (answers (lent (pool_bytes (in_first (tree_of 20))) 4096 (put 23) 7)) (answered 0 (0x82 ∷ 0 ∷ 4 ∷ 0 ∷ 0 ∷ 0 ∷ 123 ∷ []) 6) ∷
    -- "at most three pages a log node" (7)
    row (mounts_pages (in_first (log_node (linked ∷ []) (1 ∷ 2 ∷ [])))) (number 0) ∷
    row (mounts_pages (in_first (log_node (linked ∷ []) (1 ∷ 2 ∷ 3 ∷ [])))) (number 7) ∷
    -- "at most 24 keys after every entry" (7): 24; 25; 25 for a moment
    row (mounts_pages (in_first (log_node (puts_of (pairs 24 0) ++ (linked ∷ [])) []))) (number 0) ∷
    row (mounts_pages (in_first (log_node (puts_of (pairs 25 0) ++ (linked ∷ [])) []))) (number 7) ∷
    row (mounts_pages (in_first (log_node (puts_of (pairs 25 0) ++ (entry (remove 0) ∷ linked ∷ [])) []))) (number 7) ∷
    -- "scores below the limit" (7), T being 5
    row (mounts_pages (in_first (alone (checkpoint_at 3 tariff (score 0 4 ∷ []) 1)))) (number 0) ∷
    row (mounts_pages (in_first (alone (checkpoint_at 3 tariff (score 0 5 ∷ []) 1)))) (number 7) ∷
    -- "tariff in range" (7): 1,000,000 and one more for a read in disk mode; 1 and 0 for the switch to disk
    row (mounts_pages (in_first (alone (checkpoint_at 3 (tariff_with 1000000 3) (score 0 0 ∷ []) 1)))) (number 0) ∷
    row (mounts_pages (in_first (alone (checkpoint_at 3 (tariff_with 1000001 3) (score 0 0 ∷ []) 1)))) (number 7) ∷
    row (mounts_pages (in_first (alone (checkpoint_at 3 (tariff_with 1 6) (score 0 0 ∷ []) 1)))) (number 0) ∷
    row (mounts_pages (in_first (alone (checkpoint_at 3 (tariff_with 0 6) (score 0 0 ∷ []) 1)))) (number 7) ∷
    -- "Is the greatest stamp at most 4,000,000,000?" (8)
    row (numbers (in_first (alone (checkpoint_at 4000000000 tariff (score 0 0 ∷ []) 1)))) (test true) ∷
    row (numbers (in_first (alone (checkpoint_at 4000000001 tariff (score 0 0 ∷ []) 1)))) (test false) ∷
    -- "If s is T or more, switch first": a read of a log node adds 2, and T is 5
    row (serves Log 2 Read) (served (line 3 Log 4)) ∷
    row (serves Log 3 Read) (served (line 4 Disk 0)) ∷
    -- "1 to 50 fields 14 on the first page, 1 to 54 on others; a page is filled before the next"
    row (scored 50) (sizes (50 ∷ [])) ∷
    row (scored 51) (sizes (50 ∷ 1 ∷ [])) ∷
    row (scored 104) (sizes (50 ∷ 54 ∷ [])) ∷
    row (scored 105) (sizes (50 ∷ 54 ∷ 1 ∷ [])) ∷
    row (scored 620) (sizes (50 ∷ 54 ∷ 54 ∷ 54 ∷ 54 ∷ 54 ∷ 54 ∷ 54 ∷ 54 ∷ 54 ∷ 54 ∷ 30 ∷ [])) ∷
    -- "Entries go to a buffer of 27, written as one page when the next group does not fit, and at closing if not empty"
    row (logged (lent one 4096 (puts 27) 512)) (sizes (1 ∷ 27 ∷ [])) ∷
    row (logged (lent one 4096 (puts 28) 512)) (sizes (1 ∷ 27 ∷ 1 ∷ [])) ∷
    -- "is each tariff number in range?" (10): six of 0 to 1,000,000, the two switches of 1 to 1,000,000
    each_place 0 (0 ∷ 0 ∷ 0 ∷ 0 ∷ 0 ∷ 0 ∷ 10 ∷ 10 ∷ []) ++
    (each_place 1 (replicate 8 0) ++ (each_place 1000000 (replicate 8 0) ++ each_place 1000001 (replicate 8 10)))

pub limits_hold : given limits ≡ said limits
unfolding computes
limits_hold = refl

-- "Pool: B blocks of 16,384 bytes, B from 4 to 64" (1), of any pool: three blocks, a byte less than four, four, a byte more, 64, 65.
pub record Lengths (pool : List ℕ) : Type 0 where
  pub three : length pool ≡ 49152 → pool_length pool ≡ false
  pub cut : length pool ≡ 65535 → pool_length pool ≡ false
  pub four : length pool ≡ 65536 → pool_length pool ≡ true
  pub over : length pool ≡ 65537 → pool_length pool ≡ false
  pub most : length pool ≡ 1048576 → pool_length pool ≡ true
  pub many : length pool ≡ 1064960 → pool_length pool ≡ false

pub lengths : (pool : List ℕ) → Lengths pool
unfolding pool_length
lengths pool =
    record {
      three = λ e. rw e refl;
      cut = λ e. rw e refl;
      four = λ e. rw e refl;
      over = λ e. rw e refl;
      most = λ e. rw e refl;
      many = λ e. rw e refl;
    }

-- "Node limit: 10 × (B − 2); 65,536 bytes give 20, 1,048,576 give 620."
pub node_limits : map node_limit (4 ∷ 64 ∷ []) ≡ 20 ∷ 620 ∷ []
node_limits = refl

-- A pool that has no length named above is refused with 1 by prepare and batch.
pub wrong-length_prepare : (pool : List ℕ) (t : Tariff) → pool_length pool ≡ false → (prepare_of pool t).number ≡ 1
unfolding prepare_of of_prepare
wrong-length_prepare pool t e = rw e refl

pub wrong-length_batch : (pool table batch buffer : List ℕ) → pool_length pool ≡ false → (batch_of pool table batch buffer).number ≡ 1
unfolding outcome of_buffers
wrong-length_batch pool table batch buffer e = rw e refl

-- "Is the greatest stamp at most 4,000,000,000? (8)", of any pool that passes questions 5 to 7: a mount with such numbers does not compute, since a
-- node's content is gathered over every sequence number from 1 to the greatest.
module _ (blocks : ℕ) (c : Cells) (t : Tariff) (five : pages_pass blocks c ≡ true) (six : complete (checkpoint_of (reopened blocks c)) ≡ true)
    (first : tariff_in (checkpoint_of (reopened blocks c)) ≡ Some t) (seven : TreeSound blocks t (reopened blocks c) ≡ true) where
  pub last-number : (reopened blocks c).last ≡ 4000000000 → mount_cells blocks c ≡ opened t (state_of (reopened blocks c))
  unfolding mount_cells
  last-number e = rw (five, six, first, seven, e) refl

  pub number_past : (reopened blocks c).last ≡ 4000000001 → mount_cells blocks c ≡ refused 8
  unfolding mount_cells
  number_past e = rw (five, six, first, seven, e) refl
