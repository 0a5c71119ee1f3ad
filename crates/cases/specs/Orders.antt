-- The questions in their order, pools that open and pools that do not, and what a call leaves of the buffers lent to it: one table, one theorem, by
-- computation. Assumes nothing.
use Rattle.std.specs.Prelude.{◌≡◌, refl, List, [], ◌∷◌, ◌++◌, ℕ, zero, suc, replicate, None, Some}
use Rattle.account.specs.Tariff.{tariff_of}
use Rattle.layout.specs.Layout.{no_leaf}
use Rattle.node.specs.declared.Shape.TheVariants.{Leaf}
use Rattle.node.specs.Node.{node}
use Rattle.node.specs.Change.{put}
use Rattle.page.specs.Page.{Entry, Score, Page, page, log, whole, checkpoint}
use Rattle.model.specs.Bytes.{bytes_of}
use Rattle.cases.specs.Pools.{pool_bytes, in_first, tariff, score, scores, checkpoint_at, tree_pages, tree_of, entry, alone, prepared, get}
use Rattle.cases.specs.Cases.{Lent, lent, prepares, calls, tables, buffers, mounts, mounts_pages, scores_after}
use Rattle.cases.specs.Cases.{Result, number, bytes, fields, Row, row, said, given}
use Rattle.model.specs.Computes.{computes}

-- A pool of zeros, no page of which checks; a batch that no tag begins.
abbrev zeros : List ℕ
zeros = replicate 65536 0

abbrev no_command : List ℕ
no_command = 0x10 ∷ []

-- The checkpoint of 51 nodes on two pages, and pages between the two.
abbrev on_two : List Page → List Page
on_two between =
    page 5 (checkpoint (Some tariff) (scores 50) None) ∷ between ++ (page 7 (checkpoint None (score 50 0 ∷ []) (Some 51)) ∷ [])

-- An entry, and a node page, of a node that there is not.
abbrev strange_entry : ℕ → Entry
strange_entry version = record { id = 9; version = version; change = put 7 7 }

abbrev strange_page : ℕ → Page
strange_page s = page s (whole 9 (node Leaf [] no_leaf))

-- So many of them, from a sequence number on.
abbrev strange_pages : ℕ → ℕ → List Page
strange_pages zero s = []
strange_pages (suc n) s = strange_page s ∷ strange_pages n (suc s)

-- Three nodes and their checkpoint with these fields 14 as they stand; such a pool lent with the empty batch.
abbrev three_nodes : List Score → List (List Page)
three_nodes xs = in_first (tree_pages 3 ++ (checkpoint_at 4 tariff xs 3 ∷ []))

abbrev empty_batch : List Score → Lent
empty_batch xs = lent (pool_bytes (three_nodes xs)) 4096 [] 0

-- The scores 0, 1 and 2 of the nodes 0, 1 and 2, in node order.
abbrev in_node_order : Result
in_node_order = fields (score 0 0 ∷ score 1 1 ∷ score 2 2 ∷ [])

-- The pool that a prepare leaves.
abbrev one : List ℕ
one = pool_bytes (in_first prepared)

abbrev pub orders : List Row
orders =
    -- "Batch, in this order; a 'no' ends it with the number": 1 and 2, 2 and 3, 3 and 4, 4 and 5, 5 alone
    row (calls (lent (replicate 65535 0) 0 no_command 0)) (number 1) ∷
    row (calls (lent one 4095 no_command 0)) (number 2) ∷
    row (calls (lent one 4096 (get ++ no_command) 0)) (number 3) ∷
    row (calls (lent zeros 4096 get 6)) (number 4) ∷
    row (calls (lent zeros 4096 get 7)) (number 5) ∷
    -- 5 and 6: two blocks partly written, and no checkpoint
    row (mounts_pages ((strange_page 2 ∷ []) ∷ (strange_page 3 ∷ []) ∷ replicate 2 [])) (number 5) ∷
    -- 6 and 7: one score for two nodes, and neither on a page
    row (mounts_pages (in_first (checkpoint_at 3 tariff (score 0 0 ∷ []) 2 ∷ []))) (number 6) ∷
    -- 7 and 8: a node past the limit, and a number past it
    row (mounts_pages (in_first (tree_pages 21 ++ (checkpoint_at 4000000001 tariff (scores 21) 21 ∷ [])))) (number 7) ∷
    -- "Prepare asks question 1, then: is each tariff number in range?": 1 and 10, 10 alone
    row (prepares (replicate 65535 0) (tariff_of 0 0 0 0 0 0 0 0)) (number 1) ∷
    row (prepares zeros (tariff_of 0 0 0 0 0 0 0 0)) (number 10) ∷
    -- pools whose pages are all right: a prepare's; three nodes in block 2; their checkpoint in front of them
    row (mounts (in_first prepared)) (number 0) ∷
    row (mounts_pages ([] ∷ [] ∷ tree_of 3 ∷ [] ∷ [])) (number 0) ∷
    row (mounts_pages (in_first (checkpoint_at 4 tariff (scores 3) 3 ∷ tree_pages 3))) (number 0) ∷
    -- "back to the newest field 13" (6): a blank pool has none
    row (mounts (replicate 4 [])) (number 6) ∷
    -- "form a complete closing set" (6): the greatest number on a log page; a log page between the two of a set, which without it is complete and has
    -- too many nodes
    row (mounts_pages (in_first (prepared ++ (page 4 (log (entry (put 7 7) ∷ [])) ∷ [])))) (number 6) ∷
    row (mounts_pages (in_first (on_two (page 6 (log (strange_entry 1 ∷ [])) ∷ [])))) (number 6) ∷
    row (mounts_pages (in_first (on_two []))) (number 7) ∷
    -- "the last ends with field 15" (6): a count on the page before the last
    row (mounts_pages
    (in_first
    (tree_pages 3 ++
    (page 5 (checkpoint (Some tariff) (scores 2) (Some 3)) ∷ page 6 (checkpoint None (score 2 0 ∷ []) (Some 3)) ∷ []))))
    (number 6) ∷
    -- "each id below its count once" (6): an id twice, one at the count, one more than the count, a count of 0
    row (mounts_pages (three_nodes (score 0 0 ∷ score 1 0 ∷ score 1 0 ∷ []))) (number 6) ∷
    row (mounts_pages (three_nodes (score 0 0 ∷ score 0 0 ∷ score 2 0 ∷ []))) (number 6) ∷
    row (mounts_pages (three_nodes (score 0 0 ∷ score 1 0 ∷ score 3 0 ∷ []))) (number 6) ∷
    row (mounts_pages (three_nodes (score 3 0 ∷ scores 3))) (number 6) ∷
    row (mounts_pages (in_first (alone (checkpoint_at 3 tariff (score 0 0 ∷ []) 0)))) (number 6) ∷
    -- document 02, P1: "pools with any order still open", and the empty batch writes the fields 14 "by ascending node id"
    row (scores_after (empty_batch (score 0 0 ∷ score 1 1 ∷ score 2 2 ∷ []))) in_node_order ∷
    row (scores_after (empty_batch (score 2 2 ∷ score 1 1 ∷ score 0 0 ∷ []))) in_node_order ∷
    row (scores_after (empty_batch (score 1 1 ∷ score 2 2 ∷ score 0 0 ∷ []))) in_node_order ∷
    row (scores_after (empty_batch (score 2 2 ∷ score 0 0 ∷ score 1 1 ∷ []))) in_node_order ∷
    -- "In a block blank pages follow written ones" (5)
    row (calls (lent (bytes_of (Some (strange_page 2) ∷ None ∷ Some (strange_page 3) ∷ replicate 125 None)) 4096 [] 0)) (number 5) ∷
    -- "At least one block is wholly blank" (5): two blocks full and one begun, then three
    row (mounts_pages ((prepared ++ strange_pages 30 10) ∷ strange_pages 32 40 ∷ [] ∷ (checkpoint_at 104 tariff (score 0 0 ∷ []) 1 ∷ []) ∷ [])) (number 0) ∷
    row (mounts_pages
    ((prepared ++ strange_pages 30 10) ∷ strange_pages 32 40 ∷ strange_pages 32 72 ∷ (checkpoint_at 104 tariff (score 0 0 ∷ []) 1 ∷ []) ∷ []))
    (number 5) ∷
    -- "at most one is partly written, and it holds the greatest stamp" (5): two; one that does not
    row (mounts_pages (prepared ∷ (strange_page 1 ∷ []) ∷ replicate 2 [])) (number 5) ∷
    row (mounts_pages (prepared ∷ (strange_pages 31 10 ++ (checkpoint_at 104 tariff (score 0 0 ∷ []) 1 ∷ [])) ∷ replicate 2 [])) (number 5) ∷
    -- "Page stamps all differ, and none is the version of a log entry" (5)
    row (mounts_pages (in_first (strange_page 3 ∷ prepared))) (number 5) ∷
    row (mounts_pages (in_first (prepared ++ (page 4 (log (strange_entry 3 ∷ [])) ∷ checkpoint_at 5 tariff (score 0 0 ∷ []) 1 ∷ [])))) (number 5) ∷
    row (mounts_pages (in_first (prepared ++ (page 4 (log (strange_entry 1 ∷ [])) ∷ checkpoint_at 5 tariff (score 0 0 ∷ []) 1 ∷ [])))) (number 0) ∷
    -- "After refusals 1 and 2 the work table too; otherwise its first 1,024 × B bytes are zero, as after an accepted batch, and bytes beyond are
    -- untouched": after 0, 1, 2, 3, 4, 5
    row (tables (lent one 4100 [] 0)) (bytes (replicate 4096 0 ++ replicate 4 7)) ∷
    row (tables (lent (replicate 65535 0) 4100 [] 0)) (bytes (replicate 4100 7)) ∷
    row (tables (lent one 4095 [] 0)) (bytes (replicate 4095 7)) ∷
    row (tables (lent one 4100 no_command 0)) (bytes (replicate 4096 0 ++ replicate 4 7)) ∷
    row (tables (lent one 4100 get 6)) (bytes (replicate 4096 0 ++ replicate 4 7)) ∷
    row (tables (lent zeros 4100 [] 0)) (bytes (replicate 4096 0 ++ replicate 4 7)) ∷
    -- "A refused call leaves pool and answers as found"; an accepted one "leaves answer bytes beyond that length"
    row (buffers (lent one 4096 get 6)) (bytes (replicate 6 7)) ∷
    row (buffers (lent one 4096 get 9)) (bytes (0x80 ∷ 0 ∷ 0 ∷ replicate 6 7)) ∷
    []

pub orders_hold : given orders ≡ said orders
unfolding computes
orders_hold = refl
