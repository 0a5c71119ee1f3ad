-- Small pools written by hand, page by page, for the worked limits and orders: a tree of so many nodes, a node that lies on log pages,
-- checkpoints. Assumes nothing.
use Rattle.std.specs.Prelude.{List, [], ◌∷◌, ◌++◌, ℕ, zero, suc, ◌+◌, ◌-◌, ◌*◌, ltb, replicate, Some}
use Rattle.laws.specs.Tests.{choose}
use Rattle.layout.specs.Layout.{no_leaf}
use Rattle.pairs.specs.Pairs.{Pair}
use Rattle.account.specs.declared.Tariff.{Tariff}
use Rattle.account.specs.Tariff.{tariff_of}
use Rattle.node.specs.declared.Shape.TheVariants.{Leaf, Branch}
use Rattle.node.specs.Node.{Node, node}
use Rattle.node.specs.Change.{Change, put, link}
use Rattle.page.specs.Page.{Entry, Score, Page, page, log, whole, checkpoint}
use Rattle.store.specs.Reopen.{cells}
use Rattle.model.specs.Bytes.{bytes_of}

-- A pool's bytes from the written pages of its blocks.
abbrev pub pool_bytes : List (List Page) → List ℕ
pool_bytes blocks = bytes_of (cells 32 blocks)

-- Four blocks, the pages in the first.
abbrev pub in_first : List Page → List (List Page)
in_first pages = pages ∷ replicate 3 []

-- "Tariff 3 1 2, 1 4 4, 3 2; T = 5."
abbrev pub tariff : Tariff
tariff = tariff_of 3 1 2 1 4 4 3 2

abbrev pub score : ℕ → ℕ → Score
score n s = record { id = n; score = s }

-- Scores of the ids below a count, the greatest id first: "in any order".
abbrev pub scores : ℕ → List Score
scores zero = []
scores (suc n) = score n 0 ∷ scores n

-- A checkpoint on one page.
abbrev pub checkpoint_at : ℕ → Tariff → List Score → ℕ → Page
checkpoint_at s t xs n = page s (checkpoint (Some t) xs (Some n))

-- So many pairs from a key on, each value 100 more than its key.
abbrev pub pairs : ℕ → ℕ → List Pair
pairs zero k = []
pairs (suc n) k = (k, 100 + k) ∷ pairs n (suc k)

-- A root over leaves: leaf 1 has the keys 0 to 23, the others none; the root's keys are 100, 200 and so on.
abbrev leaf_pairs : ℕ → List Pair
leaf_pairs zero = []
leaf_pairs (suc zero) = pairs 24 0
leaf_pairs (suc (suc i)) = []

abbrev leaf_of : ℕ → ℕ → Node
leaf_of count i = node Leaf (leaf_pairs i) (choose (ltb (suc i) count) (suc i) no_leaf)

abbrev root_keys : ℕ → List Pair
root_keys zero = []
root_keys (suc i) = root_keys i ++ ((100 * suc i, suc i) ∷ [])

abbrev root_of : ℕ → Node
root_of count = node Branch (root_keys (count - 2)) (count - 1)

abbrev leaf_pages : ℕ → ℕ → List Page
leaf_pages count zero = []
leaf_pages count (suc i) = leaf_pages count i ++ (page (2 + i) (whole (suc i) (leaf_of count (suc i))) ∷ [])

-- The node pages of a tree of so many nodes, three or more: node i has the sequence number i + 1. And with their checkpoint.
abbrev pub tree_pages : ℕ → List Page
tree_pages count = page 1 (whole 0 (root_of count)) ∷ leaf_pages count (count - 1)

abbrev pub tree_of : ℕ → List Page
tree_of count = tree_pages count ++ (checkpoint_at (1 + count) tariff (scores count) count ∷ [])

-- An entry of node 0 under version 1; and so many of them, the keys put from 0 on.
abbrev pub entry : Change → Entry
entry c = record { id = 0; version = 1; change = c }

abbrev pub puts_of : List Pair → List Entry
puts_of [] = []
puts_of (p ∷ ps) = entry (put p.0 p.1) ∷ puts_of ps

abbrev pub linked : Entry
linked = entry (link Leaf no_leaf)

-- Node 0 alone, in log mode: its first log page with these entries, then a log page with one entry for each key named, then the checkpoint.
abbrev one_each : ℕ → List ℕ → List Page → List Page
one_each s [] rest = rest
one_each s (k ∷ ks) rest = page s (log (entry (put k k) ∷ [])) ∷ one_each (suc s) ks rest

abbrev pub log_node : List Entry → List ℕ → List Page
log_node es ks = page 2 (log es) ∷ one_each 3 ks (checkpoint_at 9 tariff (score 0 0 ∷ []) 1 ∷ [])

-- Node 0 alone, as prepare leaves it, with a checkpoint of its own.
abbrev pub alone : Page → List Page
alone p = page 2 (log (linked ∷ [])) ∷ p ∷ []

-- The pages that a prepare leaves.
abbrev pub prepared : List Page
prepared = alone (checkpoint_at 3 tariff (score 0 0 ∷ []) 1)

-- A get of 7.
abbrev pub get : List ℕ
get = 0x01 ∷ 0 ∷ 4 ∷ 0 ∷ 0 ∷ 0 ∷ 7 ∷ []
