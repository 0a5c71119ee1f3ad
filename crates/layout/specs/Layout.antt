-- Every size and limit of the two documents, named once. Assumes nothing.
use Rattle.std.specs.Prelude.{ℕ, ◌+◌, ◌-◌, ◌*◌}

-- Pool: B blocks of 16,384 bytes, B from 4 to 64; a page has 512 bytes.
abbrev pub page_bytes : ℕ
page_bytes = 512

abbrev pub pages_in_block : ℕ
pages_in_block = 32

abbrev pub block_bytes : ℕ
block_bytes = 16384

abbrev pub fewest_blocks : ℕ
fewest_blocks = 4

abbrev pub most_blocks : ℕ
most_blocks = 64

abbrev pub most_pages : ℕ
most_pages = pages_in_block * most_blocks

-- The map of live pages: a bit a page.
abbrev pub live_bytes : ℕ
live_bytes = 256

-- Node limit: 10 × (B − 2).
abbrev pub node_limit : ℕ → ℕ
node_limit blocks = 10 * (blocks - 2)

abbrev pub most_nodes : ℕ
most_nodes = node_limit most_blocks

-- Work table: at least 1,024 × B bytes.
abbrev pub table_bytes : ℕ → ℕ
table_bytes blocks = 1024 * blocks

-- The tree check works in so many bytes: a slot of 16 for each node that may be due, and a mark for each id.
abbrev pub due_bytes : ℕ
due_bytes = 16

abbrev pub work_bytes : ℕ → ℕ
work_bytes nodes = due_bytes * nodes + nodes

-- Batch: 0 to 32,768 bytes.
abbrev pub most_batch_bytes : ℕ
most_batch_bytes = 32768

-- A scan answers 1 to 32 pairs at most.
abbrev pub most_pairs : ℕ
most_pairs = 32

-- "A wall has up to 16 panels" (document 02, P2).
abbrev pub panels : ℕ
panels = 16

-- The length of a queue has four bytes (document 02, P5).
abbrev pub length_bytes : ℕ
length_bytes = 4

-- A node has 0 to 24 keys; the first 12 stay in a split.
abbrev pub most_keys : ℕ
most_keys = 24

abbrev pub kept_keys : ℕ
kept_keys = 12

-- A log page has 1 to 27 entries, and so has the buffer at most; a log node lies on at most three pages.
abbrev pub most_entries : ℕ
most_entries = 27

abbrev pub entry_size : ℕ
entry_size = 15

abbrev pub most_log_pages : ℕ
most_log_pages = 3

-- A checkpoint has 1 to 50 scores on its first page, 1 to 54 on others.
abbrev pub first_scores : ℕ
first_scores = 50

abbrev pub other_scores : ℕ
other_scores = 54

-- Fields begin behind the 7 bytes of the sequence number; the first page's scores behind the 35 of the tariff.
abbrev pub fields_at : ℕ
fields_at = 7

abbrev pub first_scores_at : ℕ
first_scores_at = fields_at + 35

abbrev pub scores_less : ℕ
scores_less = other_scores - first_scores

-- The greatest sequence number with which a pool opens.
abbrev pub last_sequence : ℕ
last_sequence = 4000000000

-- FFFFFFFF, the link of the last leaf; the greatest key; and the bound that every 32-bit number stays below.
abbrev pub no_leaf : ℕ
no_leaf = 4294967295

abbrev pub last_key : ℕ
last_key = 4294967295

abbrev pub bound32 : ℕ
bound32 = 4294967296
