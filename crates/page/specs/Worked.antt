-- Pages whose bytes are known, and what bytes read back as: the pages that prepare and the worked batch of document 01 leave, a leaf's and a
-- branch's, pages at which each sum passes its modulus, and the limits of every kind of page. Assumes nothing.
use Rattle.std.specs.Prelude.{◌≡◌, refl, Bool, true, false, List, [], ◌∷◌, ◌++◌, map, ℕ, zero, suc, ◌+◌, length, take, drop, replicate, None, Some}
use Rattle.laws.specs.Lay.{part}
use Rattle.laws.specs.BigEndian.{number_at}
use Rattle.account.specs.declared.Costs.{Costs}
use Rattle.account.specs.declared.Tariff.{Tariff}
use Rattle.node.specs.declared.Shape.TheVariants.{Leaf, Branch}
use Rattle.node.specs.Node.{node}
use Rattle.node.specs.Change.{Change, put, remove, link}
use Rattle.wire.specs.Tag.{rows, find, length_of, is_node_bytes}
use Rattle.wire.specs.Field.{field, field_at, payload_at}
use Rattle.page.specs.Page.{Entry, Score, log, whole, checkpoint, Page, page}
use Rattle.page.specs.Image.{entry_bytes, pairs_bytes, whole_bytes, tariff_bytes, score_bytes, fields, content_bytes, numbered, sums_field, sealed, image}
use Rattle.page.specs.Decode.{
  Decoded,
  blank,
  written,
  bad,
  all_blank,
  sealed_at,
  run,
  payloads,
  change_ok,
  change_of,
  entry_ok,
  entry_of,
  pairs_from,
  node_ok,
  node_of,
  tariff_of,
  score_of,
  when,
  decode_log,
  decode_node,
  decode_scores,
  decode_counted,
  decode_checkpoint,
  decode_content,
  decode_written,
  decode,
}

abbrev entry : ℕ → ℕ → Change → Entry
entry i v c = record { id = i; version = v; change = c }

abbrev costs : ℕ → ℕ → ℕ → ℕ → Costs
costs r e w n = record { read = r; edit = e; rewrite = w; enter = n }

-- Tariff 3 1 2, 1 4 4, 3 2.
abbrev worked_tariff : Tariff
worked_tariff = record { log = costs 3 1 2 2; disk = costs 1 4 4 3 }

-- Prepare's node 0, an empty leaf of version 1, and its checkpoint page.
abbrev pub prepared_node : Page
prepared_node = page 2 (log (entry 0 1 (link Leaf 0xFFFFFFFF) ∷ []))

abbrev pub prepared_checkpoint : Page
prepared_checkpoint = page 3 (checkpoint (Some worked_tariff) (record { id = 0; score = 0 } ∷ []) (Some 1))

-- The worked batch's log page: 7 put with 100, and deleted.
abbrev pub worked_log : Page
worked_log = page 4 (log (entry 0 1 (put 7 100) ∷ entry 0 1 (remove 7) ∷ []))

-- Node 5, a leaf with the link 9; node 2, a branch whose last pointer is 4. "Id (2), 3 for leaf or 4 for branch (1), link (4), k pairs."
abbrev pub leaf_page : Page
leaf_page = page 6 (whole 5 (node Leaf ((7, 100) ∷ (0x01020304, 0x05060708) ∷ []) 9))

abbrev pub branch_page : Page
branch_page = page 8 (whole 2 (node Branch ((12, 1) ∷ (24, 3) ∷ []) 4))

-- A log page of so many entries of the greatest numbers there are; a node page of so many pairs of them.
abbrev greatest : ℕ
greatest = 0xFFFFFFFF

abbrev full_log : ℕ → Page
full_log n = page greatest (log (replicate n (entry 0xFFFF 0xFFFFFFFE (put greatest greatest))))

abbrev full_node : ℕ → Page
full_node n = page 9 (whole 0xFFFF (node Leaf (replicate n (greatest, greatest)) greatest))

-- A page of the table, and its bytes from a place on.
pub record Case : Type 0 where
  pub of : Page
  pub from : ℕ
  pub bytes : List ℕ

abbrev case : Page → ℕ → List ℕ → Case
case p from bytes = record { of = p; from = from; bytes = bytes }

abbrev pub cases : List Case
cases =
    case prepared_node 0
    (0x10 ∷ 0 ∷ 4 ∷ 0 ∷ 0 ∷ 0 ∷ 2 ∷
    0x12 ∷ 0 ∷ 0x0F ∷ 0 ∷ 0 ∷ 0 ∷ 0 ∷ 0 ∷ 1 ∷ 3 ∷ 0 ∷ 0 ∷ 0 ∷ 0 ∷ 0xFF ∷ 0xFF ∷ 0xFF ∷ 0xFF ∷
    0x1F ∷ 0 ∷ 4 ∷ 0x0E ∷ 0x7A ∷ 0x04 ∷ 0x38 ∷ []) ∷
    -- "then FF to the end"
    case prepared_node 32 (replicate 480 0xFF) ∷
    case prepared_checkpoint 0
    (0x10 ∷ 0 ∷ 4 ∷ 0 ∷ 0 ∷ 0 ∷ 3 ∷
    0x13 ∷ 0 ∷ 0x20 ∷ 0 ∷ 0 ∷ 0 ∷ 3 ∷ 0 ∷ 0 ∷ 0 ∷ 1 ∷ 0 ∷ 0 ∷ 0 ∷ 2 ∷ 0 ∷ 0 ∷ 0 ∷ 1 ∷ 0 ∷ 0 ∷ 0 ∷ 4 ∷ 0 ∷ 0 ∷ 0 ∷ 4 ∷ 0 ∷ 0 ∷ 0 ∷ 3 ∷ 0 ∷ 0 ∷ 0 ∷ 2 ∷
    0x14 ∷ 0 ∷ 6 ∷ 0 ∷ 0 ∷ 0 ∷ 0 ∷ 0 ∷ 0 ∷
    0x15 ∷ 0 ∷ 2 ∷ 0 ∷ 1 ∷
    0x1F ∷ 0 ∷ 4 ∷ 0x12 ∷ 0xA5 ∷ 0x00 ∷ 0x91 ∷ []) ∷
    case worked_log 0
    (0x10 ∷ 0 ∷ 4 ∷ 0 ∷ 0 ∷ 0 ∷ 4 ∷
    0x12 ∷ 0 ∷ 0x0F ∷ 0 ∷ 0 ∷ 0 ∷ 0 ∷ 0 ∷ 1 ∷ 1 ∷ 0 ∷ 0 ∷ 0 ∷ 7 ∷ 0 ∷ 0 ∷ 0 ∷ 100 ∷
    0x12 ∷ 0 ∷ 0x0F ∷ 0 ∷ 0 ∷ 0 ∷ 0 ∷ 0 ∷ 1 ∷ 2 ∷ 0 ∷ 0 ∷ 0 ∷ 7 ∷ 0 ∷ 0 ∷ 0 ∷ 0 ∷
    0x1F ∷ 0 ∷ 4 ∷ 0x13 ∷ 0x50 ∷ 0x00 ∷ 0xD2 ∷ []) ∷
    case leaf_page 0
    (0x10 ∷ 0 ∷ 4 ∷ 0 ∷ 0 ∷ 0 ∷ 6 ∷
    0x11 ∷ 0 ∷ 0x17 ∷ 0 ∷ 5 ∷ 3 ∷ 0 ∷ 0 ∷ 0 ∷ 9 ∷ 0 ∷ 0 ∷ 0 ∷ 7 ∷ 0 ∷ 0 ∷ 0 ∷ 100 ∷ 1 ∷ 2 ∷ 3 ∷ 4 ∷ 5 ∷ 6 ∷ 7 ∷ 8 ∷
    0x1F ∷ 0 ∷ 4 ∷ 0x0C ∷ 0xCE ∷ 0x00 ∷ 0xE3 ∷ []) ∷
    case branch_page 0
    (0x10 ∷ 0 ∷ 4 ∷ 0 ∷ 0 ∷ 0 ∷ 8 ∷
    0x11 ∷ 0 ∷ 0x17 ∷ 0 ∷ 2 ∷ 4 ∷ 0 ∷ 0 ∷ 0 ∷ 4 ∷ 0 ∷ 0 ∷ 0 ∷ 12 ∷ 0 ∷ 0 ∷ 0 ∷ 1 ∷ 0 ∷ 0 ∷ 0 ∷ 24 ∷ 0 ∷ 0 ∷ 0 ∷ 3 ∷
    0x1F ∷ 0 ∷ 4 ∷ 0x09 ∷ 0x4B ∷ 0x00 ∷ 0x77 ∷ []) ∷
    -- the bytes come to 98,321: a passes 65,535, and would be 8012 by 65,536
    case (full_log 27) 493 (0x1F ∷ 0 ∷ 4 ∷ 0x01 ∷ 0xCC ∷ 0x80 ∷ 0x13 ∷ []) ∷
    -- the bytes come to 50,738: b alone passes 65,535, and would be 6D7A by 65,536
    case (full_node 24) 209 (0x1F ∷ 0 ∷ 4 ∷ 0x6D ∷ 0xC7 ∷ 0xC6 ∷ 0x33 ∷ []) ∷
    []

-- The case as the definitions have it.
abbrev pub found : Case → Case
found c = case c.of c.from (take (length c.bytes) (drop c.from (image c.of)))

-- So many scores; a checkpoint page of them behind a tariff, and one without; both with a count and without.
abbrev scores : ℕ → List Score
scores zero = []
scores (suc n) = record { id = n; score = 1000 + n } ∷ scores n

abbrev first_of : ℕ → Page
first_of n = page 9 (checkpoint (Some worked_tariff) (scores n) None)

abbrev other_of : ℕ → Page
other_of n = page 9 (checkpoint None (scores n) None)

abbrev first_last : ℕ → Page
first_last n = page 9 (checkpoint (Some worked_tariff) (scores n) (Some n))

abbrev other_last : ℕ → Page
other_last n = page 9 (checkpoint None (scores n) (Some n))

-- Pages that check: those of the table, and each kind at its limits. "1 to 27 fields 12", "k from 0 to 24", "1 to 50 fields 14 on the first page, 1
-- to 54 on others; a page is filled before the next".
abbrev pub right : List Page
right =
    prepared_node ∷
    prepared_checkpoint ∷
    worked_log ∷
    leaf_page ∷
    branch_page ∷
    full_log 1 ∷
    full_log 27 ∷
    full_node 0 ∷
    full_node 24 ∷
    first_of 50 ∷
    other_of 54 ∷
    first_last 1 ∷
    first_last 49 ∷
    first_last 50 ∷
    other_last 1 ∷
    other_last 53 ∷
    other_last 54 ∷
    []

-- Pages that do not: one past each limit; not filled, and without a count; a sequence number of 0, a version of 0 and one that is the page's.
abbrev pub wrong : List Page
wrong =
    full_log 0 ∷
    full_log 28 ∷
    full_node 25 ∷
    first_of 1 ∷
    first_of 49 ∷
    first_of 51 ∷
    other_of 53 ∷
    other_of 55 ∷
    first_last 0 ∷
    first_last 51 ∷
    other_last 0 ∷
    other_last 55 ∷
    page 0 (whole 5 (node Leaf [] 9)) ∷
    page 7 (log (entry 0 0 (put 7 100) ∷ [])) ∷
    page 7 (log (entry 0 7 (put 7 100) ∷ [])) ∷
    []

abbrev read_back : Page → Decoded
read_back p = decode (image p)

-- Contents that no page has, each sealed as one: an entry of node 5 and version 1 by its kind, key and pointer; node 5 by its type, without a pair; one
-- score; a tariff; a count.
abbrev an_entry : ℕ → ℕ → ℕ → List ℕ
an_entry kind key pointer = field 0x12 (0 ∷ 5 ∷ 0 ∷ 0 ∷ 0 ∷ 1 ∷ kind ∷ 0 ∷ 0 ∷ 0 ∷ key ∷ 0 ∷ 0 ∷ 0 ∷ pointer ∷ [])

abbrev a_node : ℕ → List ℕ
a_node type = field 0x11 (0 ∷ 5 ∷ type ∷ 0 ∷ 0 ∷ 0 ∷ 9 ∷ [])

abbrev a_score : List ℕ
a_score = field 0x14 (replicate 6 0)

abbrev a_tariff : List ℕ
a_tariff = field 0x13 (replicate 32 1)

abbrev a_count : List ℕ
a_count = field 0x15 (0 ∷ 1 ∷ [])

abbrev pub foreign : List (List ℕ)
foreign =
    -- fields 10 and 1F alone
    [] ∷
    -- "kind 1 ..; 2 .., pointer 0; 3 .., 4 .., both with key 0"
    an_entry 0 7 0 ∷
    an_entry 5 0 7 ∷
    an_entry 2 7 1 ∷
    an_entry 3 1 7 ∷
    an_entry 4 1 7 ∷
    -- "3 for leaf or 4 for branch"
    a_node 2 ∷
    a_node 5 ∷
    -- "one kind of content", "one field 11"
    (a_node 3 ++ a_node 3) ∷
    (an_entry 1 7 100 ++ a_node 3) ∷
    (an_entry 1 7 100 ++ a_score ++ a_count) ∷
    -- "begins with field 13 ..; then fields 14 ..; ends with field 15"
    (a_score ++ a_tariff ++ a_count) ∷
    (a_tariff ++ a_count ++ a_score) ∷
    (a_tariff ++ a_tariff ++ a_score ++ a_count) ∷
    (a_score ++ a_count ++ a_count) ∷
    -- another tag, another length, another sequence number
    field 0x16 (0 ∷ 1 ∷ []) ∷
    field 0x12 (replicate 14 1) ∷
    field 0x11 (0 ∷ 5 ∷ 3 ∷ 0 ∷ 0 ∷ 0 ∷ 9 ∷ 1 ∷ []) ∷
    (field 0x10 (0 ∷ 0 ∷ 0 ∷ 8 ∷ []) ++ a_node 3) ∷
    []

-- The same entries, node and scores as document 01 has them.
abbrev pub lawful : List (List ℕ)
lawful =
    (an_entry 1 7 100 ++ an_entry 2 7 0 ++ an_entry 3 0 7 ++ an_entry 4 0 7) ∷ a_node 3 ∷ a_node 4 ∷ (a_tariff ++ a_score ++ a_count) ∷ (a_score ++ a_count) ∷ []

abbrev is_written : Decoded → Bool
is_written blank = false
is_written (written p) = true
is_written bad = false

abbrev checks : List ℕ → Bool
checks content = is_written (decode (sealed 512 (numbered 7 content)))

-- THE TABLE HOLDS, every page has 512 bytes, those that check read back as they are, and no other does.
pub record Worked : Type 0 where
  pub bytes : map found cases ≡ cases
  pub sizes : map (λ p. length (image p)) right ≡ replicate 17 512
  pub reads : map read_back right ≡ map written right
  pub refuses : map read_back wrong ≡ replicate 15 bad
  pub accepts : map checks lawful ≡ replicate 5 true
  pub rejects : map checks foreign ≡ replicate 19 false

pub worked : Worked
unfolding image sealed sums_field numbered content_bytes fields entry_bytes pairs_bytes whole_bytes tariff_bytes score_bytes field rows find length_of
    is_node_bytes field_at payload_at part number_at all_blank sealed_at run payloads change_ok change_of entry_ok entry_of pairs_from node_ok node_of tariff_of
    score_of when decode_log decode_node decode_scores decode_counted decode_checkpoint decode_content decode_written decode
worked = record { bytes = refl; sizes = refl; reads = refl; refuses = refl; accepts = refl; rejects = refl }
