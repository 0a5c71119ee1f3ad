-- The tags of commands and page fields and the payload length of each (document 01, "Commands and answers" and "Pages";
-- document 02, P2 and P3). Assumes nothing.
use Rattle.std.specs.Prelude.{Bool, false, Option, Some, None, ◌&&◌, List, [], ◌∷◌, ℕ, ◌+◌, ◌*◌, ◌/◌, ◌%◌, eqb, leb}
use Rattle.laws.specs.Tests.{choose}
use Rattle.layout.specs.Layout.{most_keys}
use Rattle.wire.specs.declared.tag.Length.{Length}
use Rattle.wire.specs.declared.tag.Length.TheVariants.{Exact, Node}

-- A row of the documents: a tag and its length.
pub record Row : Type 0 where
  pub tag : ℕ
  pub bytes : Length

abbrev row : ℕ → Length → Row
row t l = record { tag = t; bytes = l }

-- Commands: look up, hang, strip, sweep; panel; next route up. Page fields: stamp, disk page, log entry, tariff, score, node count, sums.
unfoldable pub rows : List Row
rows =
    row 0x01 (Exact 4) ∷
    row 0x02 (Exact 8) ∷
    row 0x03 (Exact 4) ∷
    row 0x04 (Exact 10) ∷
    row 0x05 (Exact 1) ∷
    row 0x07 (Exact 4) ∷
    row 0x10 (Exact 4) ∷
    row 0x11 Node ∷
    row 0x12 (Exact 15) ∷
    row 0x13 (Exact 32) ∷
    row 0x14 (Exact 6) ∷
    row 0x15 (Exact 2) ∷
    row 0x1F (Exact 4) ∷
    []

unfoldable pub find : ℕ → List Row → Option Length
find t [] = None
find t (r ∷ rs) = choose (eqb t r.tag) (Some r.bytes) (find t rs)

-- The length that a tag asks for; none where there is no such tag.
unfoldable pub length_of : ℕ → Option Length
length_of t = find t rows

-- Field 11's length for k pairs.
abbrev pub node_bytes : ℕ → ℕ
node_bytes k = 7 + 8 * k

-- A length that some number of pairs up to 24 gives.
unfoldable pub is_node_bytes : ℕ → Bool
is_node_bytes n = eqb (n % 8) 7 && leb n (node_bytes most_keys)

-- Whether a payload may have so many bytes.
abbrev pub allowed : Option Length → ℕ → Bool
allowed (Some (Exact k)) n = eqb n k
allowed (Some Node) n = is_node_bytes n
allowed None n = false

-- The length that the lower byte of an entry of the code's table spells: FE is a whole node's.
abbrev pub spelt : ℕ → Length
spelt n = choose (eqb n 0xFE) Node (Exact n)

-- The row that an entry is: its upper byte is the tag. "It keeps one entry for each command and page field in use, none besides"
-- (document 02, P4): the table's entries are the rows, one for one.
abbrev pub row_of : ℕ → Row
row_of entry = row (entry / 256) (spelt (entry % 256))
