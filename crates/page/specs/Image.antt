-- The bytes of a page (document 01, "Pages"): every field, the sums behind them, FF to the end. Assumes nothing.
use Rattle.std.specs.Prelude.{List, [], ◌∷◌, ◌++◌, map, ℕ, ◌-◌, length, replicate, Option, None, Some}
use Rattle.laws.specs.BigEndian.{big_endian}
use Rattle.layout.specs.Layout.{page_bytes}
use Rattle.pairs.specs.Pairs.{Pair}
use Rattle.account.specs.declared.Tariff.{Tariff}
use Rattle.node.specs.declared.Shape.{Shape}
use Rattle.node.specs.declared.Shape.TheVariants.{Leaf, Branch}
use Rattle.node.specs.Node.{Node, node}
use Rattle.node.specs.Change.{Change, put, remove, link}
use Rattle.wire.specs.Sum.{sums_of}
use Rattle.wire.specs.Field.{field}
use Rattle.page.specs.Page.{Entry, Score, Content, log, whole, checkpoint, Page, page}

-- 3 for a leaf, 4 for a branch.
abbrev pub shape_number : Shape → ℕ
shape_number Leaf = 3
shape_number Branch = 4

-- A log entry's kind: 1 adds or replaces, 2 drops, 3 sets a leaf's link, 4 a branch's last pointer.
abbrev pub change_number : Change → ℕ
change_number (put k p) = 1
change_number (remove k) = 2
change_number (link shape p) = shape_number shape

-- Its key, 0 where it has none, and its pointer, 0 where it has none.
abbrev pub change_key : Change → ℕ
change_key (put k p) = k
change_key (remove k) = k
change_key (link shape p) = 0

abbrev pub change_pointer : Change → ℕ
change_pointer (put k p) = p
change_pointer (remove k) = 0
change_pointer (link shape p) = p

-- Payload of field 12: node id (2), version (4), kind (1), key (4), pointer (4).
unfoldable pub entry_bytes : Entry → List ℕ
entry_bytes e =
    big_endian 2 e.id ++
    (big_endian 4 e.version ++
    (change_number e.change ∷ (big_endian 4 (change_key e.change) ++ big_endian 4 (change_pointer e.change))))

-- Pairs, key and pointer of four bytes each.
unfoldable pub pairs_bytes : List Pair → List ℕ
pairs_bytes [] = []
pairs_bytes (p ∷ ps) = big_endian 4 p.0 ++ (big_endian 4 p.1 ++ pairs_bytes ps)

-- Payload of field 11: id (2), 3 for leaf or 4 for branch (1), link (4), the pairs.
unfoldable pub whole_bytes : ℕ → Node → List ℕ
whole_bytes id (node shape pairs l) = big_endian 2 id ++ (shape_number shape ∷ (big_endian 4 l ++ pairs_bytes pairs))

-- Payload of field 13: read, edit, rewrite in log mode; the same in disk mode; switch to disk, switch to log.
unfoldable pub tariff_bytes : Tariff → List ℕ
tariff_bytes t =
    big_endian 4 t.log.read ++
    (big_endian 4 t.log.edit ++
    (big_endian 4 t.log.rewrite ++
    (big_endian 4 t.disk.read ++
    (big_endian 4 t.disk.edit ++
    (big_endian 4 t.disk.rewrite ++ (big_endian 4 t.disk.enter ++ big_endian 4 t.log.enter))))))

-- Payload of field 14: id (2), score (4).
unfoldable pub score_bytes : Score → List ℕ
score_bytes s = big_endian 2 s.id ++ big_endian 4 s.score

-- Payload of field 15: the node count (2).
abbrev pub count_bytes : ℕ → List ℕ
count_bytes n = big_endian 2 n

-- A field of one tag for each payload.
unfoldable pub fields : ℕ → List (List ℕ) → List ℕ
fields tag [] = []
fields tag (p ∷ ps) = field tag p ++ fields tag ps

-- A field that may be there.
abbrev pub field_if : {A : Type 0} → ℕ → (A → List ℕ) → Option A → List ℕ
field_if tag bytes None = []
field_if tag bytes (Some a) = field tag (bytes a)

-- The content: a log page's fields 12; a node page's field 11; a checkpoint page's field 13 where it is the first, its fields
-- 14, and its field 15 where it is the last.
unfoldable pub content_bytes : Content → List ℕ
content_bytes (log es) = fields 0x12 (map entry_bytes es)
content_bytes (whole id n) = field 0x11 (whole_bytes id n)
content_bytes (checkpoint t ss c) = field_if 0x13 tariff_bytes t ++ (fields 0x14 (map score_bytes ss) ++ field_if 0x15 count_bytes c)

-- Field 10, the sequence number, before some content.
unfoldable pub numbered : ℕ → List ℕ → List ℕ
numbered s content = field 0x10 (big_endian 4 s) ++ content

-- Field 1F: the sums of what stands before it, b then a.
unfoldable pub sums_field : List ℕ → List ℕ
sums_field body = field 0x1F (big_endian 2 (sums_of body).b ++ big_endian 2 (sums_of body).a)

-- The sums behind a body, then FF to the end of a page of some size.
unfoldable pub sealed : ℕ → List ℕ → List ℕ
sealed size body = body ++ (sums_field body ++ replicate (size - length (body ++ sums_field body)) 255)

-- A page's bytes, and a blank page's.
unfoldable pub image : Page → List ℕ
image (page s c) = sealed page_bytes (numbered s (content_bytes c))

unfoldable pub blank_bytes : List ℕ
blank_bytes = replicate page_bytes 255
