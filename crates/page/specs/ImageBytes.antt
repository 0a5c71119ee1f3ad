-- A page's image is made of bytes: tags and kinds are small numbers, and every other number is laid down in bytes. Assumes nothing.
use mathlib.Core.List.{List, [], ◌∷◌, ◌++◌, map}
use Rattle.std.specs.Prelude.{Option, None, Some, ℕ, ◌-◌, ◌<◌, length}
use Rattle.std.proofs.Common.{arith}
use Rattle.laws.specs.Every.{none, both, every_append, every-replicate}
use Rattle.laws.specs.BigEndian.{big_endian, Bytes, bytes-big_endian}
use Rattle.layout.specs.Layout.{page_bytes}
use Rattle.pairs.specs.Pairs.{Pair}
use Rattle.account.specs.declared.Tariff.{Tariff}
use Rattle.node.specs.declared.Shape.{Shape}
use Rattle.node.specs.declared.Shape.TheVariants.{Leaf, Branch}
use Rattle.node.specs.Node.{Node, node}
use Rattle.node.specs.Change.{Change, put, remove, link}
use Rattle.wire.specs.Sum.{sums_of}
use Rattle.wire.specs.Field.{field}
use Rattle.page.specs.Page.{Entry, Score, Content, log, whole, checkpoint, Page, page}
use Rattle.page.specs.Image.{
  shape_number,
  change_number,
  change_key,
  change_pointer,
  entry_bytes,
  pairs_bytes,
  whole_bytes,
  tariff_bytes,
  score_bytes,
  count_bytes,
  fields,
  field_if,
  content_bytes,
  numbered,
  sums_field,
  sealed,
  image,
  blank_bytes,
}

-- A number of a width, and others behind it.
before : (width v : ℕ) {rest : List ℕ} → Bytes rest → Bytes (big_endian width v ++ rest)
before width v e = every_append (bytes-big_endian width v) e

bytes-field : (tag : ℕ) (p : List ℕ) → tag < 256 → Bytes p → Bytes (field tag p)
unfolding field
bytes-field tag p l e = both l (before 2 (length p) e)

-- The payloads.
shape_number_byte : (shape : Shape) → shape_number shape < 256
shape_number_byte Leaf = omega arith
shape_number_byte Branch = omega arith

change_number_byte : (c : Change) → change_number c < 256
change_number_byte (put k p) = omega arith
change_number_byte (remove k) = omega arith
change_number_byte (link shape p) = shape_number_byte shape

bytes-entry : (e : Entry) → Bytes (entry_bytes e)
unfolding entry_bytes
bytes-entry e =
    before 2 e.id
    (before 4 e.version
    (both (change_number_byte e.change) (before 4 (change_key e.change) (bytes-big_endian 4 (change_pointer e.change)))))

bytes-pairs : (ps : List Pair) → Bytes (pairs_bytes ps)
unfolding pairs_bytes
bytes-pairs [] = none
bytes-pairs (p ∷ ps) = before 4 p.0 (before 4 p.1 (bytes-pairs ps))

bytes_whole : (id : ℕ) (n : Node) → Bytes (whole_bytes id n)
unfolding whole_bytes
bytes_whole id (node shape ps l) = before 2 id (both (shape_number_byte shape) (before 4 l (bytes-pairs ps)))

bytes-tariff : (t : Tariff) → Bytes (tariff_bytes t)
unfolding tariff_bytes
bytes-tariff t =
    before 4 t.log.read
    (before 4 t.log.edit
    (before 4 t.log.rewrite
    (before 4 t.disk.read
    (before 4 t.disk.edit
    (before 4 t.disk.rewrite (before 4 t.disk.enter (bytes-big_endian 4 t.log.enter)))))))

pub bytes-score : (s : Score) → Bytes (score_bytes s)
unfolding score_bytes
bytes-score s = before 2 s.id (bytes-big_endian 4 s.score)

-- Fields of them, and a content.
module _ {A : Type 0} (tag : ℕ) (l : tag < 256) (of : A → List ℕ) (bytes : (a : A) → Bytes (of a)) where
  bytes-fields : (xs : List A) → Bytes (fields tag (map of xs))
  unfolding fields
  bytes-fields [] = none
  bytes-fields (x ∷ xs) = every_append (bytes-field tag (of x) l (bytes x)) (bytes-fields xs)

  bytes-field_if : (o : Option A) → Bytes (field_if tag of o)
  bytes-field_if None = none
  bytes-field_if (Some a) = bytes-field tag (of a) l (bytes a)

bytes-content : (c : Content) → Bytes (content_bytes c)
unfolding content_bytes
bytes-content (log es) = bytes-fields 0x12 (omega arith) entry_bytes bytes-entry es
bytes-content (whole id n) = bytes-field 0x11 (whole_bytes id n) (omega arith) (bytes_whole id n)
bytes-content (checkpoint t ss c) =
    every_append (bytes-field_if 0x13 (omega arith) tariff_bytes bytes-tariff t)
    (every_append (bytes-fields 0x14 (omega arith) score_bytes bytes-score ss)
    (bytes-field_if 0x15 (omega arith) count_bytes (bytes-big_endian 2) c))

bytes-numbered : (s : ℕ) (content : List ℕ) → Bytes content → Bytes (numbered s content)
unfolding numbered
bytes-numbered s content e = every_append (bytes-field 0x10 (big_endian 4 s) (omega arith) (bytes-big_endian 4 s)) e

bytes-sums : (body : List ℕ) → Bytes (sums_field body)
unfolding sums_field
bytes-sums body =
    bytes-field 0x1F (big_endian 2 (sums_of body).b ++ big_endian 2 (sums_of body).a) (omega arith)
    (before 2 (sums_of body).b (bytes-big_endian 2 (sums_of body).a))

bytes-sealed : (size : ℕ) (body : List ℕ) → Bytes body → Bytes (sealed size body)
unfolding sealed
bytes-sealed size body e = every_append e (every_append (bytes-sums body) (every-replicate (size - length (body ++ sums_field body)) 255 (omega arith)))

-- A PAGE, AND A BLANK ONE
pub bytes-image : (p : Page) → Bytes (image p)
unfolding image
bytes-image (page s c) = bytes-sealed page_bytes (numbered s (content_bytes c)) (bytes-numbered s (content_bytes c) (bytes-content c))

pub bytes-blank_bytes : Bytes blank_bytes
unfolding blank_bytes
bytes-blank_bytes = every-replicate page_bytes 255 (omega arith)
