-- Fields: "one-byte tag, two-byte length, payload" (document 01). Assumes nothing.
use Rattle.std.specs.Prelude.{Bool, true, false, Result, Ok, Err, ◌&&◌, List, [], ◌∷◌, ◌++◌, ◌≡◌, ℕ, ◌+◌, ◌-◌, ◌≤◌, eqb, leb, length, get_or}
use Rattle.laws.specs.Tests.{choose}
use Rattle.laws.specs.Lay.{part}
use Rattle.laws.specs.BigEndian.{big_endian, number_at}
use Rattle.wire.specs.Tag.{length_of, allowed}
use Rattle.wire.specs.declared.field.Span.{Span}
use Rattle.wire.specs.declared.field.Fault.{Fault}
use Rattle.wire.specs.declared.field.Fault.TheVariants.{Missing, Foreign, Overlong}

-- A tag and a length.
abbrev pub head : ℕ → ℕ → List ℕ
head tag n = tag ∷ big_endian 2 n

-- The bytes of a field.
unfoldable pub field : ℕ → List ℕ → List ℕ
field tag payload = head tag (length payload) ++ payload

-- The length that stands behind a tag at a place.
abbrev pub length_at : List ℕ → ℕ → ℕ
length_at s at = number_at 2 s (at + 1)

-- The payload from one place to another.
abbrev pub from_to : ℕ → ℕ → Span
from_to start end = record { start = start; end = end }

-- The field of a tag at a place: its payload is the part after tag and length. Missing: too few bytes for a tag and a length.
-- Foreign: another tag, or a length that the tag may not have. Overlong: the payload runs past the end.
unfoldable pub field_at : List ℕ → ℕ → ℕ → Result Span Fault
field_at s at tag =
    choose (leb (at + 3) (length s))
    (choose (eqb (get_or s at 0) tag && allowed (length_of tag) (length_at s at))
    (choose (leb (at + 3 + length_at s at) (length s)) (Ok (from_to (at + 3) (at + 3 + length_at s at))) (Err Overlong))
    (Err Foreign))
    (Err Missing)

-- A payload lies within n bytes.
abbrev pub Inside : ℕ → Result Span Fault → Type 0
Inside n (Ok p) = (p.start ≤ p.end) × (p.end ≤ n)
Inside n (Err fault) = Unit {0}

-- What the field reader answers.
pub record Found (s : List ℕ) (at tag : ℕ) (r : Result Span Fault) : Type 0 where
  pub is : r ≡ field_at s at tag
  pub inside : Inside (length s) r

-- The bytes of a payload; none where there is no such field.
abbrev pub payload_of : List ℕ → Result Span Fault → List ℕ
payload_of s (Ok p) = part s p.start (p.end - p.start)
payload_of s (Err fault) = []

unfoldable pub payload_at : List ℕ → ℕ → ℕ → List ℕ
payload_at s at tag = payload_of s (field_at s at tag)

-- Whether a field was found.
abbrev pub is_payload : Result Span Fault → Bool
is_payload (Ok p) = true
is_payload (Err fault) = false

-- Whether a field of a tag stands at a place.
unfoldable pub stands_at : List ℕ → ℕ → ℕ → Bool
stands_at s at tag = is_payload (field_at s at tag)
