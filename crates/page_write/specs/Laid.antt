-- A page laid field by field over a buffer: what its writers leave, and that over FF this is the page. Assumes nothing.
use Rattle.std.specs.Prelude.{◌≡◌, refl, List, ◌++◌, ℕ, ◌+◌, ◌-◌, ◌≤◌, length, take, replicate}
use Rattle.std.proofs.Common.{sym, ◌∙◌, append_assoc, zero-add, arith}
use Rattle.laws.specs.Lay.{lay, lay-lay, lay-next, take-lay, lay-replicate, length-lay}
use Rattle.laws.specs.BigEndian.{big_endian}
use Rattle.wire.specs.Sum.{sums_of}
use Rattle.wire.specs.Field.{field, head}
use Rattle.wire.specs.FieldLaws.{lay-field}
use Rattle.page.specs.Image.{numbered, sums_field, sealed}

-- A body and its sums: a page but for the FF behind.
unfoldable pub summed : List ℕ → List ℕ
summed body = body ++ sums_field body

-- The content behind field 10.
pub numbered-laid : (p : List ℕ) (s : ℕ) (content : List ℕ) → lay (lay p 0 (field 0x10 (big_endian 4 s))) 7 content ≡ lay p 0 (numbered s content)
unfolding numbered field
numbered-laid p s content = lay-lay p 0 (field 0x10 (big_endian 4 s)) content (omega arith)

-- The sums behind a body that was laid.
pub summed-laid : (p body : List ℕ) (end : ℕ) → end ≡ length body → lay (lay p 0 body) end (sums_field (take end (lay p 0 body))) ≡ lay p 0 (summed body)
unfolding summed
summed-laid p body end e =
    let z : end ≡ 0 + length body = e ∙ sym (zero-add (length body)) in
    rw (z, take-lay p 0 body (omega arith)) (lay-lay p 0 body (sums_field body) (omega arith))

-- Over FF it is the page.
pub summed-blank : (size : ℕ) (body : List ℕ) → lay (replicate size 255) 0 (summed body) ≡ sealed size body
unfolding summed sealed
summed-blank size body =
    lay-replicate size 255 (body ++ sums_field body) ∙
    append_assoc body (sums_field body) (replicate (size - length (body ++ sums_field body)) 255)

-- Field 1F, as its tag and length and two numbers.
pub sums-laid : (s : List ℕ) (at : ℕ) (body : List ℕ) (a b : ℕ) → at + 3 ≤ length s → a ≡ (sums_of body).a → b ≡ (sums_of body).b →
    lay (lay (lay s at (head 0x1F 4)) (at + 3) (big_endian 2 b)) (at + 5) (big_endian 2 a) ≡ lay s at (sums_field body)
unfolding sums_field
sums-laid s at body a b h ea eb =
    let l : at + 3 ≤ length (lay s at (head 0x1F 4)) = rw (length-lay s at (head 0x1F 4) h) h in
    rw (← ea, ← eb)
    (lay-next (lay s at (head 0x1F 4)) (at + 3) (big_endian 2 b) (big_endian 2 a) (at + 5) l (omega arith) ∙
    lay-field s at 0x1F 4 (big_endian 2 b ++ big_endian 2 a) (omega arith) refl)

-- Field 10, as its tag and length and the number.
pub ten_laid : (s : List ℕ) (v : ℕ) → lay (lay s 0 (head 0x10 4)) 3 (big_endian 4 v) ≡ lay s 0 (field 0x10 (big_endian 4 v))
ten_laid s v = lay-field s 0 0x10 4 (big_endian 4 v) (omega arith) refl
