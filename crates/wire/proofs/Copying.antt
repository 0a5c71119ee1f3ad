-- A part of a buffer that was lent and came back: with a copy in it, with a number's bytes, filled. Assumes nothing.
use Rattle.std.proofs.Common.{◌≡◌, refl, ap, ◌∙◌, List, ℕ, ◌+◌, ◌-◌, ◌/◌, ◌≤◌, length, replicate, take, drop, arith, w16, w32, length-drop}
use Rattle.std.specs.Int.{to_be_bytes}
use Rattle.std.proofs.Math.ListN.{length-replicate}
use Rattle.std.proofs.Math.Seq.{length-take-le}
use borrow.Rule.Slice.PartMut.{put_mid}
use Rattle.laws.specs.Lay.{lay, lay-lent}
use Rattle.laws.specs.BigEndian.{big_endian}

pub copy_lent : (s src part : List ℕ) (at : ℕ) → part ≡ src → put_mid at (at + length src - at) s part ≡ lay s at src
copy_lent s src part at e = rw e (lay-lent at (at + length src) s src (omega arith) (omega arith))

-- The library's bytes of a number are the documents'.
pub be_bytes_2 : (v : ℕ) → to_be_bytes w16 v ≡ big_endian 2 v
be_bytes_2 v = refl

pub be_bytes_4 : (v : ℕ) → to_be_bytes w32 v ≡ big_endian 4 v
be_bytes_4 v =
    let p : v / 16777216 ≡ v / 256 / 256 / 256 = omega arith in
    let q : v / 65536 ≡ v / 256 / 256 = omega arith in
    rw (p, q) refl

-- The part of a buffer from one place to another, filled.
pub fill_lent : (s bytes : List ℕ) (from to b : ℕ) → from ≤ to → to ≤ length s →
    bytes ≡ replicate (length (take (to - from) (drop from s))) b → put_mid from (to - from) s bytes ≡ lay s from (replicate (to - from) b)
fill_lent s bytes from to b h k e =
    let size : length (take (to - from) (drop from s)) ≡ to - from =
    length-take-le (to - from) (drop from s) (rw (length-drop from s) (omega arith)) in
    let is : bytes ≡ replicate (to - from) b = e ∙ ap (λ (n : ℕ). replicate n b) size in
    lay-lent from to s bytes h (ap length is ∙ length-replicate (to - from) b) ∙ ap (lay s from) is
