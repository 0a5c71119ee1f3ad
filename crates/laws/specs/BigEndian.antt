-- Numbers in a buffer have their most significant byte first (document 01, first paragraph). One definition and one law for
-- every width. Assumes nothing.
use Rattle.std.specs.Prelude.{◌≡◌, refl, List, [], ◌∷◌, ◌++◌, ℕ, zero, suc, ◌+◌, ◌*◌, ◌/◌, ◌%◌, ◌^◌, ◌≤◌, ◌<◌, length, get_or, take, drop}
use Rattle.std.proofs.Common.{sym, ap₂, ◌∙◌, append-nil, append_assoc, pow-suc, div-add-mod', div-lt_iff_lt-mul, mod-lt, add-zero, zero-add, suc-add, add-suc, mul-le-mul_right, arith, length-append}
use Rattle.std.proofs.Math.Path.{ap}
use Rattle.laws.specs.Every.{Every, none, both, every_append, every_take, every_drop}
use Rattle.laws.specs.Lay.{lay, part, part-lay, part-lay-before, part-lay-behind, length_part, part-cons, part-part, part-append, part-front, part-whole}

-- The number that bytes spell, a number so far in front of them.
abbrev pub number_from : ℕ → List ℕ → ℕ
number_from n [] = n
number_from n (b ∷ bs) = number_from (n * 256 + b) bs

abbrev pub number : List ℕ → ℕ
number bs = number_from 0 bs

-- The bytes of a number, as many as the width.
abbrev pub big_endian : ℕ → ℕ → List ℕ
big_endian zero v = []
big_endian (suc w) v = big_endian w (v / 256) ++ (v % 256 ∷ [])

-- The number of a width that stands at a place of a buffer.
unfoldable pub number_at : ℕ → List ℕ → ℕ → ℕ
number_at w s at = number (part s at w)

-- Every element is a byte.
abbrev pub Bytes : List ℕ → Type 0
Bytes = Every (λ b. b < 256)

pub length-big_endian : (w v : ℕ) → length (big_endian w v) ≡ w
length-big_endian zero v = refl
length-big_endian (suc w) v =
    length-append (big_endian w (v / 256)) (v % 256 ∷ []) ∙ omega (arith, length-big_endian w (v / 256))

pub bytes-big_endian : (w v : ℕ) → Bytes (big_endian w v)
bytes-big_endian zero v = none
bytes-big_endian (suc w) v = every_append (bytes-big_endian w (v / 256)) (both (mod-lt v (omega arith)) none)

number_from-append : (n : ℕ) (xs ys : List ℕ) → number_from n (xs ++ ys) ≡ number_from (number_from n xs) ys
number_from-append n [] ys = refl
number_from-append n (x ∷ xs) ys = number_from-append (n * 256 + x) xs ys

-- A number below 256 to the width is read back from its bytes.
pub number-big_endian : (w v : ℕ) → v < 256 ^ w → number (big_endian w v) ≡ v
number-big_endian zero v h = omega arith
number-big_endian (suc w) v h =
    let q : v / 256 < 256 ^ w = (div-lt_iff_lt-mul {k = 256} {x = v} {y = 256 ^ w} (omega arith)).1 (rw pow-suc at h) in
    number_from-append 0 (big_endian w (v / 256)) (v % 256 ∷ []) ∙
    ap (λ (n : ℕ). n * 256 + v % 256) (number-big_endian w (v / 256) q) ∙
    div-add-mod' v 256

-- The other way round: bytes are those of the number that they spell.
big_endian-number_from : (w n : ℕ) (bs : List ℕ) → Bytes bs → big_endian (w + length bs) (number_from n bs) ≡ big_endian w n ++ bs
big_endian-number_from w n [] none = rw add-zero (sym (append-nil (big_endian w n)))
big_endian-number_from w n (b ∷ bs) (both h hs) =
    let q : (n * 256 + b) / 256 ≡ n = omega arith in
    let r : (n * 256 + b) % 256 ≡ b = omega arith in
    ap (λ (k : ℕ). big_endian k (number_from (n * 256 + b) bs)) (add-suc w (length bs) ∙ sym (suc-add w (length bs))) ∙
    big_endian-number_from (suc w) (n * 256 + b) bs hs ∙
    ap₂ (λ (m d : ℕ). (big_endian w m ++ (d ∷ [])) ++ bs) q r ∙
    append_assoc (big_endian w n) (b ∷ []) bs

pub big_endian-number : (bs : List ℕ) → Bytes bs → big_endian (length bs) (number bs) ≡ bs
big_endian-number bs h = ap (λ (k : ℕ). big_endian k (number bs)) (sym (zero-add (length bs))) ∙ big_endian-number_from 0 0 bs h

-- Bytes spell a number below 256 to their length.
number_from_lt : (n : ℕ) (bs : List ℕ) → Bytes bs → number_from n bs < suc n * 256 ^ length bs
number_from_lt n [] none = omega arith
number_from_lt n (b ∷ bs) (both h hs) =
    let m : suc (n * 256 + b) * 256 ^ length bs ≤ (suc n * 256) * 256 ^ length bs = mul-le-mul_right (256 ^ length bs) (omega arith) in
    rw pow-suc (omega (arith, number_from_lt (n * 256 + b) bs hs))

pub number_lt : (bs : List ℕ) → Bytes bs → number bs < 256 ^ length bs
number_lt bs h = omega (arith, number_from_lt 0 bs h)

-- Parts of bytes are bytes.
pub bytes_drop : (k : ℕ) {s : List ℕ} → Bytes s → Bytes (drop k s)
bytes_drop k {s} h = every_drop k s h

pub bytes_take : (k : ℕ) {s : List ℕ} → Bytes s → Bytes (take k s)
bytes_take k {s} h = every_take k s h

pub bytes-part : (at n : ℕ) {s : List ℕ} → Bytes s → Bytes (part s at n)
unfolding part
bytes-part at n h = bytes_take n (bytes_drop at h)

-- A buffer whose every element is below 256, as the program's slices are, is bytes.
pub bytes-get_or : (s : List ℕ) → ((i : ℕ) → get_or s i 0 < 256) → Bytes s
bytes-get_or [] h = none
bytes-get_or (x ∷ s) h = both (h 0) (bytes-get_or s (λ i. h (suc i)))

-- The number at a place is below 256 to its width, and the part there is its bytes.
module _ (w : ℕ) (s : List ℕ) (at : ℕ) (h : Bytes s) (l : at + w ≤ length s) where
  pub number_at_lt : number_at w s at < 256 ^ w
  unfolding number_at
  number_at_lt = rw (length_part s at w l) at (number_lt (part s at w) (bytes-part at w h))

  pub big_endian-number_at : big_endian w (number_at w s at) ≡ part s at w
  unfolding number_at
  big_endian-number_at = rw (length_part s at w l) at (big_endian-number (part s at w) (bytes-part at w h))

-- A number is read where it was written, and any other as it was.
module _ (w : ℕ) (s : List ℕ) (at : ℕ) (xs : List ℕ) (h : at ≤ length s) where
  pub number_at-lay-before : (i : ℕ) → i + w ≤ at → number_at w (lay s at xs) i ≡ number_at w s i
  unfolding number_at
  number_at-lay-before i k = ap number (part-lay-before s at xs h i w k)

  pub number_at-lay-behind : (i : ℕ) → at + length xs ≤ i → number_at w (lay s at xs) i ≡ number_at w s i
  unfolding number_at
  number_at-lay-behind i k = ap number (part-lay-behind s at xs h i w k)

pub number_at-lay : (w : ℕ) (s : List ℕ) (at v : ℕ) → at ≤ length s → v < 256 ^ w → number_at w (lay s at (big_endian w v)) at ≡ v
unfolding number_at
number_at-lay w s at v h k =
    let e : part (lay s at (big_endian w v)) at w ≡ big_endian w v = rw (length-big_endian w v) at (part-lay s at (big_endian w v) h) in
    ap number e ∙ number-big_endian w v k

-- The number at a place, byte by byte.
pub number_at_2 : (s : List ℕ) (at : ℕ) → at + 2 ≤ length s → number_at 2 s at ≡ get_or s at 0 * 256 + get_or s (at + 1) 0
unfolding number_at part
number_at_2 s at h =
    let a₁ : at + 1 < length s = omega arith in
    rw (part-cons s at 1 (omega arith), part-cons s (at + 1) 0 a₁) (omega arith)

pub number_at_4 : (s : List ℕ) (at : ℕ) → at + 4 ≤ length s →
    number_at 4 s at ≡ get_or s at 0 * 16777216 + get_or s (at + 1) 0 * 65536 + get_or s (at + 2) 0 * 256 + get_or s (at + 3) 0
unfolding number_at part
number_at_4 s at h =
    let e₂ : at + 1 + 1 ≡ at + 2 = omega arith in
    let e₃ : at + 2 + 1 ≡ at + 3 = omega arith in
    rw (
      part-cons s at 3 (omega arith),
      part-cons s (at + 1) 2 (omega arith),
      e₂,
      part-cons s (at + 2) 1 (omega arith),
      e₃,
      part-cons s (at + 3) 0
          (omega arith),
    )
    (omega arith)

-- A number's place counted from a part of the buffer.
pub number_at-part : (w : ℕ) (s : List ℕ) (at n i : ℕ) → i + w ≤ n → number_at w (part s at n) i ≡ number_at w s (at + i)
unfolding number_at
number_at-part w s at n i h = ap number (part-part s at n i w h)

-- The number that a whole buffer spells, that of its own bytes; a number in front of other bytes; and one behind them.
pub number_at-whole : (w : ℕ) (s : List ℕ) → length s ≡ w → number_at w s 0 ≡ number s
unfolding number_at
number_at-whole w s e = ap number (part-whole s w e)

pub number_at-big_endian : (w v : ℕ) → v < 256 ^ w → number_at w (big_endian w v) 0 ≡ v
number_at-big_endian w v h = number_at-whole w (big_endian w v) (length-big_endian w v) ∙ number-big_endian w v h

pub number_at-front : (w v : ℕ) (rest : List ℕ) → v < 256 ^ w → number_at w (big_endian w v ++ rest) 0 ≡ v
unfolding number_at
number_at-front w v rest h = ap number (part-front (big_endian w v) rest w (length-big_endian w v)) ∙ number-big_endian w v h

pub number_at-behind : (w k : ℕ) (front rest : List ℕ) → length front ≡ k → number_at w (front ++ rest) k ≡ number_at w rest 0
unfolding number_at
number_at-behind w k front rest e =
    ap (λ (i : ℕ). number (part (front ++ rest) i w)) (sym e ∙ sym (add-zero (length front))) ∙ ap number (part-append front rest 0 w)
