-- The map of live pages in bytes, a bit a page: which marks the bytes stand for, how a mark is read, and how it is set. Assumes nothing.
use Rattle.std.specs.Prelude.{◌≡◌, refl, List, [], ◌∷◌, ◌++◌, ℕ, zero, suc, ◌+◌, ◌*◌, ◌/◌, ◌%◌, ◌^◌, ◌≤◌, ◌<◌, length, get_or, set, replicate}
use Rattle.std.proofs.Common.{sym, ap, ap₂, ◌∙◌, zero-add, mod-eq_of_lt, arith, get_or-append-add}
use Rattle.std.specs.Int.Bits.{bit_or, or_zero_r}
use Rattle.std.proofs.lemmas.Nat.{or_mod, or_shr}
use Rattle.std.proofs.Math.Nat.{zero-div, div-div-eq-div-mul, pow-succ'}
use Rattle.std.proofs.Math.ListN.{get_or-append}
use Rattle.std.proofs.lemmas.List.{replicate-append-replicate, set-append_left}
use Rattle.laws.specs.Lists.{set_append_right}
use Rattle.layout.specs.Layout.{live_bytes}
use Rattle.flash_live.specs.Live.{most_pages}

-- The powers of two.
unfoldable pub two_to : ℕ → ℕ
two_to zero = 1
two_to (suc k) = 2 * two_to k

two_pow : (k : ℕ) → 2 ^ k ≡ two_to k
unfolding two_to
two_pow zero = refl
two_pow (suc k) = pow-succ' 2 k ∙ ap (λ (x : ℕ). 2 * x) (two_pow k)

-- The n lowest bits of a number, lowest first.
unfoldable pub bits_of : ℕ → ℕ → List ℕ
bits_of zero b = []
bits_of (suc n) b = b % 2 ∷ bits_of n (b / 2)

-- The eight bits of a byte.
abbrev pub byte_bits : ℕ → List ℕ
byte_bits b = bits_of 8 b

-- The marks that bytes stand for, 0 or 1: the bits of each byte in turn.
unfoldable pub marks_in : List ℕ → List ℕ
marks_in [] = []
marks_in (b ∷ bs) = byte_bits b ++ marks_in bs

length_bits : (n b : ℕ) → length (bits_of n b) ≡ n
unfolding bits_of
length_bits zero b = refl
length_bits (suc n) b = ap suc (length_bits n (b / 2))

-- Bit k is the remainder by two behind a division by its power.
bit_at : (n b k : ℕ) → k < n → get_or (bits_of n b) k 0 ≡ b / two_to k % 2
unfolding bits_of two_to
bit_at zero b k h = absurd (omega arith)
bit_at (suc n) b zero h = omega arith
bit_at (suc n) b (suc k) h = bit_at n (b / 2) k (omega arith) ∙ ap (λ (q : ℕ). q % 2) (div-div-eq-div-mul b 2 (two_to k))

-- A number with a bit set: its power or-ed to it sets that bit, and no other.
set-bit : (n b k : ℕ) → k < n → bits_of n (bit_or b (two_to k)) ≡ set (bits_of n b) k 1
unfolding bits_of two_to
set-bit zero b k h = absurd (omega arith)
set-bit (suc n) b zero h =
    ap₂ {B = List ℕ} {C = List ℕ} ◌∷◌ (or_mod b 1 1 ∙ odd (b % 2) (omega arith)) (ap (bits_of n) (or_shr b 1 1 ∙ or_zero_r (b / 2)))
  where
    odd : (x : ℕ) → x < 2 → bit_or x 1 ≡ 1
    odd zero l = refl
    odd (suc zero) l = refl
    odd (suc (suc x)) l = absurd (omega arith)
set-bit (suc n) b (suc k) h =
    let even : 2 * two_to k % 2 ≡ 0 = omega arith in
    let half : 2 * two_to k / 2 ≡ two_to k = omega arith in
    ap₂ {B = List ℕ} {C = List ℕ} ◌∷◌ (or_mod b (2 * two_to k) 1 ∙ ap (bit_or (b % 2)) even ∙ or_zero_r (b % 2))
    (ap (bits_of n) (or_shr b (2 * two_to k) 1 ∙ ap (bit_or (b / 2)) half) ∙ set-bit n (b / 2) k (omega arith))

-- The power of a bit stays below the power above the bits.
two_to_lt : (n k : ℕ) → k < n → two_to k < two_to n
unfolding two_to
two_to_lt zero k h = absurd (omega arith)
two_to_lt (suc n) zero h = omega (arith, one_or_more n)
  where
    one_or_more : (n : ℕ) → 1 ≤ two_to n
    one_or_more zero = omega arith
    one_or_more (suc n) = omega (arith, one_or_more n)
two_to_lt (suc n) (suc k) h = omega (arith, two_to_lt n k (omega arith))

-- What the two shifts of a byte are.
pub shifted_down : (b k : ℕ) → b / 2 ^ k ≡ b / two_to k
shifted_down b k = ap (λ (x : ℕ). b / x) (two_pow k)

pub shifted_up : (k : ℕ) → k < 8 → 1 * 2 ^ k % 2 ^ 8 ≡ two_to k
unfolding two_to
shifted_up k h =
    let one : 1 * 2 ^ k ≡ two_to k = omega (arith, two_pow k) in
    ap (λ (x : ℕ). x % 256) one ∙ mod-eq_of_lt (omega (arith, two_to_lt 8 k h))

-- The same of a byte.
module _ (b k : ℕ) (h : k < 8) where
  pub byte_bit-at : get_or (byte_bits b) k 0 ≡ b / two_to k % 2
  byte_bit-at = bit_at 8 b k h

  pub byte_bit-set : byte_bits (bit_or b (1 * 2 ^ k % 2 ^ 8)) ≡ set (byte_bits b) k 1
  byte_bit-set = ap (λ (x : ℕ). byte_bits (bit_or b x)) (shifted_up k h) ∙ set-bit 8 b k h

-- By byte and bit: the mark of a page, and the marks with one byte changed by its bit. Behind the last byte there is no mark.
place_at : (bs : List ℕ) (q k : ℕ) → k < 8 → get_or (marks_in bs) (8 * q + k) 0 ≡ get_or (byte_bits (get_or bs q 0)) k 0
unfolding marks_in
place_at [] q k h = sym (bit_at 8 0 k h ∙ ap (λ (x : ℕ). x % 2) (zero-div (two_to k)))
place_at (b ∷ bs) zero k h = rw zero-add (get_or-append (byte_bits b) (marks_in bs) 0 k (omega (arith, length_bits 8 b)))
place_at (b ∷ bs) (suc q) k h =
    let e : 8 * suc q + k ≡ length (byte_bits b) + (8 * q + k) = omega (arith, length_bits 8 b) in
    ap (λ (i : ℕ). get_or (byte_bits b ++ marks_in bs) i 0) e ∙ get_or-append-add (byte_bits b) (marks_in bs) (8 * q + k) 0 ∙ place_at bs q k h

set-place : (bs : List ℕ) (q k v : ℕ) → k < 8 → byte_bits v ≡ set (byte_bits (get_or bs q 0)) k 1 →
    marks_in (set bs q v) ≡ set (marks_in bs) (8 * q + k) 1
unfolding marks_in
set-place [] q k v h e = refl
set-place (b ∷ bs) zero k v h e =
    rw zero-add
    (ap (λ (x : List ℕ). x ++ marks_in bs) e ∙ sym (set-append_left (byte_bits b) (marks_in bs) k 1 (omega (arith, length_bits 8 b))))
set-place (b ∷ bs) (suc q) k v h e =
    ap (λ (x : List ℕ). byte_bits b ++ x) (set-place bs q k v h e) ∙
    sym (set_append_right (byte_bits b) (marks_in bs) (8 * suc q + k) (8 * q + k) 1 (omega (arith, length_bits 8 b)))

-- The same for a page: its mark is bit `page % 8` of byte `page / 8`.
module _ (bs : List ℕ) (page : ℕ) where
  same_page : 8 * (page / 8) + page % 8 ≡ page
  same_page = omega arith

  pub mark_at : get_or (marks_in bs) page 0 ≡ get_or (byte_bits (get_or bs (page / 8) 0)) (page % 8) 0
  mark_at = ap (λ (i : ℕ). get_or (marks_in bs) i 0) (sym same_page) ∙ place_at bs (page / 8) (page % 8) (omega arith)

  pub mark_set : (v : ℕ) → byte_bits v ≡ set (byte_bits (get_or bs (page / 8) 0)) (page % 8) 1 →
      marks_in (set bs (page / 8) v) ≡ set (marks_in bs) page 1
  mark_set v e = set-place bs (page / 8) (page % 8) v (omega arith) e ∙ ap (λ (i : ℕ). set (marks_in bs) i 1) same_page

-- Bytes of 0 stand for marks of 0.
zero-marks : (n : ℕ) → marks_in (replicate n 0) ≡ replicate (8 * n) 0
unfolding marks_in bits_of
zero-marks zero = refl
zero-marks (suc n) =
    let e : 8 + 8 * n ≡ 8 * suc n = omega arith in
    ap (λ (x : List ℕ). replicate 8 0 ++ x) (zero-marks n) ∙ replicate-append-replicate 8 (8 * n) 0 ∙
    ap (λ (k : ℕ). replicate k 0) e

pub no_marks_lem : marks_in (replicate live_bytes 0) ≡ replicate most_pages 0
no_marks_lem = zero-marks live_bytes
