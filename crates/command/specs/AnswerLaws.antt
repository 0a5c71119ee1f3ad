-- Answers laid: their lengths, and that a scan's pairs laid one by one with the head laid last are its answer. Assumes nothing.
use Rattle.std.specs.Prelude.{◌≡◌, refl, ℕ, ◌+◌, ◌*◌, ◌≤◌}
use Rattle.std.proofs.Common.{sym, ◌∙◌, arith}
use Rattle.std.proofs.Math.Path.{ap, ap₂}
use mathlib.Core.List.{List, [], ◌∷◌, ◌++◌, append-nil, append_assoc}
use Rattle.std.proofs.Math.ListN.{length, take, drop, length-append}
use Rattle.std.proofs.Math.Seq.{length-take-le, take-append-le, take-take, drop_at}
use Rattle.laws.specs.Lay.{lay, lay-next}
use Rattle.laws.specs.BigEndian.{big_endian, length-big_endian}
use Rattle.pairs.specs.Pairs.{Pair}
use Rattle.wire.specs.Field.{field, head}
use Rattle.wire.specs.FieldLaws.{length-field}
use Rattle.command.specs.declared.Answer.{Answer}
use Rattle.command.specs.declared.Answer.TheVariants.{Absent, Got, Replaced, Deleted, Refused}
use Rattle.command.specs.Answer.{answer_bytes, pair_bytes, pairs_bytes, scan_tag, scan_bytes, ceiling_bytes}

pub length-pair_bytes : (p : Pair) → length (pair_bytes p) ≡ 8
length-pair_bytes p =
    length-append (big_endian 4 p.0) (big_endian 4 p.1) ∙ omega (arith, length-big_endian 4 p.0, length-big_endian 4 p.1)

pub length-pairs_bytes : (ps : List Pair) → length (pairs_bytes ps) ≡ 8 * length ps
length-pairs_bytes [] = refl
length-pairs_bytes (p ∷ ps) =
    length-append (pair_bytes p) (pairs_bytes ps) ∙ omega (arith, length-pair_bytes p, length-pairs_bytes ps)

pub pairs_bytes-append : (ps qs : List Pair) → pairs_bytes (ps ++ qs) ≡ pairs_bytes ps ++ pairs_bytes qs
pairs_bytes-append [] qs = refl
pairs_bytes-append (p ∷ ps) qs =
    ap (λ (l : List ℕ). pair_bytes p ++ l) (pairs_bytes-append ps qs) ∙ sym (append_assoc (pair_bytes p) (pairs_bytes ps) (pairs_bytes qs))

-- An answer of this kind takes 7 bytes at most, as question 4 asks for.
pub length-answer_bytes : (a : Answer) → length (answer_bytes a) ≤ 7
unfolding answer_bytes
length-answer_bytes Absent = omega (arith, length-field 0x80 [])
length-answer_bytes (Got v) = omega (arith, length-field 0x81 (big_endian 4 v), length-big_endian 4 v)
length-answer_bytes (Replaced v) = omega (arith, length-field 0x82 (big_endian 4 v), length-big_endian 4 v)
length-answer_bytes (Deleted v) = omega (arith, length-field 0x83 (big_endian 4 v), length-big_endian 4 v)
length-answer_bytes (Refused n) = omega (arith, length-field 0x8F (n ∷ []))

-- A scan's answer takes 3 + 8 bytes a pair.
pub length-scan_bytes : (ps : List Pair) → length (scan_bytes ps) ≡ 3 + 8 * length ps
unfolding scan_bytes
length-scan_bytes ps = length-field scan_tag (pairs_bytes ps) ∙ omega (arith, length-pairs_bytes ps)

-- A ceiling's answer takes the 11 bytes that it asks for.
pub length-ceiling_bytes : (p : Pair) → length (ceiling_bytes p) ≡ 11
unfolding ceiling_bytes
length-ceiling_bytes p = length-field 0x87 (pair_bytes p) ∙ omega (arith, length-pair_bytes p)

pub length-value : (tag v : ℕ) → length (field tag (big_endian 4 v)) ≡ 7
length-value tag v = omega (arith, length-field tag (big_endian 4 v), length-big_endian 4 v)

pub length-absent : length (answer_bytes Absent) ≡ 3
unfolding answer_bytes field
length-absent = refl

pub length-refused : (n : ℕ) → length (answer_bytes (Refused n)) ≡ 4
unfolding answer_bytes field
length-refused n = refl

-- An answer laid as its bytes, and the place behind it.
pub laid-answer :
    (s t : List ℕ) (at r n : ℕ) (a : Answer) (bytes : List ℕ) → answer_bytes a ≡ bytes → length bytes ≡ n → t ≡ lay s at bytes → r ≡ at + n →
    (t ≡ lay s at (answer_bytes a)) × (r ≡ at + length (answer_bytes a))
laid-answer s t at r n a bytes e l f g = (f ∙ ap (lay s at) (sym e), omega (arith, ap length e))

module _ (s : List ℕ) (at : ℕ) where
  -- one pair more behind those laid so far
  pub scan-append :
      (ps : List Pair) (p : Pair) (here : ℕ) → at + 3 ≤ length s → here ≡ at + 3 + 8 * length ps →
      lay (lay s (at + 3) (pairs_bytes ps)) here (pair_bytes p) ≡ lay s (at + 3) (pairs_bytes (ps ++ (p ∷ [])))
  scan-append ps p here h e =
      lay-next s (at + 3) (pairs_bytes ps) (pair_bytes p) here h (omega (arith, length-pairs_bytes ps)) ∙
      ap (lay s (at + 3))
      (ap (λ (l : List ℕ). pairs_bytes ps ++ l) (sym (append-nil (pair_bytes p))) ∙ sym (pairs_bytes-append ps (p ∷ [])))

  -- bytes laid in front of bytes laid before
  pub lay-front :
      (xs ys : List ℕ) → at + length xs ≤ length s → lay (lay s (at + length xs) ys) at xs ≡ lay s at (xs ++ ys)
  unfolding lay
  lay-front xs ys h =
      let b = at + length xs in
      let rest = ys ++ drop (b + length ys) s in
      let front : take at (take b s ++ rest) ≡ take at s =
      take-append-le at (take b s) rest (omega (arith, length-take-le b s h)) ∙ take-take at b s (omega arith) in
      let back : drop b (take b s ++ rest) ≡ rest = drop_at (take b s) rest b (length-take-le b s h) in
      let n : b + length ys ≡ at + length (xs ++ ys) = omega (arith, length-append xs ys) in
      ap₂ (λ (f r : List ℕ). f ++ (xs ++ r)) front back ∙
      ap (λ (l : List ℕ). take at s ++ l)
      (sym (append_assoc xs ys (drop (b + length ys) s)) ∙ ap (λ (k : ℕ). (xs ++ ys) ++ drop k s) n)

  pub scan-close :
      (ps : List Pair) → at + 3 ≤ length s → lay (lay s (at + 3) (pairs_bytes ps)) at (head scan_tag (8 * length ps)) ≡ lay s at (scan_bytes ps)
  unfolding scan_bytes field
  scan-close ps h =
      lay-front (head scan_tag (8 * length ps)) (pairs_bytes ps) h ∙
      ap (λ (n : ℕ). lay s at (head scan_tag n ++ pairs_bytes ps)) (sym (length-pairs_bytes ps))
