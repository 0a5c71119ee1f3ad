-- The sums and the FF behind them, both ways: a sealed body passes, and what passes is a sealed body. Assumes nothing.
use Rattle.std.specs.Prelude.{◌≡◌, refl, true, ◌&&◌, ℕ, zero, suc, ◌+◌, ◌-◌, ◌≤◌, eqb, take}
use Rattle.std.proofs.Math.Path.{sym, ap, ap₂}
use Rattle.std.proofs.Common.{◌∙◌, arith, length-drop, take-append-drop, take_at, drop-drop}
use mathlib.Core.List.{List, [], ◌∷◌, ◌++◌}
use Rattle.std.proofs.Math.ListN.{length, drop, replicate, length-append}
use Rattle.std.proofs.lemmas.List.{length-replicate}
use Rattle.std.proofs.Math.Seq.{drop-append-add, length-take-le}
use borrow.Author.Tests.{eqb-true, eq-eqb}
use Rattle.laws.specs.Tests.{and_left, and_right, and_both}
use Rattle.laws.specs.Lay.{part}
use Rattle.laws.specs.BigEndian.{big_endian, number_at, Bytes, number-big_endian, big_endian-number_at}
use Rattle.wire.specs.Sum.{sums_of, sums_of-small}
use Rattle.wire.specs.Field.{field, payload_at}
use Rattle.wire.specs.FieldLaws.{payload_at-field, stands_payload, stands_within, part-payload, bytes-payload}
use Rattle.page.specs.Image.{sums_field, sealed}
use Rattle.page.specs.Decode.{all_blank, sealed_at}
use Rattle.page.specs.Tags.{allowed_1F}
use Rattle.page.specs.Spelled.{parts_whole}

pub all_blank-replicate : (n : ℕ) → all_blank (replicate n 255) ≡ true
unfolding all_blank
all_blank-replicate zero = refl
all_blank-replicate (suc n) = all_blank-replicate n

pub all_blank-is : (s : List ℕ) → all_blank s ≡ true → s ≡ replicate (length s) 255
unfolding all_blank
all_blank-is [] t = refl
all_blank-is (x ∷ s) t =
    ap₂ ◌∷◌ (eqb-true x 255 (and_left (eqb x 255) (all_blank s) t)) (all_blank-is s (and_right (eqb x 255) (all_blank s) t))

pub length-sums_field : (body : List ℕ) → length (sums_field body) ≡ 7
unfolding sums_field field
length-sums_field body = refl

-- A page has the size asked for, where its body leaves room.
pub length-sealed : (size : ℕ) (body : List ℕ) → length body + 7 ≤ size → length (sealed size body) ≡ size
unfolding sealed
length-sealed size body h =
    let f = sums_field body in
    let k = size - length (body ++ f) in
    length-append body (f ++ replicate k 255) ∙
    omega (arith, length-append f (replicate k 255), length-replicate {A = ℕ} k 255, length-append body f, length-sums_field body)

-- A sealed body passes.
module _ (body : List ℕ) (n : ℕ) where
  abbrev bytes : List ℕ
  bytes = body ++ (sums_field body ++ replicate n 255)

  abbrev sums : List ℕ
  sums = big_endian 2 (sums_of body).b ++ big_endian 2 (sums_of body).a

  sums-found : payload_at bytes (length body) 0x1F ≡ sums
  unfolding sums_field
  sums-found = payload_at-field body 0x1F sums (replicate n 255) (omega arith) allowed_1F

  body_found : take (length body) bytes ≡ body
  body_found = take_at body (sums_field body ++ replicate n 255) (length body) refl

  b-found : number_at 2 sums 0 ≡ (sums_of body).b
  unfolding number_at part
  b-found = number-big_endian 2 (sums_of body).b (omega (arith, (sums_of-small body).b))

  a_found : number_at 2 sums 2 ≡ (sums_of body).a
  unfolding number_at part
  a_found = number-big_endian 2 (sums_of body).a (omega (arith, (sums_of-small body).a))

  rest-found : drop (length body + 7) bytes ≡ replicate n 255
  unfolding sums_field field
  rest-found = drop-append-add body (sums_field body ++ replicate n 255) 7

  pub sealed_at-sealed : sealed_at bytes (length body) ≡ true
  unfolding sealed_at
  sealed_at-sealed =
      rw (sums-found, body_found, rest-found)
      (and_both (eqb (number_at 2 sums 0) (sums_of body).b) _ (eq-eqb _ _ b-found)
      (and_both (eqb (number_at 2 sums 2) (sums_of body).a) _ (eq-eqb _ _ a_found) (all_blank-replicate n)))

-- What passes is a sealed body.
module _ (s : List ℕ) (end : ℕ) (b : Bytes s) (t : sealed_at s end ≡ true) where
  abbrev payload : List ℕ
  payload = payload_at s end 0x1F

  four : length payload ≡ 4
  unfolding sealed_at
  four = eqb-true (length payload) 4 (and_left (eqb (length payload) 4) _ t)

  test-b : (eqb (number_at 2 payload 0) (sums_of (take end s)).b && (eqb (number_at 2 payload 2) (sums_of (take end s)).a && all_blank (drop (end + 7) s))) ≡ true
  unfolding sealed_at
  test-b = and_right (eqb (length payload) 4) _ t

  test_a : (eqb (number_at 2 payload 2) (sums_of (take end s)).a && all_blank (drop (end + 7) s)) ≡ true
  test_a = and_right (eqb (number_at 2 payload 0) (sums_of (take end s)).b) _ test-b

  pub sealed_within : end + 7 ≤ length s
  sealed_within = omega (arith, stands_within s end 0x1F (stands_payload s end 0x1F (omega (arith, four))), four)

  payload-is : payload ≡ big_endian 2 (sums_of (take end s)).b ++ big_endian 2 (sums_of (take end s)).a
  payload-is =
      let p = bytes-payload s end 0x1F b (stands_payload s end 0x1F (omega (arith, four))) in
      let eb = eqb-true (number_at 2 payload 0) (sums_of (take end s)).b (and_left (eqb (number_at 2 payload 0) (sums_of (take end s)).b) _ test-b) in
      let ea = eqb-true (number_at 2 payload 2) (sums_of (take end s)).a (and_left (eqb (number_at 2 payload 2) (sums_of (take end s)).a) _ test_a) in
      sym (
      ap₂ ◌++◌ (ap (big_endian 2) (sym eb) ∙ big_endian-number_at 2 payload 0 p (omega (arith, four)))
      (ap (big_endian 2) (sym ea) ∙ big_endian-number_at 2 payload 2 p (omega (arith, four))) ∙
      parts_whole 2 (2 ∷ []) payload four
      )

  field_is : part s end 7 ≡ sums_field (take end s)
  unfolding sums_field
  field_is =
      ap (λ (n : ℕ). part s end (3 + n)) (sym four) ∙
      part-payload s end 0x1F (stands_payload s end 0x1F (omega (arith, four))) b ∙
      ap (field 0x1F) payload-is

  rest-is : drop (end + 7) s ≡ replicate (length s - (end + 7)) 255
  rest-is =
      all_blank-is (drop (end + 7) s) (and_right (eqb (number_at 2 payload 2) (sums_of (take end s)).a) _ test_a) ∙
      ap (λ (n : ℕ). replicate n 255) (length-drop (end + 7) s)

  pub sealed_at-is : (size : ℕ) (body : List ℕ) → length s ≡ size → take end s ≡ body → s ≡ sealed size body
  unfolding sealed part
  sealed_at-is size body l e =
      let w = sealed_within in
      let c : length body ≡ end = ap length (sym e) ∙ length-take-le end s (omega arith) in
      let k : length s - (end + 7) ≡ size - length (body ++ sums_field body) =
      omega (arith, length-append body (sums_field body), length-sums_field body) in
      let tail : drop end s ≡ sums_field body ++ replicate (size - length (body ++ sums_field body)) 255 =
      sym (take-append-drop 7 (drop end s)) ∙
      ap₂ ◌++◌ (field_is ∙ ap sums_field e) (drop-drop 7 end s ∙ rest-is ∙ ap (λ (n : ℕ). replicate n 255) k) in
      sym (take-append-drop end s) ∙ ap₂ ◌++◌ e tail
