-- Fields laid and read: a field is found where it was laid, and what is found as a field is one. Assumes nothing.
use Rattle.std.specs.Prelude.{◌≡◌, Result, Ok, Err, Bool, true, ◌&&◌, List, [], ◌∷◌, ◌++◌, ℕ, ◌+◌, ◌-◌, ◌^◌, ◌≤◌, ◌<◌, leb, ◌⊎◌}
use Rattle.std.proofs.Math.Path.{refl, ap}
use Rattle.std.proofs.Common.{sym, ap₂, subst, ◌∙◌, true≢false, add-zero, inl, inr}
use Rattle.std.proofs.Math.Bool.{false}
use native.Mathlib.Omega.{arith}
use Rattle.std.proofs.Math.Dec.{eqb}
use Rattle.std.proofs.Math.ListN.{length, get_or, length-append}
use Rattle.std.proofs.Math.Seq.{take_at, get_or-append-add}
use borrow.Author.Tests.{eqb-true, leb-true, eq-eqb, ne_eqb, le-leb}
use Rattle.laws.specs.Tests.{and_left, and_right}
use Rattle.laws.specs.Lay.{lay, part, lay-lay, length_part, part-add, part-cons, part-append}
use Rattle.laws.specs.BigEndian.{big_endian, number, number_at, number-big_endian, Bytes, big_endian-number_at, bytes-part}
use Rattle.laws.specs.Lists.{empty_or}
use Rattle.wire.specs.Tag.{length_of, allowed}
use Rattle.wire.specs.Field.{head, field, length_at, from_to, field_at, payload_of, payload_at, is_payload, stands_at}
use Rattle.wire.specs.declared.field.Span.{Span}
use Rattle.wire.specs.declared.field.Fault.{Fault}

pub length-field : (tag : ℕ) (p : List ℕ) → length (field tag p) ≡ 3 + length p
unfolding field
length-field tag p = omega arith

-- A payload laid behind its tag and length.
pub lay-field : (s : List ℕ) (at tag n : ℕ) (p : List ℕ) → at ≤ length s → length p ≡ n →
    lay (lay s at (head tag n)) (at + 3) p ≡ lay s at (field tag p)
unfolding field
lay-field s at tag n p h e =
    ap (λ (k : ℕ). lay (lay s at (head tag k)) (at + 3) p) (sym e) ∙ lay-lay s at (head tag (length p)) p h

-- A field that was laid is found: its tag, its length, its payload.
module _ (front : List ℕ) (tag : ℕ) (p rest : List ℕ) where
  laid : List ℕ
  laid = front ++ (field tag p ++ rest)

  tag_laid : get_or laid (length front) 0 ≡ tag
  unfolding laid field
  tag_laid =
      ap (λ (i : ℕ). get_or laid i 0) (sym (add-zero (length front))) ∙ get_or-append-add front (field tag p ++ rest) 0 0

  length_at-laid : length p < 256 ^ 2 → length_at laid (length front) ≡ length p
  unfolding laid number_at field part
  length_at-laid h = ap number (part-append front (field tag p ++ rest) 1 2) ∙ number-big_endian 2 (length p) h

  length-laid : length laid ≡ length front + (3 + length p) + length rest
  unfolding laid
  length-laid =
      length-append front (field tag p ++ rest) ∙ omega (arith, length-append (field tag p) rest, length-field tag p)

  payload-laid : part laid (length front + 3) (length p) ≡ p
  unfolding laid field part
  payload-laid = part-append front (field tag p ++ rest) 3 (length p) ∙ take_at p rest (length p) refl

  module _ (h : length p < 256 ^ 2) (m : allowed (length_of tag) (length p) ≡ true) where
    field_at-laid : field_at laid (length front) tag ≡ Ok (from_to (length front + 3) (length front + 3 + length p))
    unfolding field_at
    field_at-laid =
        let l₁ : length front + 3 ≤ length laid = omega (arith, length-laid) in
        let l₂ : length front + 3 + length p ≤ length laid = omega (arith, length-laid) in
        simp (le-leb _ _ l₁, eq-eqb _ _ tag_laid, length_at-laid h, m, le-leb _ _ l₂)

    pub stands_at-field : stands_at (front ++ (field tag p ++ rest)) (length front) tag ≡ true
    unfolding stands_at laid
    stands_at-field = ap is_payload field_at-laid

    pub payload_at-field : payload_at (front ++ (field tag p ++ rest)) (length front) tag ≡ p
    unfolding payload_at laid
    payload_at-field =
        let e : length front + 3 + length p - (length front + 3) ≡ length p = omega arith in
        ap (payload_of laid) field_at-laid ∙ ap (λ (n : ℕ). part laid (length front + 3) n) e ∙ payload-laid

  -- A field of another tag is not found there.
  pub stands_at-other : (other : ℕ) → (tag ≡ other → ⊥) → stands_at (front ++ (field tag p ++ rest)) (length front) other ≡ false
  unfolding stands_at field_at laid
  stands_at-other other h =
      let l₁ : length front + 3 ≤ length laid = omega (arith, length-laid) in
      let e : eqb (get_or laid (length front) 0) other ≡ false = rw tag_laid (ne_eqb tag other h) in
      simp (le-leb _ _ l₁, e)

-- What is found as a field: the tag and the length stand there, and the payload lies within the bytes.
pub record Stands (s : List ℕ) (at tag : ℕ) : Type 0 where
  pub tag_is : get_or s at 0 ≡ tag
  pub may : allowed (length_of tag) (length_at s at) ≡ true
  pub within : at + 3 + length_at s at ≤ length s
  pub payload-is : payload_at s at tag ≡ part s (at + 3) (length_at s at)

pub stands_is : (s : List ℕ) (at tag : ℕ) → stands_at s at tag ≡ true → Stands s at tag
unfolding stands_at field_at payload_at
stands_is s at tag t =
    first (leb (at + 3) (length s)) (eqb (get_or s at 0) tag && allowed (length_of tag) (length_at s at)) (leb (at + 3 + length_at s at) (length s)) refl refl refl
  where
    first : (a b c : Bool) → leb (at + 3) (length s) ≡ a → (eqb (get_or s at 0) tag && allowed (length_of tag) (length_at s at)) ≡ b →
        leb (at + 3 + length_at s at) (length s) ≡ c → Stands s at tag
    first true true true a b c =
        let e : at + 3 + length_at s at - (at + 3) ≡ length_at s at = omega arith in
        record {
          tag_is = eqb-true _ _ (and_left (eqb (get_or s at 0) tag) (allowed (length_of tag) (length_at s at)) b);
          may = and_right (eqb (get_or s at 0) tag) (allowed (length_of tag) (length_at s at)) b;
          within = leb-true _ _ c;
          payload-is = simp (a, b, c, e);
        }
    first true true false a b c = absurd (true≢false (sym (simp (a, b, c) at t)))
    first true false c a b _ = absurd (true≢false (sym (simp (a, b) at t)))
    first false b c a _ _ = absurd (true≢false (sym (simp a at t)))

-- So the bytes there are that field of that payload.
pub part_field : (s : List ℕ) (at tag : ℕ) → Bytes s → Stands s at tag → part s at (3 + length_at s at) ≡ field tag (payload_at s at tag)
unfolding field
part_field s at tag b h =
    let l : length (payload_at s at tag) ≡ length_at s at = ap length h.payload-is ∙ length_part s (at + 3) (length_at s at) h.within in
    let one : part s at 3 ≡ tag ∷ part s (at + 1) 2 = part-cons s at 2 (omega (arith, h.within)) ∙ ap (λ (x : ℕ). x ∷ part s (at + 1) 2) h.tag_is in
    let two : part s (at + 1) 2 ≡ big_endian 2 (length_at s at) = sym (big_endian-number_at 2 s (at + 1) b (omega (arith, h.within))) in
    part-add s at 3 (length_at s at) ∙
    ap₂ ◌++◌ (one ∙ ap (λ (x : List ℕ). tag ∷ x) (two ∙ ap (big_endian 2) (sym l))) (sym h.payload-is)

-- The payload is empty where no field stands, so a payload that is not shows a field.
payload_at-none : (s : List ℕ) (at tag : ℕ) → stands_at s at tag ≡ false → payload_at s at tag ≡ []
unfolding stands_at payload_at
payload_at-none s at tag t = go (field_at s at tag) t
  where
    go : (f : Result Span Fault) → is_payload f ≡ false → payload_of s f ≡ []
    go (Ok p) e = absurd (true≢false e)
    go (Err fault) e = refl

pub payload_at-other : (front : List ℕ) (other : ℕ) (p rest : List ℕ) (tag : ℕ) → (other ≡ tag → ⊥) →
    payload_at (front ++ (field other p ++ rest)) (length front) tag ≡ []
payload_at-other front other p rest tag h =
    payload_at-none (front ++ (field other p ++ rest)) (length front) tag (stands_at-other front other p rest tag h)

pub stands_payload : (s : List ℕ) (at tag : ℕ) → 1 ≤ length (payload_at s at tag) → Stands s at tag
stands_payload s at tag h = go (stands_at s at tag) refl
  where
    go : (b : Bool) → stands_at s at tag ≡ b → Stands s at tag
    go true t = stands_is s at tag t
    go false t = absurd (omega (arith, ap length (payload_at-none s at tag t)))

-- No field of a tag stands where another byte does.
pub payload_at-absent : (s : List ℕ) (at tag : ℕ) → (get_or s at 0 ≡ tag → ⊥) → payload_at s at tag ≡ []
payload_at-absent s at tag h = go (empty_or (payload_at s at tag))
  where
    go : (payload_at s at tag ≡ []) ⊎ (1 ≤ length (payload_at s at tag)) → payload_at s at tag ≡ []
    go (inl e) = e
    go (inr l) = absurd (h (stands_payload s at tag l).tag_is)

-- The length that stands there is the payload's.
module _ (s : List ℕ) (at tag : ℕ) (h : Stands s at tag) where
  pub length_at-payload : length_at s at ≡ length (payload_at s at tag)
  length_at-payload = sym (ap length h.payload-is ∙ length_part s (at + 3) (length_at s at) h.within)

  pub stands_within : at + (3 + length (payload_at s at tag)) ≤ length s
  stands_within = omega (arith, length_at-payload, h.within)

  pub part-payload : Bytes s → part s at (3 + length (payload_at s at tag)) ≡ field tag (payload_at s at tag)
  part-payload b = ap (λ (n : ℕ). part s at (3 + n)) (sym length_at-payload) ∙ part_field s at tag b h

  pub allowed-payload : allowed (length_of tag) (length (payload_at s at tag)) ≡ true
  allowed-payload = ap (allowed (length_of tag)) (sym length_at-payload) ∙ h.may

pub bytes-payload : (s : List ℕ) (at tag : ℕ) → Bytes s → Stands s at tag → Bytes (payload_at s at tag)
bytes-payload s at tag b h = subst Bytes (sym h.payload-is) (bytes-part (at + 3) (length_at s at) b)
