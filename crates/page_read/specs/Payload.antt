-- Payloads of page fields by the tag table: empty, or of the length that their tag has. Assumes nothing.
use Rattle.std.specs.Prelude.{◌≡◌, refl, true, false, ◌⊎◌, List, [], ◌∷◌, ℕ, ◌+◌, ◌*◌, ◌-◌, ◌/◌, ◌%◌, ◌≤◌, ◌<◌, eqb, length}
use Rattle.std.proofs.Common.{sym, ap, ◌∙◌, inl, inr, arith, eqb-true}
use Rattle.laws.specs.Tests.{and_left}
use Rattle.laws.specs.Lists.{empty_or}
use Rattle.wire.specs.Tag.{length_of, allowed, is_node_bytes}
use Rattle.wire.specs.Field.{payload_at}
use Rattle.wire.specs.FieldLaws.{stands_payload, allowed-payload, stands_within}
use Rattle.page.specs.Decode.{found}
use Rattle.page.specs.Tags.{allowed_11}

pub found_true : (p : List ℕ) → 1 ≤ length p → found p ≡ true
found_true [] h = absurd (omega arith)
found_true (x ∷ p) h = refl

pub found_false : (p : List ℕ) → length p < 1 → found p ≡ false
found_false [] h = refl
found_false (x ∷ p) h = absurd (omega arith)

-- A payload that has not its tag's length is empty.
module _ (b : List ℕ) (at tag len : ℕ) (only : (n : ℕ) → allowed (length_of tag) n ≡ true → n ≡ len) where
  pub payload-empty : (length (payload_at b at tag) ≡ len → ⊥) → payload_at b at tag ≡ []
  payload-empty h = go (empty_or (payload_at b at tag))
    where
      go : (payload_at b at tag ≡ []) ⊎ (1 ≤ length (payload_at b at tag)) → payload_at b at tag ≡ []
      go (inl e) = e
      go (inr l) = absurd (h (only (length (payload_at b at tag)) (allowed-payload b at tag (stands_payload b at tag l))))

-- A whole node's payload: its length by its pairs.
pub node_size : (b : List ℕ) (at : ℕ) → 1 ≤ length (payload_at b at 0x11) → 7 + 8 * ((length (payload_at b at 0x11) - 7) / 8) ≡ length (payload_at b at 0x11)
unfolding is_node_bytes
node_size b at l =
    let n = length (payload_at b at 0x11) in
    let m : is_node_bytes n ≡ true = sym (allowed_11 n) ∙ allowed-payload b at 0x11 (stands_payload b at 0x11 l) in
    let r : n % 8 ≡ 7 = eqb-true (n % 8) 7 (and_left (eqb (n % 8) 7) _ m) in
    omega arith

-- Where the sums are found, they lie within the page.
pub sums_within : (b : List ℕ) (end : ℕ) → length (payload_at b end 0x1F) ≡ 4 → end + 7 ≤ length b
sums_within b end e = omega (arith, stands_within b end 0x1F (stands_payload b end 0x1F (omega arith)))

-- A node's payload that is too short for a node is empty.
pub node_short : (b : List ℕ) (at : ℕ) → length (payload_at b at 0x11) < 7 → length (payload_at b at 0x11) < 1
node_short b at h = go (empty_or (payload_at b at 0x11))
  where
    go : (payload_at b at 0x11 ≡ []) ⊎ (1 ≤ length (payload_at b at 0x11)) → length (payload_at b at 0x11) < 1
    go (inl e) = omega (arith, ap length e)
    go (inr l) = absurd (omega (arith, node_size b at l))
