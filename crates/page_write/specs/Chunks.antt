-- Records of one size one behind another in a buffer: log entries of 15 bytes, scores of 6. Assumes nothing.
use Rattle.std.specs.Prelude.{◌≡◌, refl, List, [], ◌∷◌, ℕ, zero, suc, ◌+◌, ◌-◌, ◌*◌, ◌≤◌, ◌<◌, length}
use Rattle.std.proofs.Common.{sym, ap, ◌∙◌, arith}
use Rattle.laws.specs.Every.{Every, none, both}
use Rattle.laws.specs.Lay.{lay, part, lay-nil, lay-next, length_part}
use Rattle.laws.specs.BigEndian.{Bytes, bytes-part}
use Rattle.wire.specs.Field.{field}
use Rattle.wire.specs.FieldLaws.{length-field}
use Rattle.page.specs.Image.{fields}
use Rattle.page.proofs.ReadBack.{length_fields}

-- The n records of a size from a place on.
unfoldable pub chunks : ℕ → ℕ → List ℕ → ℕ → List (List ℕ)
chunks size zero s at = []
chunks size (suc n) s at = part s at size ∷ chunks size n s (at + size)

pub length-chunks : (size n : ℕ) (s : List ℕ) (at : ℕ) → length (chunks size n s at) ≡ n
unfolding chunks
length-chunks size zero s at = refl
length-chunks size (suc n) s at = ap suc (length-chunks size n s (at + size))

-- Each has the size, and is bytes where the buffer is.
pub every_chunk : (size n : ℕ) (s : List ℕ) (at : ℕ) → Bytes s → at + size * n ≤ length s →
    Every (λ p. (length p ≡ size) × Bytes p) (chunks size n s at)
unfolding chunks
every_chunk size zero s at b h = none
every_chunk size (suc n) s at b h =
    both (length_part s at size (omega arith), bytes-part at size b) (every_chunk size n s (at + size) b (omega arith))

pub every-size : (size n : ℕ) (s : List ℕ) (at : ℕ) → at + size * n ≤ length s → Every (λ p. length p ≡ size) (chunks size n s at)
unfolding chunks
every-size size zero s at h = none
every-size size (suc n) s at h = both (length_part s at size (omega arith)) (every-size size n s (at + size) (omega arith))

-- So their fields take as many bytes together.
pub length_chunk_fields : (tag size n : ℕ) (s : List ℕ) → size * n ≤ length s → length (fields tag (chunks size n s 0)) ≡ (3 + size) * n
length_chunk_fields tag size n s h =
    length_fields tag size (chunks size n s 0) (every-size size n s 0 (omega arith)) ∙
    ap (λ (k : ℕ). (3 + size) * k) (length-chunks size n s 0)

-- A turn lays the field of the first record that is left.
pub run-next : (tag size left : ℕ) (dst src : List ℕ) (at from : ℕ) → 0 < left → at ≤ length dst → from + size ≤ length src →
    lay (lay dst at (field tag (part src from size))) (at + (3 + size)) (fields tag (chunks size (left - 1) src (from + size))) ≡
    lay dst at (fields tag (chunks size left src from))
unfolding chunks fields
run-next tag size left dst src at from h k m =
    let e : left ≡ suc (left - 1) = omega arith in
    let l : at + (3 + size) ≡ at + length (field tag (part src from size)) = omega
    (arith, length-field tag (part src from size), length_part src from size m) in
    lay-next dst at (field tag (part src from size)) (fields tag (chunks size (left - 1) src (from + size))) (at + (3 + size)) k l ∙
    sym (ap (λ (n : ℕ). lay dst at (fields tag (chunks size n src from))) e)

pub run_end : (tag size left : ℕ) (dst src : List ℕ) (at from : ℕ) → left ≤ 0 → lay dst at (fields tag (chunks size left src from)) ≡ dst
unfolding chunks fields
run_end tag size left dst src at from h =
    let e : left ≡ 0 = omega arith in
    ap (λ (n : ℕ). lay dst at (fields tag (chunks size n src from))) e ∙ lay-nil dst at

-- One record and the others.
pub mul-split : (size n : ℕ) → 0 < n → size * n ≡ size + size * (n - 1)
mul-split size n h =
    let e : n ≡ suc (n - 1) = omega arith in
    ap (λ (k : ℕ). size * k) e ∙ omega arith
