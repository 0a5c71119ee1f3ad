-- The page that the checkpoint writer writes, and its pieces laid one behind another. Assumes nothing.
use Rattle.std.specs.Prelude.{◌≡◌, List, ◌++◌, map, ℕ, ◌+◌, ◌*◌, ◌≤◌, Option, None, Some}
use Rattle.std.proofs.Math.Path.{refl}
use Rattle.std.proofs.Common.{sym, ap, ◌∙◌, arith, length-append}
use Rattle.std.proofs.Math.ListN.{length}
use Rattle.laws.specs.Lay.{lay, lay-next, length-lay}
use Rattle.laws.specs.BigEndian.{Bytes, big_endian}
use Rattle.laws.specs.Every.{map_back}
use Rattle.account.specs.declared.Tariff.{Tariff}
use Rattle.wire.specs.Field.{field, head}
use Rattle.wire.specs.FieldLaws.{lay-field, length-field}
use Rattle.page.specs.Page.{Score, checkpoint, Page, page}
use Rattle.page.specs.Image.{tariff_bytes, score_bytes, count_bytes, fields, field_if, content_bytes, numbered}
use Rattle.page.specs.Decode.{most_scores, score_of}
use Rattle.page.specs.Limits.{given}
use Rattle.page.specs.Spelled.{score_bytes_of, length-tariff_bytes}
use Rattle.page_write.specs.Chunks.{chunks, every_chunk, length_chunk_fields}
use Rattle.page_write.specs.Laid.{numbered-laid}
use Rattle.page_write.specs.Pages.{body_of}
use Rattle.layout.specs.Layout.{first_scores_at}

-- The score of a node.
abbrev pub scored : ℕ → ℕ → Score
scored id score = record { id = id; score = score }

-- The scores that a buffer of records spells.
unfoldable pub scores_in : ℕ → List ℕ → List Score
scores_in n records = map score_of (chunks 6 n records 0)

-- The page of the first n records, with the tariff and the node count that it has.
unfoldable pub records_page : ℕ → Option Tariff → ℕ → List ℕ → Option ℕ → Page
records_page s tariff n records count = page s (checkpoint tariff (scores_in n records) count)

pub scores_in-bytes : (n : ℕ) (records : List ℕ) → Bytes records → 6 * n ≤ length records → map score_bytes (scores_in n records) ≡ chunks 6 n records 0
unfolding scores_in
scores_in-bytes n records b h =
    map_back score_of score_bytes (λ p f. score_bytes_of p f.1 f.0) (chunks 6 n records 0) (every_chunk 6 n records 0 b (omega arith))

-- Something laid at a place, and the place behind it.
pub record LaidTo (before after : List ℕ) (at : ℕ) (bytes : List ℕ) (next : ℕ) : Type 0 where
  pub is : after ≡ lay before at bytes
  pub behind : next ≡ at + length bytes

-- ---- the tariff

module _ (s : List ℕ) (at : ℕ) (a b c : ℕ) where
  pub three_laid : at + 12 ≤ length s →
      lay (lay (lay s at (big_endian 4 a)) (at + 4) (big_endian 4 b)) (at + 8) (big_endian 4 c) ≡ lay s at (big_endian 4 a ++ (big_endian 4 b ++ big_endian 4 c))
  three_laid h =
      let l : length (lay s at (big_endian 4 a)) ≡ length s = length-lay s at (big_endian 4 a) (omega arith) in
      lay-next (lay s at (big_endian 4 a)) (at + 4) (big_endian 4 b) (big_endian 4 c) (at + 8) (omega arith) (omega arith) ∙
      lay-next s at (big_endian 4 a) (big_endian 4 b ++ big_endian 4 c) (at + 4) (omega arith) refl

-- Field 13 in five pieces.
module _ (s : List ℕ) (at : ℕ) (t : Tariff) (h : at + 35 ≤ length s) where
  abbrev logs : List ℕ
  logs = big_endian 4 t.log.read ++ (big_endian 4 t.log.edit ++ big_endian 4 t.log.rewrite)

  abbrev disks : List ℕ
  disks = big_endian 4 t.disk.read ++ (big_endian 4 t.disk.edit ++ big_endian 4 t.disk.rewrite)

  abbrev enters : List ℕ
  enters = big_endian 4 t.disk.enter ++ big_endian 4 t.log.enter

  pub tariff-laid :
      lay (lay (lay (lay (lay s at (head 0x13 32)) (at + 3) logs) (at + 15) disks) (at + 27) (big_endian 4 t.disk.enter)) (at + 31)
      (big_endian 4 t.log.enter) ≡
      lay s at (field 0x13 (tariff_bytes t))
  unfolding tariff_bytes
  tariff-laid =
      let s₁ = lay s at (head 0x13 32) in
      let s₂ = lay s₁ (at + 3) logs in
      let s₃ = lay s₂ (at + 15) disks in
      let l₁ : length s₁ ≡ length s = length-lay s at (head 0x13 32) (omega arith) in
      let l₂ : length s₂ ≡ length s₁ = length-lay s₁ (at + 3) logs (omega arith) in
      let l₃ : length s₃ ≡ length s₂ = length-lay s₂ (at + 15) disks (omega arith) in
      lay-next s₃ (at + 27) (big_endian 4 t.disk.enter) (big_endian 4 t.log.enter) (at + 31) (omega arith) (omega arith) ∙
      lay-next s₂ (at + 15) disks enters (at + 27) (omega arith) (omega arith) ∙
      lay-next s₁ (at + 3) logs (disks ++ enters) (at + 15) (omega arith) (omega arith) ∙
      lay-field s at 0x13 32 (tariff_bytes t) (omega arith) refl

pub length_tariff_if : (t : Option Tariff) → length (field_if 0x13 tariff_bytes t) ≤ 35
length_tariff_if (Some t) = omega (arith, length-field 0x13 (tariff_bytes t), length-tariff_bytes t)
length_tariff_if None = omega arith

-- ---- checkpoint pages

-- The scores leave room for the count and the sums; so does the count for the sums.
pub scores-room : (t : Option Tariff) (n : ℕ) → n ≤ most_scores (given t) → length (field_if 0x13 tariff_bytes t) + 9 * n ≤ 493
scores-room (Some t) n h = omega (arith, length-field 0x13 (tariff_bytes t), length-tariff_bytes t)
scores-room None n h = omega arith

pub count_room : (count : Option ℕ) → length (field_if 0x15 count_bytes count) ≤ 5
count_room (Some count) = omega (arith, length-field 0x15 (count_bytes count))
count_room None = omega arith

pub length_checkpoint_body : (s : ℕ) (t : Option Tariff) (n : ℕ) (records : List ℕ) (count : Option ℕ) (at end : ℕ) →
    Bytes records → 6 * n ≤ length records → at ≡ 7 + length (field_if 0x13 tariff_bytes t) →
    end ≡ at + 9 * n + length (field_if 0x15 count_bytes count) → end ≡ length (body_of (records_page s t n records count))
unfolding body_of records_page content_bytes numbered
length_checkpoint_body s t n records count at end b h ea ee =
    let f = field_if 0x13 tariff_bytes t in
    let m = fields 0x14 (map score_bytes (scores_in n records)) in
    let z = field_if 0x15 count_bytes count in
    let lm : length m ≡ 9 * n = ap (λ (ps : List (List ℕ)). length (fields 0x14 ps)) (scores_in-bytes n records b h) ∙ length_chunk_fields 0x14 6 n records h in
    omega (
      arith,
      length-append (field 0x10 (big_endian 4 s)) (f ++ (m ++ z)),
      length-field 0x10 (big_endian 4 s),
      length-append f (m ++ z),
      length-append m z,
    )

-- The tariff, the scores and the count one behind another, behind field 10.
pub checkpoint-laid :
    (p : List ℕ) (s : ℕ) (t : Option Tariff) (n : ℕ) (records : List ℕ) (count : Option ℕ) (at end : ℕ) →
    Bytes records → 6 * n ≤ length records → first_scores_at ≤ length p →
    at ≡ 7 + length (field_if 0x13 tariff_bytes t) → end ≡ at + 9 * n → end ≤ length p →
    lay (lay (lay (lay p 0 (field 0x10 (big_endian 4 s))) 7 (field_if 0x13 tariff_bytes t)) at (fields 0x14 (chunks 6 n records 0))) end
    (field_if 0x15 count_bytes count) ≡
    lay p 0 (body_of (records_page s t n records count))
unfolding body_of records_page content_bytes
checkpoint-laid p s t n records count at end b h l ea ee le =
    let f = field_if 0x13 tariff_bytes t in
    let m = fields 0x14 (chunks 6 n records 0) in
    let z = field_if 0x15 count_bytes count in
    let p₁ = lay p 0 (field 0x10 (big_endian 4 s)) in
    let p₂ = lay p₁ 7 f in
    let k : length (field 0x10 (big_endian 4 s)) ≡ 7 = length-field 0x10 (big_endian 4 s) in
    let l₁ : length p₁ ≡ length p = length-lay p 0 (field 0x10 (big_endian 4 s)) (omega arith) in
    let l₂ : length p₂ ≡ length p₁ = length-lay p₁ 7 f (omega (arith, length_tariff_if t)) in
    let lm : length m ≡ 9 * n = length_chunk_fields 0x14 6 n records h in
    lay-next p₂ at m z end (omega arith) (ee ∙ ap (λ (i : ℕ). at + i) (sym lm)) ∙
    lay-next p₁ 7 f (m ++ z) at (omega arith) ea ∙
    ap (λ (ps : List (List ℕ)). lay p₁ 7 (f ++ (fields 0x14 ps ++ z))) (sym (scores_in-bytes n records b h)) ∙
    numbered-laid p s (f ++ (fields 0x14 (map score_bytes (scores_in n records)) ++ z))
