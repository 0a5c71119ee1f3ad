-- A page within its limits fits the page's size; blank bytes are read as blank, and nothing else is. Assumes nothing.
use Rattle.std.specs.Prelude.{◌≡◌, refl, Bool, true, false, List, ◌++◌, map, ℕ, ◌+◌, ◌*◌, ◌≤◌, eqb, leb, length, get_or, replicate, Option, None, Some}
use Rattle.std.proofs.Common.{sym, ap, ◌∙◌, arith, length-append, eqb-true, leb-true, leb-false}
use Rattle.std.proofs.lemmas.List.{length-map}
use Rattle.std.proofs.lemmas.Bool.{eqb-false}
use Rattle.laws.specs.Every.{every-map-by}
use Rattle.layout.specs.Layout.{page_bytes}
use Rattle.account.specs.declared.Tariff.{Tariff}
use Rattle.node.specs.Node.{node}
use Rattle.wire.specs.Field.{field}
use Rattle.wire.specs.FieldLaws.{length-field}
use Rattle.page.specs.Page.{Content, log, whole, checkpoint, Page, page}
use Rattle.page.specs.Image.{entry_bytes, whole_bytes, tariff_bytes, score_bytes, count_bytes, fields, field_if, content_bytes, numbered, image, blank_bytes}
use Rattle.page.specs.Decode.{Decoded, blank, bad, all_blank, when, most_scores, decode_log, decode_node, decode_scores, decode_counted}
use Rattle.page.specs.Decode.{decode_checkpoint, decode_content, decode_written, decode}
use Rattle.page.specs.Limits.{given, ContentFits, PageFits}
use Rattle.page.specs.Cases.{
  decode-blank,
  decode-other,
  written-zero,
  written_from,
  content_log,
  content_node,
  content-checkpoint,
}
use Rattle.page.specs.Spelled.{length-entry_bytes, length-score_bytes, length-tariff_bytes}
use Rattle.page.specs.SpelledNode.{length-whole_bytes}
use Rattle.page.proofs.Seal.{all_blank-replicate, all_blank-is, length-sealed}
use Rattle.page.proofs.ReadBack.{length_fields}

-- ---- sizes

length_tariff_if : (t : Option Tariff) → length (field_if 0x13 tariff_bytes t) + 9 * most_scores (given t) ≤ 493
unfolding field
length_tariff_if None = omega arith
length_tariff_if (Some t) = omega (arith, length-tariff_bytes t)

length_count_if : (c : Option ℕ) → length (field_if 0x15 count_bytes c) ≤ 5
unfolding field
length_count_if None = omega arith
length_count_if (Some n) = omega arith

-- A content leaves room for field 10 and the sums.
length-content : (s : ℕ) (c : Content) → ContentFits s c → length (content_bytes c) ≤ 498
unfolding content_bytes
length-content s (log es) h =
    omega (
      arith,
      length_fields 0x12 15 (map entry_bytes es) (every-map-by entry_bytes (λ e f. length-entry_bytes e) es h.entries),
      length-map es entry_bytes,
      h.few,
    )
length-content s (whole id (node shape ps l)) h =
    omega (arith, length-field 0x11 (whole_bytes id (node shape ps l)), length-whole_bytes id shape ps l, h.node.few)
length-content s (checkpoint t ss c) h =
    omega (
      arith,
      length-append (field_if 0x13 tariff_bytes t) (fields 0x14 (map score_bytes ss) ++ field_if 0x15 count_bytes c),
      length-append (fields 0x14 (map score_bytes ss)) (field_if 0x15 count_bytes c),
      length_fields 0x14 6 (map score_bytes ss) (every-map-by score_bytes (λ e f. length-score_bytes e) ss h.scores),
      length-map ss score_bytes,
      length_tariff_if t,
      length_count_if c,
      h.few,
    )

pub length-image : (p : Page) → PageFits p → length (image p) ≡ page_bytes
unfolding image numbered field
length-image (page s c) h =
    length-sealed page_bytes (numbered s (content_bytes c)) (omega (arith, length-content s c h.content))

-- ---- blank pages

pub decode-blank_bytes : decode blank_bytes ≡ blank
unfolding blank_bytes
decode-blank_bytes = decode-blank (replicate page_bytes 255) (all_blank-replicate page_bytes)

clash : {A : Type 0} (x : Decoded) → x ≡ blank → x ≡ bad → A
clash x e f = absurd (let z : ◌≡◌ {A = ℕ} 0 1 = cc in omega arith)

when_never : {A : Type 0} (t : Bool) (p : Page) → when t p ≡ blank → A
unfolding when
when_never true p e = absurd (let z : ◌≡◌ {A = ℕ} 0 1 = cc in omega arith)
when_never false p e = clash bad e refl

module _ {A : Type 0} (s : ℕ) (b : List ℕ) where
  log_never : (n : ℕ) → decode_log s n b ≡ blank → A
  unfolding decode_log
  log_never n e = when_never _ _ e

  node_never : (p : List ℕ) → decode_node s p b ≡ blank → A
  unfolding decode_node
  node_never p e = when_never _ _ e

  checkpoint_never : (t : List ℕ) → decode_checkpoint s t b ≡ blank → A
  unfolding decode_checkpoint decode_counted decode_scores
  checkpoint_never t e = when_never _ _ e

  content_never : (tag : ℕ) → decode_content s tag b ≡ blank → A
  content_never tag e = go (eqb tag 0x12) (eqb tag 0x11) refl refl
    where
      go : (x y : Bool) → eqb tag 0x12 ≡ x → eqb tag 0x11 ≡ y → A
      go true y f g = log_never _ (sym (content_log s b tag (eqb-true tag 0x12 f)) ∙ e)
      go false true f g = node_never _ (sym (content_node s b tag (eqb-true tag 0x11 g)) ∙ e)
      go false false f g = checkpoint_never _ (sym (content-checkpoint s b tag (eqb-false tag 0x12 f) (eqb-false tag 0x11 g)) ∙ e)

  written_never : decode_written s b ≡ blank → A
  written_never e = go (leb 1 s) refl
    where
      go : (x : Bool) → leb 1 s ≡ x → A
      go true f = content_never (get_or b 7 0) (sym (written_from s b (leb-true 1 s f)) ∙ e)
      go false f = clash _ e (written-zero s b (leb-false 1 s f))

pub blank-decode : (b : List ℕ) → length b ≡ page_bytes → decode b ≡ blank → b ≡ blank_bytes
unfolding blank_bytes
blank-decode b l e = go (all_blank b) refl
  where
    go : (x : Bool) → all_blank b ≡ x → b ≡ replicate page_bytes 255
    go true f = all_blank-is b f ∙ ap (λ (n : ℕ). replicate n 255) l
    go false f = written_never _ b (sym (decode-other b f) ∙ e)
