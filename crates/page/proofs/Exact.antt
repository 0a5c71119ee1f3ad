-- Bytes that check are the image of the page that they spell, which is within its limits: `decode b ≡ written p` gives
-- `b ≡ image p`. Each field that was found stands there, from the front to the sums. Assumes nothing.
use Rattle.std.specs.Prelude.{◌≡◌, Bool, false, ◌&&◌, ◌||◌, ℕ, ◌+◌, ◌*◌, ◌≤◌, ◌<◌, leb, get_or, Option, None, Some}
use Rattle.std.proofs.Math.Path.{refl, sym, ap, ap₂, subst}
use Rattle.std.proofs.Common.{◌∙◌, true≢false, arith}
use Rattle.std.proofs.Math.Bool.{true}
use mathlib.Core.List.{List, [], ◌∷◌, ◌++◌, map}
use Rattle.std.proofs.Math.Dec.{eqb}
use Rattle.std.proofs.Math.ListN.{length, take, length-map}
use borrow.Author.Tests.{eqb-true, eqb-false, leb-true, leb-false}
use Rattle.laws.specs.Tests.{and_left, and_right}
use Rattle.laws.specs.Lay.{part, part-add}
use Rattle.laws.specs.BigEndian.{big_endian, number, number_at, Bytes, big_endian-number, number_lt, number_at_lt}
use Rattle.laws.specs.Every.{map_back, every-map-by}
use Rattle.layout.specs.Layout.{page_bytes, most_entries, bound32}
use Rattle.wire.specs.Tag.{length_of, allowed, is_node_bytes}
use Rattle.wire.specs.Field.{field, payload_at}
use Rattle.wire.specs.FieldLaws.{stands_payload, part-payload, bytes-payload, allowed-payload}
use Rattle.page.specs.Page.{Content, log, whole, checkpoint, Page, page, sequence, content_of}
use Rattle.page.specs.Image.{entry_bytes, tariff_bytes, score_bytes, count_bytes, fields, field_if, content_bytes, numbered, sealed, image}
use Rattle.page.specs.Decode.{Decoded, written, bad, found, taken, sealed_at, all_blank, run, payloads, entry_ok, entry_of, node_ok, node_of}
use Rattle.page.specs.Decode.{tariff_of, score_ok, score_of, read_if, most_scores, decode_log, decode_node, decode_scores, decode_counted}
use Rattle.page.specs.Decode.{decode_checkpoint, decode_content, decode_written, decode}
use Rattle.page.specs.Limits.{TariffIfFits, Filled, given, Fits, PageFits}
use Rattle.page.specs.Cases.{decode-blank, decode-other, written-zero, written_from, content_log, content_node, content-checkpoint, when_passed}
use Rattle.page.specs.Tags.{allowed_11, only_10, only_13, only_15}
use Rattle.page.specs.Runs.{length-payloads, Ran, ran}
use Rattle.page.specs.Spelled.{entry_bytes_of, entry_of-fits, score_bytes_of, score_of-fits, tariff_bytes_of, tariff_of-fits}
use Rattle.page.specs.SpelledNode.{whole_bytes_of, node_of-fits, node_long}
use Rattle.page.proofs.Seal.{sealed_at-is}
use Rattle.page.proofs.ReadBack.{taken-found}

-- Where on a page that checks its values stand: the entries in the fields 12 behind field 10, the node in field 11, the tariff
-- in field 13, the scores in the fields 14 behind it, the node count in field 15 behind those.
abbrev pub ReadsContent : List ℕ → Content → Type 0
ReadsContent b (log es) = es ≡ map entry_of (payloads 0x12 18 (length es) b 7)
ReadsContent b (whole id n) = (id ≡ number_at 2 (payload_at b 7 0x11) 0) × (n ≡ node_of (payload_at b 7 0x11))
ReadsContent b (checkpoint t ss c) =
    (t ≡ read_if tariff_of (payload_at b 7 0x13)) ×
    (ss ≡ map score_of (payloads 0x14 9 (length ss) b (7 + taken (payload_at b 7 0x13)))) ×
    (c ≡ read_if number (payload_at b (7 + taken (payload_at b 7 0x13) + 9 * length ss) 0x15))

abbrev pub Reads : List ℕ → Page → Type 0
Reads b (page s c) = (s ≡ number (payload_at b 0 0x10)) × ReadsContent b c

-- The bytes are those of a page within its limits, whatever the size, and its values stand where they are looked for.
pub record Exact (b : List ℕ) (p : Page) : Type 0 where
  pub fits : PageFits p
  pub reads : Reads b p
  pub is : (size : ℕ) → length b ≡ size → b ≡ sealed size (numbered (sequence p) (content_bytes (content_of p)))

found_some : (p : List ℕ) → found p ≡ true → 1 ≤ length p
found_some [] t = absurd (true≢false (sym t))
found_some (x ∷ p) t = omega arith

-- A field that may be there, as it stands: `of` reads its payload, and `bytes` gives it back.
module _ {A : Type 0} (b : List ℕ) (bs : Bytes b) (at tag len : ℕ) (of : List ℕ → A) (bytes : A → List ℕ) where
  abbrev payload : List ℕ
  payload = payload_at b at tag

  if_stands : ((n : ℕ) → allowed (length_of tag) n ≡ true → n ≡ len) → ((p : List ℕ) → Bytes p → length p ≡ len → bytes (of p) ≡ p) →
      part b at (taken payload) ≡ field_if tag bytes (read_if of payload)
  unfolding part
  if_stands only back = go payload refl
    where
      go : (p : List ℕ) → payload ≡ p → part b at (taken p) ≡ field_if tag bytes (read_if of p)
      go [] e = refl
      go (x ∷ p) e =
          let h = stands_payload b at tag (omega (arith, ap length e)) in
          let l : length (x ∷ p) ≡ len = ap length (sym e) ∙ only (length payload) (allowed-payload b at tag h) in
          let y : Bytes (x ∷ p) = subst Bytes e (bytes-payload b at tag bs h) in
          ap (λ (q : List ℕ). part b at (3 + length q)) (sym e) ∙
          part-payload b at tag h bs ∙
          ap (field tag) (e ∙ sym (back (x ∷ p) y l))

  if_fits_lem : (P : Option A → Type 0) → ((n : ℕ) → allowed (length_of tag) n ≡ true → n ≡ len) →
      (found payload ≡ false → P None) → ((p : List ℕ) → Bytes p → length p ≡ len → P (Some (of p))) → P (read_if of payload)
  if_fits_lem P only nothing something = go payload refl
    where
      go : (p : List ℕ) → payload ≡ p → P (read_if of p)
      go [] e = nothing (ap found e)
      go (x ∷ p) e =
          let h = stands_payload b at tag (omega (arith, ap length e)) in
          something (x ∷ p) (subst Bytes e (bytes-payload b at tag bs h))
          (ap length (sym e) ∙ only (length payload) (allowed-payload b at tag h))

pub found-given : (p : List ℕ) → found p ≡ given (read_if tariff_of p)
found-given [] = refl
found-given (x ∷ p) = refl

-- Behind field 10.
module _ (s : ℕ) (b : List ℕ) (bs : Bytes b) (h : 1 ≤ s) (l : s < bound32) (no : s ≡ number (payload_at b 0 0x10))
    (ten : part b 0 7 ≡ field 0x10 (big_endian 4 s)) where
  body_is : (end n : ℕ) (content : List ℕ) → end ≡ 7 + n → part b 7 n ≡ content → take end b ≡ numbered s content
  unfolding numbered part
  body_is end n content e c = ap (λ (k : ℕ). take k b) e ∙ part-add b 0 7 n ∙ ap₂ ◌++◌ ten c

  -- a page whose content is as long as the place of the sums says
  exact_of : (c : Content) (end n : ℕ) → end ≡ 7 + n → part b 7 n ≡ content_bytes c → sealed_at b end ≡ true → ReadsContent b c → Fits s c → Exact b (page s c)
  exact_of c end n e p t r f =
      record {
        fits = f;
        reads = (no, r);
        is = λ size k. sealed_at-is b end bs t size (numbered s (content_bytes c)) k (body_is end n (content_bytes c) e p);
      }

  module _ (n : ℕ) (r : Ran (entry_ok s) 0x12 18 most_entries b 7 n) (t : (leb 1 n && sealed_at b (7 + 18 * n)) ≡ true) where
    abbrev entries : List (List ℕ)
    entries = payloads 0x12 18 n b 7

    exact_log : Exact b (page s (log (map entry_of entries)))
    unfolding content_bytes
    exact_log =
        let forth : map entry_bytes (map entry_of entries) ≡ entries =
        map_back entry_of entry_bytes (λ p f. entry_bytes_of s p f.1 f.0) entries r.pass in
        let k : length (map entry_of entries) ≡ n = length-map entries entry_of ∙ length-payloads 0x12 18 n b 7 in
        exact_of (log (map entry_of entries)) (7 + 18 * n) (18 * n) refl (r.are ∙ ap (fields 0x12) (sym forth)) (and_right (leb 1 n) _ t)
        (ap (λ (i : ℕ). map entry_of (payloads 0x12 18 i b 7)) (sym k))
        (record {
          from = h;
          below = l;
          content =
              record {
                some = omega (arith, leb-true 1 n (and_left (leb 1 n) _ t));
                few = omega (arith, r.few);
                entries = every-map-by entry_of (λ p f. entry_of-fits s p f.1 f.0) entries r.pass;
              };
        })

  module _ (t : (node_ok (payload_at b 7 0x11) && sealed_at b (7 + taken (payload_at b 7 0x11))) ≡ true) where
    abbrev node_payload : List ℕ
    node_payload = payload_at b 7 0x11

    node_ok_lem : node_ok node_payload ≡ true
    node_ok_lem = and_left (node_ok node_payload) _ t

    node_some : 1 ≤ length node_payload
    unfolding node_ok
    node_some = found_some node_payload (and_left (found node_payload) _ node_ok_lem)

    exact_node : Exact b (page s (whole (number_at 2 node_payload 0) (node_of node_payload)))
    unfolding content_bytes node_of
    exact_node =
        let st = stands_payload b 7 0x11 node_some in
        let y = bytes-payload b 7 0x11 bs st in
        let m : is_node_bytes (length node_payload) ≡ true = sym (allowed_11 (length node_payload)) ∙ allowed-payload b 7 0x11 st in
        let w : 7 + taken node_payload ≡ 7 + (3 + length node_payload) = ap (λ (k : ℕ). 7 + k) (taken-found node_payload node_some) in
        exact_of (whole (number_at 2 node_payload 0) (node_of node_payload)) (7 + taken node_payload) (3 + length node_payload) w
        (part-payload b 7 0x11 st bs ∙ ap (field 0x11) (sym (whole_bytes_of node_payload y m node_ok_lem)))
        (and_right (node_ok node_payload) _ t)
        (refl, refl)
        (record {
          from = h;
          below = l;
          content = record { id = number_at_lt 2 node_payload 0 y (omega (arith, node_long node_payload m)); node = node_of-fits node_payload y m };
        })

  abbrev tariff : List ℕ
  tariff = payload_at b 7 0x13

  abbrev start : ℕ
  start = 7 + taken tariff

  module _
      (n : ℕ) (r : Ran score_ok 0x14 9 (most_scores (found tariff)) b start n)
      (t : (leb 1 n && ((found (payload_at b (start + 9 * n) 0x15) || eqb n (most_scores (found tariff))) && sealed_at b
      (start + 9 * n + taken (payload_at b (start + 9 * n) 0x15)))) ≡ true)
    where
      abbrev scores : List (List ℕ)
      scores = payloads 0x14 9 n b start

      abbrev count : List ℕ
      count = payload_at b (start + 9 * n) 0x15

      rest-test : ((found count || eqb n (most_scores (found tariff))) && sealed_at b (start + 9 * n + taken count)) ≡ true
      rest-test = and_right (leb 1 n) _ t

      scores_forth : map score_bytes (map score_of scores) ≡ scores
      scores_forth = map_back score_of score_bytes (λ p f. score_bytes_of p f.1 (eqb-true (length p) 6 f.0)) scores r.pass

      length-read : length (map score_of scores) ≡ n
      length-read = length-map scores score_of ∙ length-payloads 0x14 9 n b start

      spelled : Content
      spelled = checkpoint (read_if tariff_of tariff) (map score_of scores) (read_if number count)

      content-is : part b 7 (taken tariff + (9 * n + taken count)) ≡ content_bytes spelled
      unfolding content_bytes spelled
      content-is =
          part-add b 7 (taken tariff) (9 * n + taken count) ∙
          ap₂ ◌++◌ (if_stands b bs 7 0x13 32 tariff_of tariff_bytes only_13 tariff_bytes_of)
          (part-add b start (9 * n) (taken count) ∙
          ap₂ ◌++◌ (r.are ∙ ap (fields 0x14) (sym scores_forth))
          (if_stands b bs (start + 9 * n) 0x15 2 number count_bytes only_15 (λ p y k. ap (λ (w : ℕ). big_endian w (number p)) (sym k) ∙ big_endian-number p y)))

      full : found count ≡ false → length (map score_of scores) ≡ most_scores (given (read_if tariff_of tariff))
      full e =
          let q : (found count || eqb n (most_scores (found tariff))) ≡ true = and_left (found count || eqb n (most_scores (found tariff))) _ rest-test in
          length-read ∙ eqb-true n (most_scores (found tariff)) (rw e at q) ∙ ap most_scores (found-given tariff)

      exact_checkpoint : Exact b (page s (checkpoint (read_if tariff_of tariff) (map score_of scores) (read_if number count)))
      unfolding spelled
      exact_checkpoint =
          exact_of spelled (start + 9 * n + taken count) (taken tariff + (9 * n + taken count)) (omega arith) content-is
          (and_right (found count || eqb n (most_scores (found tariff))) _ rest-test) (
            refl,
            ap (λ (i : ℕ). map score_of (payloads 0x14 9 i b start)) (sym length-read),
            ap (λ (i : ℕ). read_if number (payload_at b (start + 9 * i) 0x15)) (sym length-read),
          )
          (record {
            from = h;
            below = l;
            content =
                record {
                  tariff = if_fits_lem b bs 7 0x13 32 tariff_of tariff_bytes TariffIfFits only_13 (λ e. tt) tariff_of-fits;
                  some = omega (arith, length-read, leb-true 1 n (and_left (leb 1 n) _ t));
                  few = rw (← (found-given tariff)) (omega (arith, length-read, r.few));
                  scores = every-map-by score_of (λ p f. score_of-fits p f.1 (eqb-true (length p) 6 f.0)) scores r.pass;
                  filled =
                      if_fits_lem b bs (start + 9 * n) 0x15 2 number count_bytes
                      (λ o. Filled (most_scores (given (read_if tariff_of tariff))) (length (map score_of scores)) o) only_15
                      full (λ p y k. rw k at (number_lt p y));
                };
          })

entry-size : (s : ℕ) (p : List ℕ) → entry_ok s p ≡ true → length p ≡ 15
unfolding entry_ok
entry-size s p t = eqb-true (length p) 15 (and_left (eqb (length p) 15) _ t)

-- ---- from the decoder's answer back through its cases

pub written_bad : {A : Type 0} (x : Decoded) (p : Page) → x ≡ written p → x ≡ bad → A
written_bad x p e f = absurd (let z : ◌≡◌ {A = ℕ} 0 1 = cc in omega arith)

module _ (b : List ℕ) (bs : Bytes b) (p : Page) where
  module _ (s : ℕ) (h : 1 ≤ s) (l : s < bound32) (no : s ≡ number (payload_at b 0 0x10)) (ten : part b 0 7 ≡ field 0x10 (big_endian 4 s)) where
    log_case : decode_log s (run (entry_ok s) 0x12 18 most_entries b 7) b ≡ written p → Exact b p
    unfolding decode_log
    log_case e =
        let n = run (entry_ok s) 0x12 18 most_entries b 7 in
        let q = when_passed _ _ p e in
        subst (Exact b) q.same
        (exact_log s b bs h l no ten n (ran (entry_ok s) 0x12 15 (omega arith) (entry-size s) b bs most_entries 7) q.test)

    node_case : decode_node s (payload_at b 7 0x11) b ≡ written p → Exact b p
    unfolding decode_node
    node_case e =
        let q = when_passed _ _ p e in
        subst (Exact b) q.same (exact_node s b bs h l no ten q.test)

    checkpoint-case : decode_checkpoint s (payload_at b 7 0x13) b ≡ written p → Exact b p
    unfolding decode_checkpoint decode_counted decode_scores
    checkpoint-case e =
        let t = payload_at b 7 0x13 in
        let at = 7 + taken t in
        let q = when_passed _ _ p e in
        subst (Exact b) q.same
        (exact_checkpoint s b bs h l no ten (run score_ok 0x14 9 (most_scores (found t)) b at)
        (ran score_ok 0x14 6 (omega arith) (λ y f. eqb-true (length y) 6 f) b bs (most_scores (found t)) at) q.test)

    content-case : (tag : ℕ) → decode_content s tag b ≡ written p → Exact b p
    content-case tag e = go (eqb tag 0x12) (eqb tag 0x11) refl refl
      where
        go : (x y : Bool) → eqb tag 0x12 ≡ x → eqb tag 0x11 ≡ y → Exact b p
        go true y f g = log_case (sym (content_log s b tag (eqb-true tag 0x12 f)) ∙ e)
        go false true f g = node_case (sym (content_node s b tag (eqb-true tag 0x11 g)) ∙ e)
        go false false f g =
            checkpoint-case (sym (content-checkpoint s b tag (eqb-false tag 0x12 f) (eqb-false tag 0x11 g)) ∙ e)

  abbrev ten_payload : List ℕ
  ten_payload = payload_at b 0 0x10

  number_some : (q : List ℕ) → 1 ≤ number q → 1 ≤ length q
  number_some [] h = h
  number_some (x ∷ q) h = omega arith

  written-case : decode_written (number ten_payload) b ≡ written p → Exact b p
  written-case e = go (leb 1 (number ten_payload)) refl
    where
      go : (x : Bool) → leb 1 (number ten_payload) ≡ x → Exact b p
      go true f =
          let h : 1 ≤ number ten_payload = leb-true 1 (number ten_payload) f in
          let st = stands_payload b 0 0x10 (number_some ten_payload h) in
          let y = bytes-payload b 0 0x10 bs st in
          let k : length ten_payload ≡ 4 = only_10 (length ten_payload) (allowed-payload b 0 0x10 st) in
          let l : number ten_payload < bound32 = rw k at (number_lt ten_payload y) in
          let four : ten_payload ≡ big_endian 4 (number ten_payload) = sym (rw k at (big_endian-number ten_payload y)) in
          let ten : part b 0 7 ≡ field 0x10 (big_endian 4 (number ten_payload)) =
          ap (λ (n : ℕ). part b 0 (3 + n)) (sym k) ∙ part-payload b 0 0x10 st bs ∙ ap (field 0x10) four in
          content-case (number ten_payload) h l refl ten (get_or b 7 0) (sym (written_from (number ten_payload) b h) ∙ e)
      go false f = written_bad _ p e (written-zero (number ten_payload) b (leb-false 1 (number ten_payload) f))

  -- Bytes that check are those of a page within its limits.
  pub decode_exact : decode b ≡ written p → Exact b p
  decode_exact e = go (all_blank b) refl
    where
      go : (x : Bool) → all_blank b ≡ x → Exact b p
      go true f = absurd (let q = decode-blank b f in let z : ◌≡◌ {A = ℕ} 0 1 = cc in omega arith)
      go false f = written-case (sym (decode-other b f) ∙ e)

pub decode-fits : (b : List ℕ) → Bytes b → (p : Page) → decode b ≡ written p → PageFits p
decode-fits b bs p e = (decode_exact b bs p e).fits

pub image-decode : (b : List ℕ) → Bytes b → length b ≡ page_bytes → (p : Page) → decode b ≡ written p → b ≡ image p
unfolding image
image-decode b bs l (page s c) e = (decode_exact b bs (page s c) e).is page_bytes l

pub decode-reads : (b : List ℕ) → Bytes b → (p : Page) → decode b ≡ written p → Reads b p
decode-reads b bs p e = (decode_exact b bs p e).reads
