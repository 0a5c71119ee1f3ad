-- A page within its limits is read back from its bytes: `decode (image p) ≡ written p`. Each field is found where it was laid,
-- and the field behind it has another tag. Assumes nothing.
use Rattle.std.specs.Prelude.{◌≡◌, true, false, ◌||◌, ℕ, ◌+◌, ◌-◌, ◌*◌, ◌%◌, ◌^◌, ◌≤◌, ◌<◌, eqb, replicate, Option, None, Some}
use Rattle.std.proofs.Math.Path.{refl, sym, ap}
use Rattle.std.proofs.Common.{ap₂, ◌∙◌, not-suc-le-zero, length-append, eq-eqb, le-leb}
use mathlib.Core.List.{List, [], ◌∷◌, ◌++◌, map, append_assoc}
use native.Mathlib.Omega.{arith}
use Rattle.std.proofs.Math.ListN.{length, get_or}
use Rattle.std.proofs.lemmas.List.{length-map}
use Rattle.laws.specs.Every.{Every, none, both, map_back, every-map-by}
use Rattle.laws.specs.BigEndian.{big_endian, number, number-big_endian}
use Rattle.layout.specs.Layout.{page_bytes, most_entries, most_keys, bound32}
use Rattle.pairs.specs.Pairs.{Pair}
use Rattle.account.specs.declared.Tariff.{Tariff}
use Rattle.node.specs.declared.Shape.{Shape}
use Rattle.node.specs.Node.{node}
use Rattle.wire.specs.Tag.{length_of, allowed, is_node_bytes, node_bytes}
use Rattle.wire.specs.Field.{field, payload_at}
use Rattle.wire.specs.FieldLaws.{length-field, payload_at-field, payload_at-other}
use Rattle.page.specs.Page.{Entry, Score, Content, log, whole, checkpoint, Page, page}
use Rattle.page.specs.Image.{entry_bytes, whole_bytes, tariff_bytes, score_bytes, count_bytes, fields, field_if, content_bytes, numbered, sums_field}
use Rattle.page.specs.Image.{sealed, image}
use Rattle.page.specs.Decode.{written, found, taken, sealed_at, all_blank, run, payloads, entry_ok, entry_of, tariff_of, score_ok, score_of, read_if}
use Rattle.page.specs.Decode.{when, most_scores, decode_log, decode_node, decode_scores, decode_counted, decode_checkpoint, decode_content}
use Rattle.page.specs.Decode.{decode_written, decode}
use Rattle.page.specs.Limits.{TariffIfFits, given, Filled, Fits, PageFits}
use Rattle.page.specs.Cases.{content_log, content_node, content-checkpoint}
use Rattle.page.specs.Tags.{allowed_10, allowed_11, allowed_12, allowed_13, allowed_14, allowed_15}
use Rattle.page.specs.Runs.{Good, run-fields, payloads-fields}
use Rattle.page.specs.Spelled.{
  length-entry_bytes,
  entry_of-bytes,
  entry_ok-bytes,
  length-score_bytes,
  score_of-bytes,
  length-tariff_bytes,
  tariff_of-bytes,
}
use Rattle.page.specs.SpelledNode.{length-whole_bytes, node_ok-bytes, id_of-bytes, node_of-bytes}
use Rattle.page.proofs.Seal.{sealed_at-sealed}

-- Fields of one length take their bytes together.
pub length_fields : (tag len : ℕ) (ps : List (List ℕ)) → Every (λ p. length p ≡ len) ps → length (fields tag ps) ≡ (3 + len) * length ps
unfolding fields
length_fields tag len [] none = omega arith
length_fields tag len (p ∷ ps) (both h hs) =
    length-append (field tag p) (fields tag ps) ∙ omega (arith, length-field tag p, length_fields tag len ps hs)

pub taken-found : (p : List ℕ) → 1 ≤ length p → taken p ≡ 3 + length p
taken-found [] h = absurd (not-suc-le-zero h)
taken-found (x ∷ p) h = refl

-- ---- field 10

module _ (s : ℕ) (rest : List ℕ) where
  pub sequence-found : s < bound32 → number (payload_at (numbered s rest) 0 0x10) ≡ s
  unfolding numbered
  sequence-found h =
      ap number (payload_at-field [] 0x10 (big_endian 4 s) rest (omega arith) allowed_10) ∙ number-big_endian 4 s h

  not_blank : all_blank (numbered s rest) ≡ false
  unfolding all_blank numbered field
  not_blank = refl

  tag_behind : get_or (numbered s rest) 7 0 ≡ get_or rest 0 0
  unfolding numbered field
  tag_behind = refl

  -- what follows field 10 tells the content
  decode-numbered : 1 ≤ s → s < bound32 → decode (numbered s rest) ≡ decode_content s (get_or rest 0 0) (numbered s rest)
  unfolding decode decode_written
  decode-numbered h l =
      rw (not_blank, decode) (rw (sequence-found l) (rw (le-leb 1 s h, decode_written) (ap (λ (t : ℕ). decode_content s t (numbered s rest)) tag_behind)))

-- A page as its content, the sums and the rest behind field 10.
module _ (s : ℕ) (content : List ℕ) (n : ℕ) where
  abbrev sums : List ℕ
  sums = sums_field (numbered s content)

  abbrev tail : List ℕ
  tail = sums ++ replicate n 255

  split : numbered s content ++ tail ≡ numbered s (content ++ tail)
  unfolding numbered
  split = append_assoc (field 0x10 (big_endian 4 s)) content tail

  length-numbered : length (numbered s content) ≡ 7 + length content
  unfolding numbered field
  length-numbered = omega arith

  -- the sums stand behind the content
  seal_found : (end : ℕ) → end ≡ 7 + length content → sealed_at (numbered s (content ++ tail)) end ≡ true
  seal_found end e =
      ap₂ sealed_at (sym split) (e ∙ sym length-numbered) ∙ sealed_at-sealed (numbered s content) n

  -- behind some bytes, no field but 1F is found there
  other_than_sums : (front : List ℕ) (tag : ℕ) → (0x1F ≡ tag → ⊥) → payload_at (front ++ tail) (length front) tag ≡ []
  unfolding sums_field
  other_than_sums front tag h = payload_at-other front 0x1F _ (replicate n 255) tag h

-- ---- log pages

module _ (s : ℕ) (e : Entry) (es : List Entry) (n : ℕ) (h : Fits s (log (e ∷ es))) where
  abbrev entries : List (List ℕ)
  entries = map entry_bytes (e ∷ es)

  abbrev after_log : List ℕ
  after_log = tail s (fields 0x12 entries) n

  entries_good : Every (Good (entry_ok s) 0x12 15 (omega arith) allowed_12) entries
  entries_good =
      every-map-by entry_bytes
      (λ x f. record { size = length-entry_bytes x; passes = entry_ok-bytes s x h.below f }) (e ∷ es) h.content.entries

  no_entry : (front : List ℕ) → entry_ok s (payload_at (front ++ after_log) (length front) 0x12) ≡ false
  unfolding entry_ok
  no_entry front = rw (other_than_sums s (fields 0x12 entries) n front 0x12 (λ z. omega arith))

  length-entries : length entries ≡ length (e ∷ es)
  length-entries = length-map (e ∷ es) entry_bytes

  run_log : run (entry_ok s) 0x12 18 most_entries (numbered s (fields 0x12 entries ++ after_log)) 7 ≡ length entries
  unfolding numbered field
  run_log =
      run-fields (entry_ok s) 0x12 15 (omega arith) allowed_12 after_log no_entry entries entries_good most_entries
      (omega (arith, length-entries, h.content.few)) (field 0x10 (big_endian 4 s))

  payloads_log : payloads 0x12 18 (length entries) (numbered s (fields 0x12 entries ++ after_log)) 7 ≡ entries
  unfolding numbered field
  payloads_log =
      payloads-fields (entry_ok s) 0x12 15 (omega arith) allowed_12 entries entries_good (field 0x10 (big_endian 4 s)) after_log

  seal_log : sealed_at (numbered s (fields 0x12 entries ++ after_log)) (7 + 18 * length entries) ≡ true
  seal_log =
      seal_found s (fields 0x12 entries) n (7 + 18 * length entries)
      (omega (arith, length_fields 0x12 15 entries (every-map-by entry_bytes (λ x f. length-entry_bytes x) (e ∷ es) h.content.entries)))

  entries_back : map entry_of entries ≡ e ∷ es
  entries_back = map_back entry_bytes entry_of (λ x f. entry_of-bytes s x h.below f) (e ∷ es) h.content.entries

  log_first : get_or (fields 0x12 entries ++ after_log) 0 0 ≡ 0x12
  unfolding fields field
  log_first = refl

  log_back : decode (numbered s (fields 0x12 entries ++ after_log)) ≡ written (page s (log (e ∷ es)))
  unfolding decode_log when
  log_back =
      let b = numbered s (fields 0x12 entries ++ after_log) in
      let m : 1 ≤ length entries = omega (arith, length-entries) in
      decode-numbered s (fields 0x12 entries ++ after_log) h.from h.below ∙
      content_log s b _ log_first ∙
      ap (λ (k : ℕ). decode_log s k b) run_log ∙
      rw (le-leb 1 (length entries) m, seal_log, payloads_log, entries_back)

-- ---- node pages

module _ (s id : ℕ) (shape : Shape) (ps : List Pair) (l n : ℕ) (h : Fits s (whole id (node shape ps l))) where
  abbrev payload : List ℕ
  payload = whole_bytes id (node shape ps l)

  abbrev after_node : List ℕ
  after_node = tail s (field 0x11 payload) n

  whole_may : is_node_bytes (length payload) ≡ true
  unfolding is_node_bytes
  whole_may =
      let k : length payload ≡ 7 + 8 * length ps = length-whole_bytes id shape ps l in
      let m : length payload % 8 ≡ 7 = omega arith in
      rw (eq-eqb _ _ m) (le-leb (length payload) (node_bytes most_keys) (omega (arith, h.content.node.few)))

  whole-found : payload_at (numbered s (field 0x11 payload ++ after_node)) 7 0x11 ≡ payload
  unfolding numbered field
  whole-found =
      payload_at-field (field 0x10 (big_endian 4 s)) 0x11 payload after_node
      (omega (arith, length-whole_bytes id shape ps l, h.content.node.few)) (allowed_11 (length payload) ∙ whole_may)

  whole-first : get_or (field 0x11 payload ++ after_node) 0 0 ≡ 0x11
  unfolding field
  whole-first = refl

  whole-taken : taken payload ≡ 3 + length payload
  unfolding whole_bytes
  whole-taken = refl

  seal_whole : sealed_at (numbered s (field 0x11 payload ++ after_node)) (7 + taken payload) ≡ true
  seal_whole = seal_found s (field 0x11 payload) n (7 + taken payload) (omega (arith, whole-taken, length-field 0x11 payload))

  whole_back : decode (numbered s (field 0x11 payload ++ after_node)) ≡ written (page s (whole id (node shape ps l)))
  unfolding decode_node when
  whole_back =
      let b = numbered s (field 0x11 payload ++ after_node) in
      decode-numbered s (field 0x11 payload ++ after_node) h.from h.below ∙
      content_node s b _ whole-first ∙
      ap (λ (p : List ℕ). decode_node s p b) whole-found ∙
      rw (node_ok-bytes id (node shape ps l), seal_whole, id_of-bytes id (node shape ps l) h.content.id, node_of-bytes id shape ps l h.content.node)

-- ---- checkpoint pages

-- The payload of a field that may be there.
abbrev payload_if : {A : Type 0} → (A → List ℕ) → Option A → List ℕ
payload_if bytes None = []
payload_if bytes (Some a) = bytes a

-- It is found, or nothing is where another field is in its place.
module _ {A : Type 0} (tag len : ℕ) (bytes : A → List ℕ) (fits : len < 256 ^ 2) (may : allowed (length_of tag) len ≡ true)
    (size : (a : A) → length (bytes a) ≡ len) where
  if_found : (o : Option A) (front rest : List ℕ) → payload_at (front ++ rest) (length front) tag ≡ [] →
      payload_at (front ++ (field_if tag bytes o ++ rest)) (length front) tag ≡ payload_if bytes o
  if_found None front rest other = other
  if_found (Some a) front rest other = payload_at-field front tag (bytes a) rest (rw (size a) fits) (rw (size a) may)

  length_if : 1 ≤ len → (o : Option A) → length (field_if tag bytes o) ≡ taken (payload_if bytes o)
  length_if h None = refl
  length_if h (Some a) = length-field tag (bytes a) ∙ sym (taken-found (bytes a) (omega (arith, size a)))

module _ (s : ℕ) (t : Option Tariff) (x : Score) (xs : List Score) (c : Option ℕ) (n : ℕ) (h : Fits s (checkpoint t (x ∷ xs) c)) where
  abbrev scores : List (List ℕ)
  scores = map score_bytes (x ∷ xs)

  abbrev first : List ℕ
  first = field_if 0x13 tariff_bytes t

  abbrev last : List ℕ
  last = field_if 0x15 count_bytes c

  abbrev content : List ℕ
  content = first ++ (fields 0x14 scores ++ last)

  abbrev after : List ℕ
  after = tail s content n

  abbrev bytes : List ℕ
  bytes = numbered s (content ++ after)

  abbrev tariff : List ℕ
  tariff = payload_if tariff_bytes t

  abbrev count : List ℕ
  count = payload_if count_bytes c

  -- the bytes, split before the fields 14, and behind them
  abbrev front : List ℕ
  front = field 0x10 (big_endian 4 s) ++ first

  abbrev behind : List ℕ
  behind = front ++ fields 0x14 scores

  split-content : content ++ after ≡ first ++ (fields 0x14 scores ++ (last ++ after))
  split-content =
      append_assoc first (fields 0x14 scores ++ last) after ∙
      ap (λ (l : List ℕ). first ++ l) (append_assoc (fields 0x14 scores) last after)

  split-first : bytes ≡ field 0x10 (big_endian 4 s) ++ (first ++ (fields 0x14 scores ++ (last ++ after)))
  unfolding numbered
  split-first = ap (λ (l : List ℕ). field 0x10 (big_endian 4 s) ++ l) split-content

  split-scores : bytes ≡ front ++ (fields 0x14 scores ++ (last ++ after))
  split-scores = split-first ∙ sym (append_assoc (field 0x10 (big_endian 4 s)) first (fields 0x14 scores ++ (last ++ after)))

  split-last : bytes ≡ behind ++ (last ++ after)
  split-last = split-scores ∙ sym (append_assoc front (fields 0x14 scores) (last ++ after))

  -- what stands where another field is looked for
  no_tariff : (f : List ℕ) → payload_at (f ++ (fields 0x14 scores ++ (last ++ after))) (length f) 0x13 ≡ []
  unfolding fields
  no_tariff f =
      ap (λ (l : List ℕ). payload_at (f ++ l) (length f) 0x13)
      (append_assoc (field 0x14 (score_bytes x)) (fields 0x14 (map score_bytes xs)) (last ++ after)) ∙
      payload_at-other f 0x14 (score_bytes x) (fields 0x14 (map score_bytes xs) ++ (last ++ after)) 0x13 (λ z. omega arith)

  no_score : (f : List ℕ) → payload_at (f ++ (last ++ after)) (length f) 0x14 ≡ []
  no_score f = go c
    where
      go : (o : Option ℕ) → payload_at (f ++ (field_if 0x15 count_bytes o ++ after)) (length f) 0x14 ≡ []
      go None = other_than_sums s content n f 0x14 (λ z. omega arith)
      go (Some k) = payload_at-other f 0x15 (count_bytes k) after 0x14 (λ z. omega arith)

  -- the payloads found, and where
  tariff-found : payload_at bytes 7 0x13 ≡ tariff
  unfolding field
  tariff-found =
      ap (λ (l : List ℕ). payload_at l 7 0x13) split-first ∙
      if_found 0x13 32 tariff_bytes (omega arith) allowed_13 length-tariff_bytes t (field 0x10 (big_endian 4 s)) _ (no_tariff (field 0x10 (big_endian 4 s)))

  length_front : 7 + taken tariff ≡ length front
  unfolding field
  length_front =
      sym (length-append (field 0x10 (big_endian 4 s)) first ∙
      ap (λ (k : ℕ). 7 + k) (length_if 0x13 32 tariff_bytes (omega arith) allowed_13 length-tariff_bytes (omega arith) t))

  scores_good : Every (Good score_ok 0x14 6 (omega arith) allowed_14) scores
  scores_good =
      every-map-by score_bytes (λ y f. record { size = length-score_bytes y; passes = eq-eqb _ _ (length-score_bytes y) }) (x ∷ xs) h.content.scores

  length-scores : length scores ≡ length (x ∷ xs)
  length-scores = length-map (x ∷ xs) score_bytes

  found-tariff : found tariff ≡ given t
  unfolding tariff_bytes
  found-tariff = go t
    where
      go : (o : Option Tariff) → found (payload_if tariff_bytes o) ≡ given o
      go None = refl
      go (Some y) = refl

  run-scores : run score_ok 0x14 9 (most_scores (found tariff)) bytes (7 + taken tariff) ≡ length scores
  run-scores =
      ap₂ (λ (l : List ℕ) (i : ℕ). run score_ok 0x14 9 (most_scores (found tariff)) l i) split-scores length_front ∙
      run-fields score_ok 0x14 6 (omega arith) allowed_14 (last ++ after) (λ f. ap score_ok (no_score f)) scores scores_good
      (most_scores (found tariff)) (rw found-tariff (omega (arith, length-scores, h.content.few))) front

  payloads-scores : payloads 0x14 9 (length scores) bytes (7 + taken tariff) ≡ scores
  payloads-scores =
      ap₂ (λ (l : List ℕ) (i : ℕ). payloads 0x14 9 (length scores) l i) split-scores length_front ∙
      payloads-fields score_ok 0x14 6 (omega arith) allowed_14 scores scores_good front (last ++ after)

  length-all : length (fields 0x14 scores) ≡ 9 * length scores
  length-all = length_fields 0x14 6 scores (every-map-by score_bytes (λ y f. length-score_bytes y) (x ∷ xs) h.content.scores)

  length-behind : 7 + taken tariff + 9 * length scores ≡ length behind
  length-behind = sym (length-append front (fields 0x14 scores) ∙ ap₂ ◌+◌ (sym length_front) length-all)

  count-found : payload_at bytes (7 + taken tariff + 9 * length scores) 0x15 ≡ count
  count-found =
      ap₂ (λ (l : List ℕ) (i : ℕ). payload_at l i 0x15) split-last length-behind ∙
      if_found 0x15 2 count_bytes (omega arith) allowed_15 (λ k. refl) c behind after
      (other_than_sums s content n behind 0x15 (λ z. omega arith))

  length_last : length last ≡ taken count
  length_last = length_if 0x15 2 count_bytes (omega arith) allowed_15 (λ k. refl) (omega arith) c

  seal_checkpoint : sealed_at bytes (7 + taken tariff + 9 * length scores + taken count) ≡ true
  seal_checkpoint =
      seal_found s content n (7 + taken tariff + 9 * length scores + taken count)
      (omega (
        arith,
        length-append first (fields 0x14 scores ++ last),
        length-append (fields 0x14 scores) last,
        length-all,
        length_last,
        length_if 0x13 32 tariff_bytes (omega arith) allowed_13 length-tariff_bytes (omega arith) t,
      ))

  -- what they spell
  tariff_back : read_if tariff_of tariff ≡ t
  unfolding tariff_bytes
  tariff_back = go t h.content.tariff
    where
      go : (o : Option Tariff) → TariffIfFits o → read_if tariff_of (payload_if tariff_bytes o) ≡ o
      go None f = refl
      go (Some y) f = ap Some (tariff_of-bytes y f)

  count_back : read_if number count ≡ c
  count_back = go c h.content.filled
    where
      go : (o : Option ℕ) → Filled (most_scores (given t)) (length (x ∷ xs)) o → read_if number (payload_if count_bytes o) ≡ o
      go None f = refl
      go (Some k) f = ap Some (number-big_endian 2 k f)

  scores_back : map score_of scores ≡ x ∷ xs
  scores_back = map_back score_bytes score_of score_of-bytes (x ∷ xs) h.content.scores

  filled_back : (found count || eqb (length scores) (most_scores (found tariff))) ≡ true
  filled_back = go c h.content.filled
    where
      go : (o : Option ℕ) → Filled (most_scores (given t)) (length (x ∷ xs)) o →
          (found (payload_if count_bytes o) || eqb (length scores) (most_scores (found tariff))) ≡ true
      go None f = eq-eqb _ _ (length-scores ∙ f ∙ ap most_scores (sym found-tariff))
      go (Some k) f = refl

  -- the tag behind field 10
  not_tag : (tag : ℕ) → (0x13 ≡ tag → ⊥) → (0x14 ≡ tag → ⊥) → get_or (content ++ after) 0 0 ≡ tag → ⊥
  unfolding field fields
  not_tag tag p q = go t
    where
      go : (o : Option Tariff) → get_or ((field_if 0x13 tariff_bytes o ++ (fields 0x14 scores ++ last)) ++ after) 0 0 ≡ tag → ⊥
      go None e = q e
      go (Some y) e = p e

  checkpoint_back : decode bytes ≡ written (page s (checkpoint t (x ∷ xs) c))
  unfolding decode_checkpoint decode_counted decode_scores when
  checkpoint_back =
      let m : 1 ≤ length scores = omega (arith, length-scores) in
      decode-numbered s (content ++ after) h.from h.below ∙
      content-checkpoint s bytes _ (not_tag 0x12 (λ z. omega arith) (λ z. omega arith)) (not_tag 0x11 (λ z. omega arith) (λ z. omega arith)) ∙
      ap (λ (p : List ℕ). decode_checkpoint s p bytes) tariff-found ∙
      ap (λ (k : ℕ). decode_counted s tariff (7 + taken tariff) k bytes) run-scores ∙
      ap (λ (p : List ℕ). decode_scores s tariff (7 + taken tariff) (length scores) p bytes) count-found ∙
      rw (le-leb 1 (length scores) m, filled_back, seal_checkpoint, payloads-scores, scores_back, tariff_back, count_back)

-- ---- every page

-- Whatever the number of FF behind the sums.
content_back : (s : ℕ) (c : Content) (n : ℕ) → Fits s c → decode (numbered s (content_bytes c) ++ tail s (content_bytes c) n) ≡ written (page s c)
unfolding content_bytes
content_back s (log []) n h = absurd (not-suc-le-zero h.content.some)
content_back s (log (e ∷ es)) n h = ap decode (split s (content_bytes (log (e ∷ es))) n) ∙ log_back s e es n h
content_back s (whole id (node shape ps l)) n h =
    ap decode (split s (content_bytes (whole id (node shape ps l))) n) ∙ whole_back s id shape ps l n h
content_back s (checkpoint t [] c) n h = absurd (not-suc-le-zero h.content.some)
content_back s (checkpoint t (x ∷ xs) c) n h =
    ap decode (split s (content_bytes (checkpoint t (x ∷ xs) c)) n) ∙ checkpoint_back s t x xs c n h

-- Whatever the size of the page.
pub decode-sealed : (size s : ℕ) (c : Content) → Fits s c → decode (sealed size (numbered s (content_bytes c))) ≡ written (page s c)
unfolding sealed
decode-sealed size s c h =
    content_back s c (size - length (numbered s (content_bytes c) ++ sums_field (numbered s (content_bytes c)))) h

pub decode-image : (p : Page) → PageFits p → decode (image p) ≡ written p
unfolding image
decode-image (page s c) h = decode-sealed page_bytes s c h
