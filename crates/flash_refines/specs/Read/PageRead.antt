-- What the code reads of a page within its limits is what the page holds: its sequence number, the entries of a log page, the node of a
-- node page. Each field is found where it was laid. Assumes nothing.
use Rattle.std.specs.Prelude.{◌≡◌, false, ℕ, ◌+◌, ◌-◌, ◌*◌, ◌%◌, replicate}
use Rattle.std.proofs.Math.Path.{ap}
use Rattle.std.proofs.Common.{◌∙◌}
use Rattle.std.proofs.Math.Bool.{true}
use mathlib.Core.List.{List, ◌++◌, map, append_assoc}
use native.Mathlib.Omega.{arith}
use borrow.Author.Tests.{eq-eqb, le-leb, le-ltb}
use Rattle.std.proofs.Math.ListN.{length, length-map}
use Rattle.laws.specs.Every.{Every, map_back, every-map-by}
use Rattle.laws.specs.BigEndian.{big_endian, number}
use Rattle.layout.specs.Layout.{page_bytes, most_entries, most_keys, bound32}
use Rattle.pairs.specs.Pairs.{Pair}
use Rattle.node.specs.declared.Shape.{Shape}
use Rattle.node.specs.Node.{Node, node, pairs_of, Neat}
use Rattle.node.specs.Replay.{Draft, made, replay_from}
use Rattle.node.specs.Ascends.{ascends, within_ascends}
use Rattle.wire.specs.Tag.{is_node_bytes, node_bytes}
use Rattle.wire.specs.Field.{field, payload_at}
use Rattle.wire.specs.FieldLaws.{payload_at-field, payload_at-other}
use Rattle.page.specs.Page.{Entry, Content, Page, page, log, whole, sequence}
use Rattle.page.specs.Image.{entry_bytes, whole_bytes, fields, content_bytes, numbered, sums_field, sealed, image}
use Rattle.page.specs.Decode.{run, payloads, entry_of, pairs_in, pairs_from, node_of}
use Rattle.page.specs.Limits.{Fits, PageFits}
use Rattle.page.specs.Tags.{allowed_11, allowed_12}
use Rattle.page.specs.Runs.{Good, run-fields, payloads-fields}
use Rattle.page.specs.Spelled.{length-entry_bytes}
use Rattle.page.specs.SpelledNode.{length-whole_bytes, node_of-bytes}
use Rattle.page.proofs.ReadBack.{sequence-found}
use Rattle.store.specs.Item.{entry_item, pieces_in}
use Rattle.flash_read.specs.Replay.{redo_run}
use Rattle.flash_read.specs.NodePage.{node_of_payload}
use Rattle.flash_refines.specs.Read.EntriesRead.{redo_all, redo_all-pieces, is_entry, redo_run-payloads, entry_back}

-- Behind a content: the sums, and FF to the end of the page.
abbrev pub blanks : ℕ → List ℕ → List ℕ
blanks s content = replicate (page_bytes - length (numbered s content ++ sums_field (numbered s content))) 255

abbrev pub behind : ℕ → List ℕ → List ℕ
behind s content = sums_field (numbered s content) ++ blanks s content

pub image-split : (s : ℕ) (c : Content) → image (page s c) ≡ numbered s (content_bytes c ++ behind s (content_bytes c))
unfolding image sealed numbered
image-split s c = append_assoc (field 0x10 (big_endian 4 s)) (content_bytes c) (behind s (content_bytes c))

-- THE SEQUENCE NUMBER
pub sequence-read : (p : Page) → PageFits p → number (payload_at (image p) 0 0x10) ≡ sequence p
sequence-read (page s c) h =
    ap (λ (b : List ℕ). number (payload_at b 0 0x10)) (image-split s c) ∙ sequence-found s (content_bytes c ++ behind s (content_bytes c)) h.below

-- Behind some bytes, no entry begins where the sums do.
no_entry : (s : ℕ) (content front : List ℕ) → is_entry (payload_at (front ++ behind s content) (length front) 0x12) ≡ false
unfolding sums_field
no_entry s content front = ap is_entry (payload_at-other front 0x1F _ (blanks s content) 0x12 (λ z. omega arith))

-- THE ENTRIES of a log page
module _ (s : ℕ) (es : List Entry) (h : Fits s (log es)) where
  abbrev laid : List (List ℕ)
  laid = map entry_bytes es

  laid_good : Every (Good is_entry 0x12 15 (omega arith) allowed_12) laid
  laid_good =
      every-map-by entry_bytes (λ e f. record { size = length-entry_bytes e; passes = eq-eqb _ _ (length-entry_bytes e) }) es h.content.entries

  pub run-read : run is_entry 0x12 18 most_entries (numbered s (fields 0x12 laid ++ behind s (fields 0x12 laid))) 7 ≡ length laid
  unfolding numbered field
  run-read =
      run-fields is_entry 0x12 15 (omega arith) allowed_12 (behind s (fields 0x12 laid)) (no_entry s (fields 0x12 laid)) laid laid_good most_entries
      (omega (arith, length-map es entry_bytes, h.content.few)) (field 0x10 (big_endian 4 s))

  pub payloads-read : payloads 0x12 18 (length laid) (numbered s (fields 0x12 laid ++ behind s (fields 0x12 laid))) 7 ≡ laid
  unfolding numbered field
  payloads-read =
      payloads-fields is_entry 0x12 15 (omega arith) allowed_12 laid laid_good (field 0x10 (big_endian 4 s)) (behind s (fields 0x12 laid))

  pub entries-read : (n v : ℕ) (d : Draft) → redo_run n v most_entries (image (page s (log es))) 7 d ≡ replay_from d (pieces_in n v (map entry_item es))
  unfolding content_bytes
  entries-read n v d =
      let b = numbered s (fields 0x12 laid ++ behind s (fields 0x12 laid)) in
      ap (λ (x : List ℕ). redo_run n v most_entries x 7 d) (image-split s (log es)) ∙
      redo_run-payloads n v most_entries b 7 d ∙
      ap (λ (k : ℕ). redo_all n v (map entry_of (payloads 0x12 18 k b 7)) d) run-read ∙
      ap (λ (ps : List (List ℕ)). redo_all n v (map entry_of ps) d) payloads-read ∙
      ap (λ (xs : List Entry). redo_all n v xs d)
      (map_back entry_bytes entry_of (λ e f. entry_back s e (omega (arith, h.below)) f) es h.content.entries) ∙
      redo_all-pieces n v es d

-- THE NODE of a node page
module _ (s id : ℕ) (shape : Shape) (ps : List Pair) (l : ℕ) (h : Fits s (whole id (node shape ps l))) where
  abbrev payload : List ℕ
  payload = whole_bytes id (node shape ps l)

  may_stand : is_node_bytes (length payload) ≡ true
  unfolding is_node_bytes
  may_stand =
      let k : length payload ≡ 7 + 8 * length ps = length-whole_bytes id shape ps l in
      let m : length payload % 8 ≡ 7 = omega arith in
      rw (eq-eqb _ _ m) (le-leb (length payload) (node_bytes most_keys) (omega (arith, h.content.node.few)))

  pub payload-read : payload_at (image (page s (whole id (node shape ps l)))) 7 0x11 ≡ payload
  unfolding content_bytes numbered field
  payload-read =
      ap (λ (b : List ℕ). payload_at b 7 0x11) (image-split s (whole id (node shape ps l))) ∙
      payload_at-field (field 0x10 (big_endian 4 s)) 0x11 payload (behind s (field 0x11 payload))
      (omega (arith, length-whole_bytes id shape ps l, h.content.node.few)) (allowed_11 (length payload) ∙ may_stand)

  whole_of_bytes : Neat (node shape ps l) → node_of_payload payload ≡ made (node shape ps l)
  unfolding node_of_payload node_of
  whole_of_bytes neat =
      let k : length payload ≡ 7 + 8 * length ps = length-whole_bytes id shape ps l in
      let is = node_of-bytes id shape ps l h.content.node in
      let in_order_lem : ascends 0 bound32 (pairs_from (pairs_in payload) payload 7) ≡ true =
      ap (λ (x : Node). ascends 0 bound32 (pairs_of x)) is ∙ within_ascends 0 bound32 ps neat.keys in
      rw (le-ltb (length payload) 7 (omega arith), le-ltb most_keys (pairs_in payload) (omega (arith, neat.size)), in_order_lem) (ap made is)

pub node_read : (s id : ℕ) (x : Node) → Fits s (whole id x) → Neat x → node_of_payload (payload_at (image (page s (whole id x))) 7 0x11) ≡ made x
node_read s id (node shape ps l) h neat = ap node_of_payload (payload-read s id shape ps l h) ∙ whole_of_bytes s id shape ps l h neat
