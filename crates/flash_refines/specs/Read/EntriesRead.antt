-- The entries that the code takes, one by one, from a log page's bytes or from the buffer are those that were laid there, so that it
-- replays the node's pieces there. Assumes nothing.
use Rattle.std.specs.Prelude.{◌≡◌, refl, Bool, true, false, ◌&&◌, List, [], ◌∷◌, map, ℕ, zero, suc, ◌+◌, ◌*◌, ◌≤◌, ◌<◌, eqb, length}
use Rattle.std.proofs.Common.{ap, ap₂, ◌∙◌, arith}
use Rattle.laws.specs.Tests.{choose}
use Rattle.laws.specs.Counts.{cons_if}
use Rattle.laws.specs.Every.{Every, map_back}
use Rattle.laws.specs.Lay.{part}
use Rattle.laws.specs.Loops.{steps}
use Rattle.laws.specs.BigEndian.{number_at, number-big_endian}
use Rattle.layout.specs.Layout.{bound32}
use Rattle.node.specs.Replay.{Piece, step, Draft, redo, redo_piece, replay_from}
use Rattle.wire.specs.Field.{payload_at}
use Rattle.page.specs.Page.{Entry}
use Rattle.page.specs.Image.{entry_bytes}
use Rattle.page.specs.Decode.{run, payloads, entry_of}
use Rattle.page.specs.Limits.{EntryFits}
use Rattle.page.specs.Runs.{run_goes, run_stops}
use Rattle.page.specs.Spelled.{entry_of-bytes}
use Rattle.page_write.specs.Chunks.{chunks}
use Rattle.store.specs.Item.{entry_item, pieces_in}
use Rattle.flash_read.specs.Replay.{redo_entry, redo_run, redo_nth, redo_buffer}
use Rattle.flash_refines.specs.Store.Follows.{BufferIs}

-- Entries taken one by one, where they are the node's and of the version.
abbrev pub redo_all : ℕ → ℕ → List Entry → Draft → Draft
redo_all n v [] d = d
redo_all n v (e ∷ es) d = redo_all n v es (redo_entry n v e d)

-- They are the pieces of that node and version.
pub redo_all-pieces : (n v : ℕ) (es : List Entry) (d : Draft) → redo_all n v es d ≡ replay_from d (pieces_in n v (map entry_item es))
unfolding redo_entry replay_from redo_piece
redo_all-pieces n v [] d = refl
redo_all-pieces n v (e ∷ es) d =
    redo_all-pieces n v es (redo_entry n v e d) ∙ go (eqb e.id n && eqb e.version v) (pieces_in n v (map entry_item es))
  where
    go : (t : Bool) (xs : List Piece) → replay_from (choose t (redo d e.change) d) xs ≡ replay_from d (cons_if t (step e.change) xs)
    go true xs = refl
    go false xs = refl

-- Fields 12 on a page: a run of them is taken, up to what is no such field.
abbrev pub is_entry : List ℕ → Bool
is_entry p = eqb (length p) 15

pub redo_run-payloads : (n v most : ℕ) (s : List ℕ) (at : ℕ) (d : Draft) →
    redo_run n v most s at d ≡ redo_all n v (map entry_of (payloads 0x12 18 (run is_entry 0x12 18 most s at) s at)) d
unfolding redo_run run payloads
redo_run-payloads n v zero s at d = refl
redo_run-payloads n v (suc most) s at d = go (is_entry (payload_at s at 0x12)) refl (λ e. redo_run-payloads n v most s (at + 18) e)
  where
    go : (t : Bool) → is_entry (payload_at s at 0x12) ≡ t →
        ((e : Draft) → redo_run n v most s (at + 18) e ≡ redo_all n v (map entry_of (payloads 0x12 18 (run is_entry 0x12 18 most s (at + 18)) s (at + 18))) e) →
        redo_run n v (suc most) s at d ≡ redo_all n v (map entry_of (payloads 0x12 18 (run is_entry 0x12 18 (suc most) s at) s at)) d
    go true t rest = rw (run_goes is_entry 0x12 18 most s at t, t, redo_run) (rest (redo_entry n v (entry_of (payload_at s at 0x12)) d))
    go false t rest = rw (run_stops is_entry 0x12 18 most s at t, t, redo_run)

-- Records of 15 bytes in the buffer.
redo_nth-chunks : (n v : ℕ) (buffer : List ℕ) (k i : ℕ) (d : Draft) →
    steps (redo_nth n v buffer) k i d ≡ redo_all n v (map entry_of (chunks 15 k buffer (15 * i))) d
unfolding steps chunks redo_nth
redo_nth-chunks n v buffer zero i d = refl
redo_nth-chunks n v buffer (suc k) i d =
    let e : 15 * (i + 1) ≡ 15 * i + 15 = omega arith in
    let now : Draft = redo_entry n v (entry_of (part buffer (15 * i) 15)) d in
    redo_nth-chunks n v buffer k (i + 1) now ∙ ap (λ (at : ℕ). redo_all n v (map entry_of (chunks 15 k buffer at)) now) e

-- An entry is read back from its bytes, whatever 32-bit number its version is.
abbrev entry : Entry → ℕ → Entry
entry e v = record { id = e.id; version = v; change = e.change }

pub entry_back : (s : ℕ) (e : Entry) → s ≤ bound32 → EntryFits s e → entry_of (entry_bytes e) ≡ e
unfolding entry_of entry_bytes number_at part
entry_back s e l h =
    let one : entry_of (entry_bytes (entry e 1)) ≡ entry e 1 =
    entry_of-bytes 2 (entry e 1) (omega arith) (record { id = h.id; from = omega arith; below = omega arith; change = h.change }) in
    ap₂ entry one (number-big_endian 4 e.version (omega (arith, h.below)))

-- THE BUFFER
pub buffer_redone : (n v last : ℕ) {buffer : List ℕ} {entries : ℕ} {es : List Entry} → BufferIs buffer entries es → last < bound32 →
    Every (EntryFits (suc last)) es → (d : Draft) →
    redo_buffer n v buffer entries d ≡ replay_from d (pieces_in n v (map entry_item es))
unfolding redo_buffer
buffer_redone n v last {buffer} {entries} {es} b l fit d =
    ap (λ (k : ℕ). steps (redo_nth n v buffer) k 0 d) b.number ∙
    redo_nth-chunks n v buffer (length es) 0 d ∙
    ap (λ (xs : List (List ℕ)). redo_all n v (map entry_of xs) d) b.bytes ∙
    ap (λ (xs : List Entry). redo_all n v xs d) (map_back entry_bytes entry_of (λ e f. entry_back (suc last) e (omega arith) f) es fit) ∙
    redo_all-pieces n v es d
