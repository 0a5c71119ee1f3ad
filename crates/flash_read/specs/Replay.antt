-- The entries of one node and one version, taken from a page or the buffer one by one (document 01, "Pages": "entries taken by page stamp, then by position").
use Rattle.std.specs.Prelude.{Bool, true, false, ◌&&◌, ◌≡◌, refl, List, [], ℕ, zero, suc, ◌+◌, ◌-◌, ◌*◌, ◌≤◌, ◌<◌, eqb, leb, length}
use Rattle.std.proofs.Common.{ap, ◌∙◌, arith, le-leb, eq-eqb}
use Rattle.laws.specs.Tests.{choose}
use Rattle.laws.specs.Lay.{part, length_part}
use Rattle.laws.specs.Loops.{steps}
use Rattle.node.specs.Replay.{Draft, redo}
use Rattle.wire.specs.Field.{payload_at}
use Rattle.page.specs.Page.{Entry}
use Rattle.page.specs.Decode.{entry_of}

-- Whether an entry is the node's and of the version.
abbrev pub is_own : ℕ → ℕ → Entry → Bool
is_own id version e = eqb e.id id && eqb e.version version

-- One entry more, where it is the node's and of the version.
unfoldable pub redo_entry : ℕ → ℕ → Entry → Draft → Draft
redo_entry id version e d = choose (is_own id version e) (redo d e.change) d

-- The fields 12 that stand one behind another on a page from a place on, at most so many.
unfoldable pub redo_run : ℕ → ℕ → ℕ → List ℕ → ℕ → Draft → Draft
redo_run id version zero page at d = d
redo_run id version (suc most) page at d =
    elim (eqb (length (payload_at page at 0x12)) 15) [
      | true ↦ redo_run id version most page (at + 18) (redo_entry id version (entry_of (payload_at page at 0x12)) d)
      | false ↦ d
    ]

-- Entry k of a buffer.
unfoldable pub redo_nth : ℕ → ℕ → List ℕ → ℕ → Draft → Draft
redo_nth id version buffer k d = redo_entry id version (entry_of (part buffer (15 * k) 15)) d

-- The first n entries of a buffer.
unfoldable pub redo_buffer : ℕ → ℕ → List ℕ → ℕ → Draft → Draft
redo_buffer id version buffer n d = steps (redo_nth id version buffer) n 0 d

-- The bytes of the entry at a place: framed, as on a page, the payload of a field 12; else fifteen bytes as they stand. None where there is none.
unfoldable pub entry_in : Bool → List ℕ → ℕ → List ℕ
entry_in true bytes at = payload_at bytes at 0x12
entry_in false bytes at = choose (leb (at + 15) (length bytes)) (part bytes at 15) []

-- How far one entry lies behind another.
abbrev pub stride_of : Bool → ℕ
stride_of true = 18
stride_of false = 15

-- How far so many entries reach.
unfoldable pub reach : Bool → ℕ → ℕ
reach framed zero = 0
reach framed (suc n) = stride_of framed + reach framed n

pub reach_more : (framed : Bool) (n : ℕ) → 0 < n → reach framed n ≡ stride_of framed + reach framed (n - 1)
unfolding reach
reach_more framed zero h = absurd (omega arith)
reach_more framed (suc n) h = let e : n ≡ suc n - 1 = omega arith in ap (λ (k : ℕ). stride_of framed + reach framed k) e

pub reach_page : (n : ℕ) → reach true n ≡ 18 * n
unfolding reach
reach_page zero = refl
reach_page (suc n) = omega (arith, reach_page n)

pub reach_buffer : (n : ℕ) → reach false n ≡ 15 * n
unfolding reach
reach_buffer zero = refl
reach_buffer (suc n) = omega (arith, reach_buffer n)

-- The entries of either kind that stand one behind another from a place on, at most so many.
unfoldable pub redo_from : Bool → ℕ → ℕ → ℕ → List ℕ → ℕ → Draft → Draft
redo_from framed id version zero bytes at d = d
redo_from framed id version (suc most) bytes at d =
    elim (eqb (length (entry_in framed bytes at)) 15) [
      | true ↦ redo_from framed id version most bytes (at + stride_of framed) (redo_entry id version (entry_of (entry_in framed bytes at)) d)
      | false ↦ d
    ]

plain_in : (bytes : List ℕ) (at : ℕ) → at + 15 ≤ length bytes → (place : ℕ) → place ≡ at → entry_in false bytes place ≡ part bytes at 15
unfolding entry_in
plain_in bytes at l place e = rw (e, le-leb (at + 15) (length bytes) l) refl

-- Those of a page, and those of a buffer that has them all.
pub from_page : (id version most : ℕ) (page : List ℕ) (at : ℕ) (d : Draft) → redo_from true id version most page at d ≡ redo_run id version most page at d
unfolding redo_from redo_run entry_in
from_page id version zero page at d = refl
from_page id version (suc most) page at d = go (eqb (length (payload_at page at 0x12)) 15) refl (from_page id version most page (at + 18))
  where
    go : (t : Bool) → eqb (length (payload_at page at 0x12)) 15 ≡ t →
        ((e : Draft) → redo_from true id version most page (at + 18) e ≡ redo_run id version most page (at + 18) e) →
        redo_from true id version (suc most) page at d ≡ redo_run id version (suc most) page at d
    go true e r = rw (e, redo_from, redo_run) (r _)
    go false e r = rw (e, redo_from, redo_run) refl

pub from_buffer : (id version : ℕ) (buffer : List ℕ) (n k at : ℕ) (d : Draft) → at ≡ 15 * k → 15 * (k + n) ≤ length buffer →
    redo_from false id version n buffer at d ≡ steps (redo_nth id version buffer) n k d
unfolding redo_from steps redo_nth
from_buffer id version buffer zero k at d e l = refl
from_buffer id version buffer (suc n) k at d e l =
    let here : entry_in false buffer at ≡ part buffer (15 * k) 15 = plain_in buffer (15 * k) (omega arith) at e in
    let size : length (entry_in false buffer at) ≡ 15 = ap length here ∙ length_part buffer (15 * k) 15 (omega arith) in
    rw (eq-eqb (length (entry_in false buffer at)) 15 size, redo_from)
    (from_buffer id version buffer n (k + 1) (at + 15) (redo_entry id version (entry_of (entry_in false buffer at)) d) (omega arith) (omega arith) ∙
    ap (λ (b : List ℕ). steps (redo_nth id version buffer) n (k + 1) (redo_entry id version (entry_of b) d)) here)
