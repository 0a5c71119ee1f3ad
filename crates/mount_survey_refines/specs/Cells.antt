-- The pages of a pool and the cells that they spell: where every page checks, each is the bytes of its cell; and the sequence numbers
-- that are collected are those of the cells. Assumes nothing.
use Rattle.std.specs.Prelude.{◌≡◌, refl, List, [], ◌∷◌, ℕ, zero, suc, ◌+◌, ◌*◌, ◌/◌, ◌≤◌, ◌<◌, length, get_or, take, drop, Option, None, Some}
use Rattle.std.proofs.Common.{sym, ap, ap₂, subst, ◌∙◌, suc-le-suc, add-zero, not-suc-le-zero, le_of_suc-le-suc, arith, length-drop}
use Rattle.laws.specs.Every.{Every, none, both}
use Rattle.laws.specs.Lay.{part, length_part}
use Rattle.laws.specs.BigEndian.{Bytes, bytes-part, bytes_drop}
use Rattle.laws.specs.Chunks.{chunks, first_chunks, length-first_chunks}
use Rattle.laws.specs.Options.{some_same, none_some}
use Rattle.layout.specs.Layout.{page_bytes}
use Rattle.page.specs.Page.{Page}
use Rattle.page.specs.Image.{image, blank_bytes}
use Rattle.page.specs.Decode.{Decoded, blank, written, bad, decode}
use Rattle.page.specs.Limits.{PageFits}
use Rattle.page.proofs.Exact.{decode-fits, image-decode}
use Rattle.page.proofs.Sizes.{blank-decode}
use Rattle.store.specs.Reopen.{Cells}
use Rattle.model.specs.Bytes.{cell_from, joined, cells_from, cells_of}
use Rattle.flash_blocks.specs.Pages.{pages_of, blank_page, page_at}
use Rattle.mount_pages.specs.Seen.{seen, seen_of}
use Rattle.mount_pages.specs.Collect.{front, sequences_from}
use Rattle.mount_survey_refines.specs.Written.{sequences_in}

-- The cells of a list of pages.
abbrev pub cells_spelled : List (List ℕ) → Option Cells
cells_spelled [] = Some []
cells_spelled (b ∷ ps) = joined (cell_from (decode b)) (cells_spelled ps)

cells-chunks : (width k : ℕ) (s : List ℕ) → cells_from width k s ≡ cells_spelled (first_chunks width k s)
unfolding cells_from first_chunks part
cells-chunks width zero s = refl
cells-chunks width (suc k) s = ap (joined (cell_from (decode (take width s)))) (cells-chunks width k (drop width s))

cells-pages : (pool : List ℕ) → cells_of pool ≡ cells_spelled (pages_of pool)
unfolding cells_of pages_of chunks
cells-pages pool = cells-chunks page_bytes (length pool / page_bytes) pool

pub length-pool : (pool : List ℕ) (n : ℕ) → length pool ≡ 512 * n → length (pages_of pool) ≡ n
unfolding pages_of chunks
length-pool pool n e = length-first_chunks 512 (length pool / 512) pool ∙ omega arith

-- ---- the sequence numbers collected

-- The sequence numbers of cells, where there are cells.
abbrev pub sequences_of : Option Cells → Option (List ℕ)
sequences_of None = None
sequences_of (Some c) = Some (sequences_in c)

one_more_lem : (d : Decoded) (o : Option Cells) → front (seen d) (sequences_of o) ≡ sequences_of (joined (cell_from d) o)
one_more_lem blank None = refl
one_more_lem blank (Some c) = refl
one_more_lem (written p) None = refl
one_more_lem (written p) (Some c) = refl
one_more_lem bad None = refl
one_more_lem bad (Some c) = refl

-- A list of pages stands in the pool from a place on.
abbrev From : List (List ℕ) → ℕ → List (List ℕ) → Type 0
From pages q ps = (i : ℕ) → i < length ps → page_at pages (q + i) ≡ get_or ps i blank_page

first_from_lem : (pages : List (List ℕ)) (q : ℕ) (b : List ℕ) (ps : List (List ℕ)) → From pages q (b ∷ ps) → page_at pages q ≡ b
first_from_lem pages q b ps h = ap (page_at pages) (sym (add-zero q)) ∙ h 0 (omega arith)

rest_from : (pages : List (List ℕ)) (q : ℕ) (b : List ℕ) (ps : List (List ℕ)) → From pages q (b ∷ ps) → From pages (q + 1) ps
rest_from pages q b ps h i l = ap (page_at pages) (omega arith) ∙ h (suc i) (suc-le-suc l)

sequences_from_lem : (pages : List (List ℕ)) (ps : List (List ℕ)) (q : ℕ) → From pages q ps → sequences_from pages (length ps) q ≡ sequences_of (cells_spelled ps)
unfolding sequences_from seen_of
sequences_from_lem pages [] q h = refl
sequences_from_lem pages (b ∷ ps) q h =
    ap₂ (λ x o. front (seen (decode x)) o) (first_from_lem pages q b ps h) (sequences_from_lem pages ps (q + 1) (rest_from pages q b ps h)) ∙
    one_more_lem (decode b) (cells_spelled ps)

pub sequences_pool : (pool : List ℕ) (n : ℕ) → length pool ≡ 512 * n → sequences_from (pages_of pool) n 0 ≡ sequences_of (cells_of pool)
unfolding page_at
sequences_pool pool n e =
    ap (λ (k : ℕ). sequences_from (pages_of pool) k 0) (sym (length-pool pool n e)) ∙
    sequences_from_lem (pages_of pool) (pages_of pool) 0 (λ i l. ap (λ (k : ℕ). get_or (pages_of pool) k blank_page) (omega arith)) ∙
    ap sequences_of (sym (cells-pages pool))

-- ---- the pages, one by one

-- Bytes are those of a cell: of nothing, or of a page within its limits.
pub data Spells (b : List ℕ) : Option Page → Type 0 where
  no_page : b ≡ blank_bytes → Spells b None
  one_page : {p : Page} → b ≡ image p → PageFits p → Spells b (Some p)

pub record Whole (b : List ℕ) : Type 0 where
  pub bytes : Bytes b
  pub size : length b ≡ page_bytes

spells_cell : (b : List ℕ) → Whole b → (o : Option Page) → cell_from (decode b) ≡ Some o → Spells b o
spells_cell b w o e = go (decode b) refl e
  where
    go : (d : Decoded) → decode b ≡ d → cell_from d ≡ Some o → Spells b o
    go blank q r = subst (Spells b) (some_same r) (no_page (blank-decode b w.size q))
    go (written p) q r =
        subst (Spells b) (some_same r) (one_page (image-decode b w.bytes w.size p q) (decode-fits b w.bytes p q))
    go bad q r = absurd (none_some r)

-- A pool's pages spell cells, place by place.
pub record Spelled (ps : List (List ℕ)) (c : Cells) : Type 0 where
  pub size : length c ≡ length ps
  pub each : (q : ℕ) → q < length c → Spells (get_or ps q blank_page) (get_or c q None)

joined-spelled : (b : List ℕ) (ps : List (List ℕ)) (x : Option (Option Page)) (y : Option Cells) (c : Cells) → joined x y ≡ Some c →
    ((o : Option Page) → x ≡ Some o → Spells b o) → ((d : Cells) → y ≡ Some d → Spelled ps d) → Spelled (b ∷ ps) c
joined-spelled b ps None y c e f g = absurd (none_some e)
joined-spelled b ps (Some o) None c e f g = absurd (none_some e)
joined-spelled b ps (Some o) (Some d) c e f g = subst (Spelled (b ∷ ps)) (some_same e) (record { size = ap suc (g d refl).size; each = each })
  where
    each : (q : ℕ) → q < suc (length d) → Spells (get_or (b ∷ ps) q blank_page) (get_or (o ∷ d) q None)
    each zero l = f o refl
    each (suc q) l = (g d refl).each q (le_of_suc-le-suc l)

cells-spelled : (ps : List (List ℕ)) → Every Whole ps → (c : Cells) → cells_spelled ps ≡ Some c → Spelled ps c
cells-spelled [] none c e = subst (Spelled []) (some_same e) (record { size = refl; each = λ q l. absurd (not-suc-le-zero l) })
cells-spelled (b ∷ ps) (both w ws) c e =
    joined-spelled b ps (cell_from (decode b)) (cells_spelled ps) c e (spells_cell b w) (cells-spelled ps ws)

whole-chunks : (k : ℕ) (s : List ℕ) → Bytes s → 512 * k ≤ length s → Every Whole (first_chunks 512 k s)
unfolding first_chunks
whole-chunks zero s b l = none
whole-chunks (suc k) s b l =
    both (record { bytes = bytes-part 0 512 b; size = length_part s 0 512 (omega arith) })
    (whole-chunks k (drop 512 s) (bytes_drop 512 b) (omega (arith, length-drop 512 s)))

pub pool-spelled : (pool : List ℕ) → Bytes pool → (c : Cells) → cells_of pool ≡ Some c → Spelled (pages_of pool) c
unfolding pages_of chunks
pool-spelled pool b c e =
    cells-spelled (pages_of pool) (whole-chunks (length pool / 512) pool b (omega arith)) c (sym (cells-pages pool) ∙ e)
