-- A pool's bytes and its cells are the same thing said twice: cells whose pages fit are read back from their bytes, and bytes of which
-- every page checks are the bytes of the cells read from them, whose pages then fit. Assumes nothing.
use Rattle.std.specs.Prelude.{◌≡◌, refl, length, take, drop, Option, None, Some}
use Rattle.std.proofs.Common.{sym, ap, ap₂, ◌∙◌, arith, length-append, take-append-drop, length-take-le, take_at, drop_at}
use Rattle.std.proofs.Math.Path.{subst}
use mathlib.Core.List.{List, [], ◌∷◌, ◌++◌}
use Prim.Native.Nat.{ℕ, zero, suc, ◌*◌, ◌/◌}
use Rattle.std.proofs.Math.ListN.{length-drop}
use Rattle.laws.specs.Every.{Every, none, both, every_append, every_take, every_drop}
use Rattle.laws.specs.BigEndian.{Bytes}
use Rattle.laws.specs.Options.{some_same, none_some}
use Rattle.laws.specs.Lists.{length-zero}
use Rattle.layout.specs.Layout.{page_bytes}
use Rattle.page.specs.Page.{Page}
use Rattle.page.specs.Image.{blank_bytes}
use Rattle.page.specs.Decode.{Decoded, blank, written, bad, decode}
use Rattle.page.specs.Limits.{PageFits}
use Rattle.page.proofs.ReadBack.{decode-image}
use Rattle.page.proofs.Exact.{decode-fits, image-decode}
use Rattle.page.proofs.Sizes.{length-image, decode-blank_bytes, blank-decode}
use Rattle.page.specs.ImageBytes.{bytes-image, bytes-blank_bytes}
use Rattle.store.specs.Reopen.{Cells}
use Rattle.model.specs.Bytes.{cell_bytes, bytes_of, cell_from, joined, cells_from, cells_of}

-- A cell is blank, or its page is within its limits.
abbrev pub CellFits : Option Page → Type 0
CellFits None = Unit {0}
CellFits (Some p) = PageFits p

-- ---- from cells to bytes and back

-- A cell of so many bytes that is read back from them.
record ReadBack (width : ℕ) (c : Option Page) : Type 0 where
  size : length (cell_bytes c) ≡ width
  back : cell_from (decode (cell_bytes c)) ≡ Some c

cells_back : (width : ℕ) (c : Cells) → Every (ReadBack width) c → cells_from width (length c) (bytes_of c) ≡ Some c
unfolding cells_from
cells_back width [] none = refl
cells_back width (x ∷ c) (both r e) =
    rw (
      take_at (cell_bytes x) (bytes_of c) width r.size,
      drop_at (cell_bytes x) (bytes_of c) width r.size,
      r.back,
      cells_back width c e,
    )

length_each : (width : ℕ) (c : Cells) → Every (ReadBack width) c → length (bytes_of c) ≡ width * length c
length_each width [] none = omega arith
length_each width (x ∷ c) (both r e) = omega (arith, length-append (cell_bytes x) (bytes_of c), r.size, length_each width c e)

length-blank : length blank_bytes ≡ page_bytes
unfolding blank_bytes
length-blank = refl

cell_back : (c : Option Page) → CellFits c → ReadBack page_bytes c
cell_back None f = record { size = length-blank; back = ap cell_from decode-blank_bytes }
cell_back (Some p) f = record { size = length-image p f; back = ap cell_from (decode-image p f) }

all_back : (c : Cells) → Every CellFits c → Every (ReadBack page_bytes) c
all_back [] none = none
all_back (x ∷ c) (both f e) = both (cell_back x f) (all_back c e)

-- 512 bytes a cell
pub length-bytes_of : (c : Cells) → Every CellFits c → length (bytes_of c) ≡ page_bytes * length c
length-bytes_of c e = length_each page_bytes c (all_back c e)

pub bytes-bytes_of : (c : Cells) → Bytes (bytes_of c)
bytes-bytes_of [] = none
bytes-bytes_of (None ∷ c) = every_append bytes-blank_bytes (bytes-bytes_of c)
bytes-bytes_of (Some p ∷ c) = every_append (bytes-image p) (bytes-bytes_of c)

parts_in : (k n : ℕ) → n ≡ 512 * k → n / 512 ≡ k
parts_in k n e = omega arith

-- CELLS WHOSE PAGES FIT are read back from their bytes.
pub cells_of-bytes_of : (c : Cells) → Every CellFits c → cells_of (bytes_of c) ≡ Some c
unfolding cells_of
cells_of-bytes_of c e =
    ap (λ (k : ℕ). cells_from page_bytes k (bytes_of c)) (parts_in (length c) (length (bytes_of c)) (length-bytes_of c e)) ∙
    cells_back page_bytes c (all_back c e)

-- ---- from bytes to cells and back

-- Bytes are those of a cell that fits.
record IsCell (b : List ℕ) (c : Option Page) : Type 0 where
  is : b ≡ cell_bytes c
  fits : CellFits c

pub record IsPool (bs : List ℕ) (c : Cells) : Type 0 where
  pub is : bs ≡ bytes_of c
  pub fits : Every CellFits c

cell_is : (b : List ℕ) → Bytes b → length b ≡ page_bytes → (c : Option Page) → cell_from (decode b) ≡ Some c → IsCell b c
cell_is b bytes l c e = go (decode b) refl e
  where
    go : (d : Decoded) → decode b ≡ d → cell_from d ≡ Some c → IsCell b c
    go blank q r = subst (IsCell b) (some_same r) (record { is = blank-decode b l q; fits = tt })
    go (written p) q r = subst (IsCell b) (some_same r) (record { is = image-decode b bytes l p q; fits = decode-fits b bytes p q })
    go bad q r = absurd (none_some r)

module _ (width : ℕ) (cell : (b : List ℕ) → Bytes b → length b ≡ width → (c : Option Page) → cell_from (decode b) ≡ Some c → IsCell b c) where
  -- the first part and the others, where together they are cells
  joined_is : (b : List ℕ) (rest : List ℕ) (x : Option (Option Page)) (y : Option Cells) (c : Cells) → joined x y ≡ Some c →
      ((o : Option Page) → x ≡ Some o → IsCell b o) → ((d : Cells) → y ≡ Some d → IsPool rest d) → IsPool (b ++ rest) c
  joined_is b rest None y c e f g = absurd (let z : ◌≡◌ {A = ℕ} 0 1 = cc in omega arith)
  joined_is b rest (Some o) None c e f g = absurd (let z : ◌≡◌ {A = ℕ} 0 1 = cc in omega arith)
  joined_is b rest (Some o) (Some d) c e f g =
      let a = f o refl in
      let r = g d refl in
      subst (IsPool (b ++ rest)) (some_same e)
      (record { is = ap₂ {B = List ℕ} ◌++◌ a.is r.is; fits = both a.fits r.fits })

  cells_are : (k : ℕ) (bs : List ℕ) → Bytes bs → length bs ≡ width * k → (c : Cells) → cells_from width k bs ≡ Some c → IsPool bs c
  unfolding cells_from
  cells_are zero bs bytes l c e = subst (IsPool bs) (some_same e) (record { is = length-zero bs (omega arith); fits = none })
  cells_are (suc k) bs bytes l c e =
      subst (λ (z : List ℕ). IsPool z c) (take-append-drop width bs)
      (joined_is (take width bs) (drop width bs) (cell_from (decode (take width bs))) (cells_from width k (drop width bs)) c e
      (cell (take width bs) (every_take width bs bytes) (length-take-le width bs (omega arith)))
      (cells_are k (drop width bs) (every_drop width bs bytes) (omega (arith, length-drop width bs))))

-- BYTES OF WHICH EVERY PAGE CHECKS are the bytes of cells whose pages fit.
pub cells_of-is : (bs : List ℕ) → Bytes bs → (k : ℕ) → length bs ≡ page_bytes * k → (c : Cells) → cells_of bs ≡ Some c → IsPool bs c
unfolding cells_of
cells_of-is bs bytes k l c e =
    cells_are page_bytes cell_is k bs bytes l c
    (sym (ap (λ (n : ℕ). cells_from page_bytes n bs) (parts_in k (length bs) l)) ∙ e)
