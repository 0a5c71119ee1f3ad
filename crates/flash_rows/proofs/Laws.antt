-- A row's bytes as they are laid, and read back; the rows that bytes spell. Assumes nothing.
use mathlib.Core.Path.{◌≡◌, refl, sym, ap, ◌∙◌}
use mathlib.Core.List.{List, [], ◌∷◌, ◌++◌}
use Prim.Native.Nat.{ℕ, ◌+◌, ◌*◌, ◌/◌, ◌≤◌}
use native.Mathlib.Omega.{arith}
use lib.ListN.{length, get_or, length-map, get_or-map}
use Rattle.laws.specs.Lay.{lay, part, lay-next, lay-whole}
use Rattle.laws.specs.BigEndian.{number_at, number-big_endian, big_endian}
use Rattle.laws.specs.Chunks.{chunks, length-chunks, get-chunks}
use Rattle.account.specs.declared.Mode.{Mode}
use Rattle.account.specs.declared.Mode.TheVariants.{Log, Disk}
use Rattle.flash_rows.specs.Row.{mode_byte, mode_from, decode, encode, rows_of, no_row, Fits, row_bytes}
use Rattle.flash_rows.specs.declared.Row.{Row}

-- A row's numbers laid one behind another are its bytes.
pub row_laid : (s : List ℕ) (r : Row) → length s ≡ row_bytes →
    lay
    (lay
    (lay
    (lay (lay (lay (lay s 0 (big_endian 4 r.version)) 4 (big_endian 4 r.score)) 8 (mode_byte r.mode ∷ [])) 9 (r.pages ∷ []))
    10 (big_endian 2 r.first)) 12 (big_endian 2 r.second)) 14 (big_endian 2 r.third) ≡ encode r
unfolding encode
row_laid s r e =
    let a = big_endian 4 r.version ++ big_endian 4 r.score in
    let b = a ++ (mode_byte r.mode ∷ []) in
    let c = b ++ (r.pages ∷ []) in
    let d = c ++ big_endian 2 r.first in
    let f = d ++ big_endian 2 r.second in
    rw (
      lay-next s 0 (big_endian 4 r.version) (big_endian 4 r.score) 4 (omega arith) refl,
      lay-next s 0 a (mode_byte r.mode ∷ []) 8 (omega arith) refl,
      lay-next s 0 b (r.pages ∷ []) 9 (omega arith) refl,
      lay-next s 0 c (big_endian 2 r.first) 10 (omega arith) refl,
      lay-next s 0 d (big_endian 2 r.second) 12 (omega arith) refl,
      lay-next s 0 f (big_endian 2 r.third) 14 (omega arith) refl,
    )
    (lay-whole s (encode r) (sym e))

-- What was encoded is decoded.
mode_back : (m : Mode) → mode_from (mode_byte m) ≡ m
unfolding mode_from
mode_back Log = refl
mode_back Disk = refl

row_same : {v v' s s' n n' a a' b b' c c' : ℕ} {m m' : Mode} → v ≡ v' → s ≡ s' → m ≡ m' → n ≡ n' →
    a ≡ a' → b ≡ b' → c ≡ c' →
    ◌≡◌ {A = Row}
    (record { version = v; score = s; mode = m; pages = n; first = a; second = b; third = c })
    (record { version = v'; score = s'; mode = m'; pages = n'; first = a'; second = b'; third = c' })
row_same ev es em en ea eb ec = cc

pub decode-encode : (r : Row) → Fits r → decode (encode r) ≡ r
unfolding decode encode number_at part
decode-encode r f =
    row_same
    (number-big_endian 4 r.version f.version)
    (number-big_endian 4 r.score f.score)
    (mode_back r.mode)
    refl
    (number-big_endian 2 r.first f.first)
    (number-big_endian 2 r.second f.second)
    (number-big_endian 2 r.third f.third)

-- The rows of bytes.
pub length-rows : (table : List ℕ) → length (rows_of table) ≡ length table / 16
unfolding rows_of
length-rows table = length-map (chunks 16 table) decode ∙ length-chunks 16 table

pub get_rows : (table : List ℕ) (n : ℕ) → 16 * n + 16 ≤ length table → get_or (rows_of table) n no_row ≡ decode (part table (16 * n) 16)
unfolding rows_of no_row
get_rows table n h = get_or-map decode (chunks 16 table) n _ ∙ ap decode (get-chunks 16 table n _ (omega arith))
