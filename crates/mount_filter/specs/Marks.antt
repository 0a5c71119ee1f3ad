-- Marks: a byte for each remainder of a number, which tells of most numbers at one look that the row has not got them. A mark is 0 where no
-- number of the row has that remainder; a print of the number where one has; 255 where several have. Assumes nothing.
use Rattle.std.specs.Prelude.{◌≡◌, Bool, true, not, ◌&&◌, ◌||◌, List, ℕ, ◌+◌, ◌*◌, ◌/◌, ◌%◌, ◌≤◌, eqb, leb, length, get_or}
use Rattle.laws.specs.Tests.{choose}
use Rattle.laws.specs.Counts.{count}
use Rattle.layout.specs.Layout.{fewest_blocks, table_bytes}
use Rattle.mount_sequences.specs.Row.{row}
use Rattle.mount_sequences.specs.Strict.{is}

-- The marks are the second half of a table of so many blocks.
abbrev pub marks_at : ℕ → ℕ
marks_at blocks = 512 * blocks

-- The mark of a number: its remainder by the greatest power of two for which there is room.
unfoldable pub mark_of : ℕ → ℕ → ℕ
mark_of blocks v =
    choose (leb 64 blocks) (v % 32768)
    (choose (leb 32 blocks) (v % 16384) (choose (leb 16 blocks) (v % 8192) (choose (leb 8 blocks) (v % 4096) (v % 2048))))

-- A number's print, 1 to 254, of its higher digits.
unfoldable pub fingerprint : ℕ → ℕ
fingerprint v = v / 2048 % 254 + 1

-- A mark with one print more.
unfoldable pub with_fingerprint : ℕ → ℕ → ℕ
with_fingerprint mark print = choose (eqb mark 0) print (choose (eqb mark print) print 255)

-- A mark says that a number is not there: it is 0, or the print of another.
unfoldable pub excludes : ℕ → ℕ → Bool
excludes mark v = eqb mark 0 || (not (eqb mark 255) && not (eqb mark (fingerprint v)))

-- A table with room for n numbers before the marks.
pub record Room (t : List ℕ) (n blocks : ℕ) : Type 0 where
  pub enough : fewest_blocks ≤ blocks
  pub size : length t ≡ table_bytes blocks
  pub few : 4 * n ≤ marks_at blocks

-- The marks tell of the first n numbers: one that is ruled out is not among them.
abbrev pub Tells : ℕ → ℕ → List ℕ → Type 0
Tells blocks n t = (v : ℕ) → excludes (get_or t (marks_at blocks + mark_of blocks v) 0) v ≡ true → count (is v) (row n 0 t) ≡ 0

-- A row of n numbers with their marks.
pub record Marked (t : List ℕ) (n blocks : ℕ) : Type 0 where
  pub room : Room t n blocks
  pub none : Tells blocks n t

-- The row as it was, and its marks.
pub record Marking (old new : List ℕ) (n blocks : ℕ) : Type 0 where
  pub kept : row n 0 new ≡ row n 0 old
  pub marked : Marked new n blocks
