-- A node's row in the work table, which "holds, while a batch runs, the mode, the score and the pages of each node" (document 01,
-- "Pool and buffers"): 16 bytes, version (4), score (4), mode (1), number of pages (1), three page numbers (2 each).
use Rattle.std.specs.Prelude.{◌≡◌, refl, List, [], ◌∷◌, ◌++◌, map, ℕ, ◌<◌, eqb, get_or}
use Rattle.laws.specs.Tests.{choose}
use Rattle.laws.specs.BigEndian.{big_endian, number_at}
use Rattle.laws.specs.Chunks.{chunks}
use Rattle.account.specs.declared.Mode.{Mode}
use Rattle.account.specs.declared.Mode.TheVariants.{Log, Disk}
use Rattle.flash_rows.specs.declared.Row.{Row}

-- The bytes of a row.
abbrev pub row_bytes : ℕ
row_bytes = 16

-- The byte that says a mode, and the mode that a byte says: 0 is log mode.
abbrev pub mode_byte : Mode → ℕ
mode_byte Log = 0
mode_byte Disk = 1

-- Total: every byte but 0 is read as disk. Rows are written by `encode` alone, so there is none but 0 and 1.
unfoldable pub mode_from : ℕ → Mode
mode_from b = choose (eqb b 0) Log Disk

-- The row that 16 bytes spell.
unfoldable pub decode : List ℕ → Row
decode s =
    record {
      version = number_at 4 s 0;
      score = number_at 4 s 4;
      mode = mode_from (get_or s 8 0);
      pages = get_or s 9 0;
      first = number_at 2 s 10;
      second = number_at 2 s 12;
      third = number_at 2 s 14;
    }

-- The 16 bytes of a row.
unfoldable pub encode : Row → List ℕ
encode r =
    big_endian 4 r.version ++ (big_endian 4 r.score ++ (mode_byte r.mode ∷ r.pages ∷
    (big_endian 2 r.first ++ (big_endian 2 r.second ++ big_endian 2 r.third))))

-- The rows of a table.
unfoldable pub rows_of : List ℕ → List Row
rows_of table = map decode (chunks row_bytes table)

pub rows_of-is : (table : List ℕ) → rows_of table ≡ map decode (chunks row_bytes table)
unfolding rows_of
rows_of-is table = refl

-- The row of a node that lies nowhere; what is read behind the last row.
unfoldable pub no_row : Row
no_row = decode []

pub no_row-is : no_row ≡ decode []
unfolding no_row
no_row-is = refl

-- The numbers of a row are within their widths.
pub record Fits (r : Row) : Type 0 where
  pub version : r.version < 4294967296
  pub score : r.score < 4294967296
  pub first : r.first < 65536
  pub second : r.second < 65536
  pub third : r.third < 65536
