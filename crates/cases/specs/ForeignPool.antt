-- The second pool of docs/FORMAT.md, which no software of ours wrote, byte by byte: the definitions read from it what that page reads from it. All by
-- computation. Assumes nothing.
use Rattle.std.specs.Prelude.{◌≡◌, refl, List, [], ◌∷◌, ◌++◌, ℕ, zero, suc, ◌-◌, ◌*◌, length, replicate, Option, None, Some}
use Rattle.pairs.specs.Pairs.{Pair}
use Rattle.account.specs.declared.Mode.TheVariants.{Log, Disk}
use Rattle.account.specs.declared.Account.{Account}
use Rattle.account.specs.declared.Tariff.{Tariff}
use Rattle.account.specs.Tariff.{tariff_of}
use Rattle.tree.specs.Spells as Spells
use Rattle.tree.specs.Spells.{map_of}
use Rattle.book.specs.Book.{Book}
use Rattle.model.specs.State.{book_of}
use Rattle.model.specs.Mount.{Mounted, refused, opened}
use Rattle.model.specs.Pool.{mount_of}
use Rattle.model.specs.Computes.{computes}

-- Page 32: newest checkpoint.
unfoldable pub page32 : List ℕ
page32 =
    0x10 ∷ 0 ∷ 4 ∷ 0 ∷ 0 ∷ 0 ∷ 0x2D ∷
    0x13 ∷ 0 ∷ 0x20 ∷ 0 ∷ 0 ∷ 0 ∷ 3 ∷ 0 ∷ 0 ∷ 0 ∷ 1 ∷ 0 ∷ 0 ∷ 0 ∷ 2 ∷ 0 ∷ 0 ∷ 0 ∷ 1 ∷ 0 ∷ 0 ∷ 0 ∷ 4 ∷ 0 ∷ 0 ∷ 0 ∷ 4 ∷ 0 ∷ 0 ∷ 0 ∷
    3 ∷ 0 ∷ 0 ∷ 0 ∷ 2 ∷
    0x14 ∷ 0 ∷ 6 ∷ 0 ∷ 2 ∷ 0 ∷ 0 ∷ 0 ∷ 3 ∷
    0x14 ∷ 0 ∷ 6 ∷ 0 ∷ 0 ∷ 0 ∷ 0 ∷ 0 ∷ 0 ∷
    0x14 ∷ 0 ∷ 6 ∷ 0 ∷ 1 ∷ 0 ∷ 0 ∷ 0 ∷ 4 ∷
    0x15 ∷ 0 ∷ 2 ∷ 0 ∷ 3 ∷
    0x1F ∷ 0 ∷ 4 ∷ 0x2A ∷ 0x9D ∷ 0 ∷ 0xFB ∷
    []

-- Page 33: later log page.
unfoldable pub page33 : List ℕ
page33 =
    0x10 ∷ 0 ∷ 4 ∷ 0 ∷ 0 ∷ 0 ∷ 0x2B ∷
    0x12 ∷ 0 ∷ 0x0F ∷ 0 ∷ 2 ∷ 0 ∷ 0 ∷ 0 ∷ 0x0C ∷ 1 ∷ 0 ∷ 0 ∷ 0 ∷ 7 ∷ 0 ∷ 0 ∷ 0 ∷ 0x65 ∷
    0x12 ∷ 0 ∷ 0x0F ∷ 0 ∷ 2 ∷ 0 ∷ 0 ∷ 0 ∷ 0x0C ∷ 2 ∷ 0 ∷ 0 ∷ 0 ∷ 9 ∷ 0 ∷ 0 ∷ 0 ∷ 0 ∷
    0x12 ∷ 0 ∷ 0x0F ∷ 0 ∷ 7 ∷ 0 ∷ 0 ∷ 0 ∷ 0x2A ∷ 1 ∷ 0 ∷ 0 ∷ 0 ∷ 9 ∷ 0 ∷ 0 ∷ 3 ∷ 0x84 ∷
    0x12 ∷ 0 ∷ 0x0F ∷ 0 ∷ 2 ∷ 0 ∷ 0 ∷ 0 ∷ 0x0C ∷ 1 ∷ 0 ∷ 0 ∷ 0 ∷ 3 ∷ 0 ∷ 0 ∷ 0 ∷ 0 ∷
    0x1F ∷ 0 ∷ 4 ∷ 0x59 ∷ 0xF6 ∷ 2 ∷ 0x2C ∷
    []

-- Page 34: earlier log page.
unfoldable pub page34 : List ℕ
page34 =
    0x10 ∷ 0 ∷ 4 ∷ 0 ∷ 0 ∷ 0 ∷ 0x11 ∷
    0x12 ∷ 0 ∷ 0x0F ∷ 0 ∷ 1 ∷ 0 ∷ 0 ∷ 0 ∷ 9 ∷ 1 ∷ 0 ∷ 0 ∷ 0 ∷ 0x14 ∷ 0 ∷ 0 ∷ 0 ∷ 0xC8 ∷
    0x12 ∷ 0 ∷ 0x0F ∷ 0 ∷ 2 ∷ 0 ∷ 0 ∷ 0 ∷ 0x0C ∷ 1 ∷ 0 ∷ 0 ∷ 0 ∷ 7 ∷ 0 ∷ 0 ∷ 0 ∷ 0x64 ∷
    0x12 ∷ 0 ∷ 0x0F ∷ 0 ∷ 2 ∷ 0 ∷ 0 ∷ 0 ∷ 0x0C ∷ 1 ∷ 0 ∷ 0 ∷ 0 ∷ 9 ∷ 0 ∷ 0 ∷ 1 ∷ 0x2C ∷
    0x12 ∷ 0 ∷ 0x0F ∷ 0 ∷ 2 ∷ 0 ∷ 0 ∷ 0 ∷ 0x0C ∷ 3 ∷ 0 ∷ 0 ∷ 0 ∷ 0 ∷ 0 ∷ 0 ∷ 0 ∷ 1 ∷
    0x1F ∷ 0 ∷ 4 ∷ 0x6D ∷ 0x2D ∷ 2 ∷ 0x62 ∷
    []

-- Page 35: the branch.
unfoldable pub page35 : List ℕ
page35 =
    0x10 ∷ 0 ∷ 4 ∷ 0 ∷ 0 ∷ 0 ∷ 0x1B ∷
    0x11 ∷ 0 ∷ 0x0F ∷ 0 ∷ 0 ∷ 4 ∷ 0 ∷ 0 ∷ 0 ∷ 1 ∷ 0 ∷ 0 ∷ 0 ∷ 0x14 ∷ 0 ∷ 0 ∷ 0 ∷ 2 ∷
    0x1F ∷ 0 ∷ 4 ∷ 6 ∷ 0xCB ∷ 0 ∷ 0x6B ∷
    []

-- Page 36: a leaf.
unfoldable pub page36 : List ℕ
page36 =
    0x10 ∷ 0 ∷ 4 ∷ 0 ∷ 0 ∷ 0 ∷ 0x1A ∷
    0x11 ∷ 0 ∷ 0x1F ∷ 0 ∷ 1 ∷ 3 ∷ 0xFF ∷ 0xFF ∷ 0xFF ∷ 0xFF ∷
    0 ∷ 0 ∷ 0 ∷ 0x14 ∷ 0xFF ∷ 0xFF ∷ 0xFF ∷ 0xFF ∷
    0xEE ∷ 0x6B ∷ 0x28 ∷ 0 ∷ 0 ∷ 0 ∷ 0xFF ∷ 0xFF ∷
    0xFF ∷ 0xFF ∷ 0xFF ∷ 0xFF ∷ 0xFF ∷ 0xFF ∷ 0xFF ∷ 0xFF ∷
    0x1F ∷ 0 ∷ 4 ∷ 0x10 ∷ 0x89 ∷ 0x13 ∷ 0xE6 ∷
    []

-- Page 37: older checkpoint.
unfoldable pub page37 : List ℕ
page37 =
    0x10 ∷ 0 ∷ 4 ∷ 0 ∷ 0 ∷ 0 ∷ 0x1E ∷
    0x13 ∷ 0 ∷ 0x20 ∷ 0 ∷ 0 ∷ 0 ∷ 3 ∷ 0 ∷ 0 ∷ 0 ∷ 1 ∷ 0 ∷ 0 ∷ 0 ∷ 2 ∷ 0 ∷ 0 ∷ 0 ∷ 1 ∷ 0 ∷ 0 ∷ 0 ∷ 4 ∷ 0 ∷ 0 ∷ 0 ∷ 4 ∷ 0 ∷ 0 ∷ 0 ∷
    3 ∷ 0 ∷ 0 ∷ 0 ∷ 2 ∷
    0x14 ∷ 0 ∷ 6 ∷ 0 ∷ 2 ∷ 0 ∷ 0 ∷ 0 ∷ 1 ∷
    0x14 ∷ 0 ∷ 6 ∷ 0 ∷ 1 ∷ 0 ∷ 0 ∷ 0 ∷ 2 ∷
    0x14 ∷ 0 ∷ 6 ∷ 0 ∷ 0 ∷ 0 ∷ 0 ∷ 0 ∷ 3 ∷
    0x15 ∷ 0 ∷ 2 ∷ 0 ∷ 3 ∷
    0x1F ∷ 0 ∷ 4 ∷ 0x26 ∷ 0x92 ∷ 0 ∷ 0xEB ∷
    []

-- So many bytes of FF.
abbrev blank : ℕ → List ℕ
blank n = replicate n 255

-- A page's bytes, and FF to its end.
abbrev filled : List ℕ → List ℕ
filled bs = bs ++ blank (512 - length bs)

-- Four blocks; the six pages are the first of block 1.
unfoldable pub pool : List ℕ
pool =
    blank 16384 ++
    (filled page32 ++
    (filled page33 ++ (filled page34 ++ (filled page35 ++ (filled page36 ++ (filled page37 ++ blank (3 * 16384 - 6 * 512)))))))

-- What is read of a pool: the tariff, the mode and the score of each node by id, and the map.
pub record Read : Type 0 where
  pub tariff : Tariff
  pub accounts : List Account
  pub pairs : List Pair

abbrev accounts_of : ℕ → Book → List Account
accounts_of zero b = []
accounts_of (suc n) b = accounts_of n b ++ (b.account n ∷ [])

abbrev read_of : Mounted → Option Read
read_of (refused n) = None
read_of (opened t s) =
    let b = book_of s in
    Some (record { tariff = t; accounts = accounts_of b.count b; pairs = map_of b.count b.table })

pub foreign-pool-read :
    read_of (mount_of pool) ≡
    Some
    (record {
      tariff = tariff_of 3 1 2 1 4 4 3 2;
      accounts =
          record { mode = Disk; score = 0 } ∷
          record { mode = Disk; score = 4 } ∷
          record { mode = Log; score = 3 } ∷
          [];
      pairs = (3, 0) ∷ (7, 101) ∷ (20, 4294967295) ∷ (4000000000, 65535) ∷ (4294967295, 4294967295) ∷ [];
    })
unfolding computes pool page32 page33 page34 page35 page36 page37 Spells.join_pointers Spells.pairs_of_node Spells.pairs_below
foreign-pool-read = refl
