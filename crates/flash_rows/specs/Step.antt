-- What a row says of pages, and how it follows what is written (document 01, "Pages" and "Nodes and tree").
use Rattle.std.specs.Prelude.{◌≡◌, refl, Option, None, Some, Bool, ◌&&◌, ◌||◌, List, ℕ, ◌-◌, eqb, ltb, get_or, set}
use Rattle.laws.specs.Tests.{choose}
use Rattle.account.specs.declared.Mode.{Mode}
use Rattle.account.specs.declared.Mode.TheVariants.{Log, Disk}
use Rattle.flash_rows.specs.declared.Row.{Row}

-- Whether slot k is one of the slots in use and holds the page.
unfoldable pub holds : ℕ → ℕ → ℕ → ℕ → Bool
holds k pages slot page = ltb k pages && eqb slot page

-- Whether a row names a page: the node lies there.
unfoldable pub names : ℕ → Row → Bool
names page r =
    holds 0 r.pages r.first page || (holds 1 r.pages r.second page || holds 2 r.pages r.third page)

-- The row with another version and mode, on other pages; its score stays. What is written changes a row by this alone.
abbrev pub lying : ℕ → Mode → ℕ → ℕ → ℕ → ℕ → Row → Row
lying version mode pages first second third r =
    record { version = version; score = r.score; mode = mode; pages = pages; first = first; second = second; third = third }

-- The row with one page more, in the first slot that is free; three pages are the most.
unfoldable pub noted : ℕ → Row → Row
noted page r =
    choose (eqb r.pages 0) (lying r.version r.mode 1 page r.second r.third r)
    (choose (eqb r.pages 1) (lying r.version r.mode 2 r.first page r.third r)
    (choose (eqb r.pages 2) (lying r.version r.mode 3 r.first r.second page r) r))

-- A fresh start: a new version in a mode, and no page yet.
unfoldable pub fresh : ℕ → Mode → Row → Row
fresh version mode r = lying version mode 0 r.first r.second r.third r

-- The row with another score.
unfoldable pub scored : ℕ → Row → Row
scored score r =
    record { version = r.version; score = score; mode = r.mode; pages = r.pages; first = r.first; second = r.second; third = r.third }

pub score-scored : (score : ℕ) (r : Row) → (scored score r).score ≡ score
unfolding scored
score-scored score r = refl

-- The first in log mode, the second in disk mode.
abbrev pub by_mode : {A : Type 0} → Mode → A → A → A
by_mode Log a b = a
by_mode Disk a b = b

-- What an entry of a version, now on a log page, does to its node's row: the page is noted once, and only where the version is the row's,
-- in log mode. ("A log node lies on the log pages that have an entry of its greatest version.")
unfoldable pub claim : ℕ → ℕ → Row → Option Row
claim version page r =
    by_mode r.mode (choose (eqb r.version version) (choose (names page r) None (Some (noted page r))) None) None

-- The rows after a claim on row n.
abbrev pub settled : Option Row → ℕ → List Row → List Row
settled None n rows = rows
settled (Some r) n rows = set rows n r

-- Where a page lies after the 32 pages from `base` on moved to other places.
unfoldable pub new_place : ℕ → List ℕ → ℕ → ℕ
new_place base places page = choose (ltb page base) page (choose (ltb (page - base) 32) (get_or places (page - base) 0) page)

-- The row that names its pages by their new places.
unfoldable pub moved : ℕ → List ℕ → Row → Row
moved base places r =
    lying r.version r.mode r.pages (new_place base places r.first) (new_place base places r.second) (new_place base places r.third) r
