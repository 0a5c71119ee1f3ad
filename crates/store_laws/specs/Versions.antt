-- The rules of versions: from 1, below their page's number, no page's number; and what mode a node is in: no page has its version
-- for a number, or its node page has. All are counts of entries and pages, which no operation raises but by what it writes.
-- Assumes nothing.
use Rattle.std.specs.Prelude.{◌≡◌, Bool, true, false, ℕ, zero, suc, ◌+◌, ◌<◌, eqb, leb, Some}
use Rattle.std.proofs.Math.Path.{ap}
use Rattle.laws.specs.Counts.{count, tally}
use Rattle.account.specs.declared.Mode.{Mode}
use Rattle.account.specs.declared.Mode.TheVariants.{Log, Disk}
use Rattle.node.specs.Node.{Node}
use Rattle.page.specs.Page.{Entry, Page, page, log, whole, checkpoint}
use Rattle.store.specs.View.{greatest}
use Rattle.store.specs.Pool.{numbered, find}
use Rattle.store.specs.Store.{Store, view, mode_at, mode_of}
use Rattle.store_laws.specs.PoolLaws.{find_none}

abbrev pub version_is : ℕ → Entry → Bool
version_is v e = eqb e.version v

abbrev pub positive : ℕ → Bool
positive zero = false
positive (suc n) = true

-- A log page with an entry of a version.
unfoldable pub says : ℕ → Page → Bool
says v (page s (log es)) = positive (count (version_is v) es)
says v (page s (whole n x)) = false
says v (page s (checkpoint t scores k)) = false

-- How many say a version: pages, and entries of the buffer.
unfoldable pub said : ℕ → Store → ℕ
said v st = tally (says v) st.blocks + count (version_is v) st.buffer

-- A log page with an entry whose version is not below the page's number.
abbrev pub late_in : ℕ → Entry → Bool
late_in s e = leb s e.version

unfoldable pub late : Page → Bool
late (page s (log es)) = positive (count (late_in s) es)
late (page s (whole n x)) = false
late (page s (checkpoint t scores k)) = false

-- The rules on versions, each as a count.
pub record VersionRules (st : Store) : Type 0 where
  -- "A version .. is below the page's stamp"
  pub early : tally late st.blocks ≡ 0
  -- "from 1"
  pub from_one : said 0 st ≡ 0
  -- "Page stamps .. none is the version of a log entry."
  pub apart : (v : ℕ) → 0 < said v st → tally (numbered v) st.blocks ≡ 0
  -- none is above the last number taken
  pub within : (v : ℕ) → st.last < v → said v st ≡ 0

-- A node in log mode: no page has its version for a number.
pub record InLog (st : Store) (n : ℕ) : Type 0 where
  pub none : tally (numbered (greatest (view st) n)) st.blocks ≡ 0
  pub some : 0 < greatest (view st) n

-- A node in disk mode: the page that has its version for a number is its node page.
pub record OnPage (st : Store) (n : ℕ) : Type 0 where
  pub node : Node
  pub page : find (greatest (view st) n) st.blocks ≡ Some (page (greatest (view st) n) (whole n node))

-- A node is in this mode, so that the store says so.
abbrev pub InMode : Mode → Store → ℕ → Type 0
InMode Log st n = InLog st n
InMode Disk st n = OnPage st n

pub mode_is : (m : Mode) (st : Store) (n : ℕ) → InMode m st n → mode_of st n ≡ m
unfolding mode_of
mode_is Log st n h = ap mode_at (find_none (greatest (view st) n) st.blocks h.none)
mode_is Disk st n h = ap mode_at h.page
