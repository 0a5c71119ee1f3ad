-- How pages, rows and state stand for a store: each page is the image of the model's page there, a row names exactly the pages that its node
-- lies on, and its version, mode and number of pages are the node's.
use Rattle.std.specs.Prelude.{◌≡◌, Bool, true, false, List, ℕ, ◌+◌, ◌*◌, ◌≤◌, ◌<◌, length, get_or, Option, None, Some, slice_get}
use Rattle.laws.specs.Counts.{tally}
use Rattle.laws.specs.Options.{test}
use Rattle.account.specs.declared.Mode.{Mode}
use Rattle.account.specs.declared.Mode.TheVariants.{Log, Disk}
use Rattle.page.specs.Page.{Page, sequence}
use Rattle.store.specs.Pool.{Blocks, block, numbered}
use Rattle.store.specs.View.{greatest, pages}
use Rattle.store.specs.Store.{Store, view}
use Rattle.store.specs.Live.{carries}
use Rattle.store_laws.specs.Versions.{OnPage}
use Rattle.flash_rows.specs.Row.{no_row}
use Rattle.flash_rows.specs.Step.{names}
use Rattle.flash_rows.specs.declared.Row.{Row}
use Rattle.flash_blocks.specs.Pages.{blank_page, page_at, is_blank}
use Rattle.flash_allocate.specs.World.{World, used}

-- The row of a number.
abbrev pub row_at : List Row → ℕ → Row
row_at rows n = get_or rows n no_row

-- The bytes of a place: those of the page written there, or blank.
abbrev pub image_at : (Page → List ℕ) → Option Page → List ℕ
image_at image None = blank_page
image_at image (Some p) = image p

-- No written page begins as a blank one.
pub record Images (image : Page → List ℕ) : Type 0 where
  pub written : (p : Page) → is_blank (image p) ≡ false

-- The pages of B blocks are the images of the model's.
pub record PagesAre (B : ℕ) (image : Page → List ℕ) (ps : List (List ℕ)) (bs : Blocks) : Type 0 where
  pub size : length bs ≡ B
  pub long : length ps ≡ 32 * B
  pub most : (i : ℕ) → length (block bs i) ≤ 32
  pub each : (i q : ℕ) → i < B → q < 32 → page_at ps (32 * i + q) ≡ image_at image (slice_get (block bs i) q)

-- Each row in use names the pages that are its own, and no other of the pool.
pub record RowsName (B rows_used : ℕ) (own : ℕ → Page → Bool) (rows : List Row) (bs : Blocks) : Type 0 where
  pub long : rows_used ≤ length rows
  pub each : (n i q : ℕ) → n < rows_used → i < B → q < 32 → names (32 * i + q) (row_at rows n) ≡ test (own n) (slice_get (block bs i) q)

-- A row's mode is what the store says: no page has a log node's version for its number, and the page that has a disk node's is its node
-- page. A node that lies nowhere has version 0, and its row is a log node's.
abbrev pub RowMode : Mode → Store → ℕ → Type 0
RowMode Log st n = tally (numbered (greatest (view st) n)) st.blocks ≡ 0
RowMode Disk st n = OnPage st n

-- The rows of nodes say what the store says of them.
pub record RowsSay (node_count : ℕ) (rows : List Row) (st : Store) : Type 0 where
  pub version : (n : ℕ) → n < node_count → (row_at rows n).version ≡ greatest (view st) n
  pub mode : (n : ℕ) → n < node_count → RowMode (row_at rows n).mode st n
  pub pages : (n : ℕ) → n < node_count → (row_at rows n).pages ≡ pages (view st) n

-- A node's row owns the pages that carry the node; the rows behind them own the pages of the checkpoint being written, as far as their
-- numbers are taken.
pub record Owners (own : ℕ → Page → Bool) (closing : Page → Bool) (node_count page_count : ℕ) (st : Store) : Type 0 where
  pub nodes : (n : ℕ) → n < node_count → (p : Page) → own n p ≡ carries (view st) n p
  pub checkpoint_page : (n : ℕ) → node_count ≤ n → n < node_count + page_count → (p : Page) → own n p ≡ true → closing p ≡ true
  pub checkpoint_pages : (p : Page) → sequence p ≤ st.last → closing p ≡ true → (n : ℕ) × (node_count ≤ n) × (n < node_count + page_count) × (own n p ≡ true)

-- A world stands for a store, up to the log buffer.
pub record Mirrors (image : Page → List ℕ) (own : ℕ → Page → Bool) (closing : Page → Bool) (w : World) (st : Store) : Type 0 where
  pub pages : PagesAre w.state.blocks image w.pages st.blocks
  pub names : RowsName w.state.blocks (used w.state) own w.table.rows st.blocks
  pub owners : Owners own closing w.state.nodes w.state.checkpoint st
  pub rows : RowsSay w.state.nodes w.table.rows st
  pub current : w.state.current ≡ st.current
  pub fill : w.state.fill ≡ length (block st.blocks st.current)
  pub last : w.state.last ≡ st.last
