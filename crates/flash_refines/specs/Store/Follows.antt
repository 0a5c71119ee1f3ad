-- THE RELATION between code and definitions: pages, rows and state follow a run of the store. Whatever the code of a request leaves has to
-- stand in it to what the definition of that request leaves. Assumes nothing.
use Rattle.std.specs.Prelude.{◌≡◌, List, map, ℕ, ◌≤◌, ◌<◌, length}
use Rattle.layout.specs.Layout.{most_blocks}
use Rattle.page.specs.Page.{Entry}
use Rattle.page.specs.Image.{entry_bytes, image}
use Rattle.page_write.specs.Chunks.{chunks}
use Rattle.store.specs.Store.{view}
use Rattle.store.specs.Live.{carries, no_checkpoint}
use Rattle.store.specs.Run.{Run}
use Rattle.store_laws.specs.Good.{Good}
use Rattle.store_laws.specs.StoreFits.{StoreFits}
use Rattle.flash_rows.specs.Worktable.{rows_for, buffer_bytes}
use Rattle.flash_allocate.specs.World.{World}
use Rattle.flash_refines.specs.Store.Mirror.{row_at, Mirrors}

-- The log buffer's 405 bytes begin with those of the entries that wait, 15 each.
pub record BufferIs (buffer : List ℕ) (entries : ℕ) (es : List Entry) : Type 0 where
  pub size : length buffer ≡ buffer_bytes
  pub number : entries ≡ length es
  pub bytes : chunks 15 (length es) buffer 0 ≡ map entry_bytes es

-- A world follows a run while commands are carried out: each page is the image of the store's page there, each row says of its node what the
-- store says, and its score is the given one; no checkpoint is being written.
pub record Follows (score : ℕ → ℕ) (w : World) (run : Run) : Type 0 where
  pub table : rows_for w.state.blocks ≤ length w.table.rows
  pub nodes : w.state.nodes ≡ run.nodes
  pub no_checkpoint_page : w.state.checkpoint ≡ 0
  pub mirrors : Mirrors image (carries (view run.now)) no_checkpoint w run.now
  pub buffer : BufferIs w.table.buffer w.state.entries run.now.buffer
  pub scores : (n : ℕ) → n < run.nodes → (row_at w.table.rows n).score ≡ score n

-- What is known of the run itself: it is in good order, and its pages fit in bytes.
pub record Writable (B : ℕ) (run : Run) : Type 0 where
  pub few : B ≤ most_blocks
  pub good : Good B run
  pub fits : StoreFits run.now
