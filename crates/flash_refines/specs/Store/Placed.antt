-- A page placed by the code is placed as the store's: with the rows that follow it, what the code leaves mirrors the store with the page.
-- Assumes nothing.
use Rattle.std.specs.Prelude.{◌≡◌, refl, Bool, false, List, ℕ, suc, ◌+◌, ◌≤◌, ◌<◌, set}
use Rattle.std.proofs.Common.{arith, lt-ltb}
use Rattle.layout.specs.Layout.{most_blocks, bound32}
use Rattle.wire.specs.Field.{field}
use Rattle.page.specs.Page.{Entry, Content, Page, page}
use Rattle.page.specs.Image.{image, sealed, numbered}
use Rattle.store.specs.Store.{Store}
use Rattle.store.specs.Write.{found, next, place}
use Rattle.store_laws.specs.Placing.{Invariant}
use Rattle.store_laws.proofs.Placing.{found_ready}
use Rattle.store_laws.proofs.Compaction.{found-room}
use Rattle.flash_rows.specs.Step.{names}
use Rattle.flash_rows.specs.Worktable.{Worktable}
use Rattle.flash_blocks.specs.Pages.{is_blank}
use Rattle.flash_allocate.specs.declared.state.State.{State}
use Rattle.flash_allocate.specs.World.{World, world, used, spot}
use Rattle.flash_allocate.specs.Allocate.{allocate}
use Rattle.flash_log.specs.Flush.{if_room}
use Rattle.flash_refines.specs.Store.Mirror.{row_at, Images, Owners, RowsSay, Mirrors}
use Rattle.flash_refines.specs.Store.Allocate.{Stands, Kept, found-place, allocate_mirrors}
use Rattle.flash_refines.specs.Store.Written.{spot_free, Named, stands_written}
use Rattle.flash_allocate.specs.State.{next_sequence}

-- A written page begins with the tag 10.
pub image-written : Images image
unfolding image is_blank sealed numbered field
image-written = record { written = first }
  where
    first : (p : Page) → is_blank (image p) ≡ false
    first (page s c) = refl

-- The next number, of 32 bits as the last.
pub next_number_is : (last : ℕ) → suc last < bound32 → next_sequence last ≡ suc last
unfolding next_sequence
next_number_is last l = rw (lt-ltb last 4294967295 (omega arith)) (omega arith)

module _ {own : ℕ → Page → Bool} {closing : Page → Bool} {w : World} {st : Store} (few : w.state.blocks ≤ most_blocks)
    (v : Invariant w.state.blocks w.state.nodes closing st) (h : Mirrors image own closing w st) where
  -- the place found mirrors the store's
  pub place_found : Mirrors image own closing (allocate w) (found closing w.state.nodes st)
  place_found = allocate_mirrors image-written few v h

  -- it has room
  pub room-found : (allocate w).state.fill < 32
  room-found = omega (arith, place_found.fill, found-room v)

  pub step_found : (step : World → World) → if_room step (allocate w) ≡ step (allocate w)
  unfolding if_room
  step_found step = rw (lt-ltb (allocate w).state.fill 32 room-found)

  -- what the allocation kept
  pub kept-found : Kept w (allocate w)
  kept-found = (found-place image-written few v h).kept

  abbrev here : ℕ
  here = (found closing w.state.nodes st).current

  pub stands_found : Stands image own (allocate w) (found closing w.state.nodes st).blocks here
  stands_found = record { pages = place_found.pages; names = place_found.names; current = place_found.current; fill = place_found.fill }

  pub inside_found : here < (allocate w).state.blocks
  inside_found = omega (arith, kept-found.blocks, (found_ready v).inside)

  -- No row names the page that is written next.
  pub next_free : (n : ℕ) → n < used (allocate w).state → names (spot (allocate w).state) (row_at (allocate w).table.rows n) ≡ false
  next_free = spot_free stands_found inside_found (found-room v)

  -- What is to be shown of a page in that place, and of the rows and the state that follow it.
  module _ (c : Content) (rest : List Entry) (own' : ℕ → Page → Bool) (t' : Worktable) (s' : State) where
    abbrev with : Store
    with = place closing w.state.nodes c rest st

    pub record Fills : Type 0 where
      pub blocks : s'.blocks ≡ (allocate w).state.blocks
      pub current : s'.current ≡ (allocate w).state.current
      pub fill : s'.fill ≡ (allocate w).state.fill + 1
      pub last : s'.last ≡ suc st.last
      pub named : Named stands_found inside_found (found-room v) (next st c) (used s') own' t'.rows
      pub owners : Owners own' closing s'.nodes s'.checkpoint with
      pub rows : RowsSay s'.nodes t'.rows with

    -- THE PAGE PLACED mirrors the store's.
    pub placed_mirrors : Fills → Mirrors image own' closing (world (set (allocate w).pages (spot (allocate w).state) (image (next st c))) t' s') with
    unfolding place
    placed_mirrors f =
        record {
          pages = stands.pages;
          names = stands.names;
          owners = f.owners;
          rows = f.rows;
          current = stands.current;
          fill = stands.fill;
          last = f.last;
        }
      where
        stands : Stands image own' (world (set (allocate w).pages (spot (allocate w).state) (image (next st c))) t' s') with.blocks here
        stands =
            stands_written stands_found inside_found (found-room v) (next st c) own' t' s' f.blocks f.current f.fill f.named
