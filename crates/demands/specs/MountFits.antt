-- A pool that opens is a fitting store: its pages were read from bytes, so each is within its limits, and between calls the buffer is
-- empty. So every node of the book that it says has 32-bit numbers. Assumes nothing.
use Rattle.std.specs.Prelude.{◌≡◌, List, [], ◌∷◌, ℕ, zero, suc, ◌*◌, ◌≤◌, ◌<◌, length, take, drop, None, Some}
use Rattle.std.proofs.Common.{sym, subst, arith, leb-true}
use Rattle.laws.specs.Every.{Every, none, both, every_append, every_take, every_drop}
use Rattle.laws.specs.BigEndian.{Bytes}
use Rattle.layout.specs.Layout.{block_bytes, pages_in_block, bound32, last_sequence}
use Rattle.account.specs.declared.Tariff.{Tariff}
use Rattle.page.specs.Page.{Page, page}
use Rattle.page.specs.Limits.{PageFits}
use Rattle.node.specs.Narrow.{Narrow}
use Rattle.store.specs.Pool.{Blocks}
use Rattle.store.specs.Store.{Store}
use Rattle.store_laws.specs.Numbers.{last}
use Rattle.store.specs.Reopen.{Cells, cells_in, cells, block_in, blocks_in, greatest_of, newest, store_of, reopened, pool_of}
use Rattle.model.specs.State.{State, book_of}
use Rattle.model.specs.Mount.{opened, state_of, mount_cells}
use Rattle.model.specs.Bytes.{bytes_of, cells_of}
use Rattle.demands.specs.Mount.{Mounts, opened_mounts}
use Rattle.store_laws.specs.StoreFits.{BlocksFit, StoreFits, RunFits}
use Rattle.demands.specs.NodesNarrow.{book_narrow}
use Rattle.demands.specs.PoolBytes.{CellFits, cells_of-bytes_of, cells_of-is}

-- The blocks that cells spell have no page that is not among the cells.
block_in-fits : (c : Cells) → Every CellFits c → Every PageFits (block_in c)
block_in-fits [] none = none
block_in-fits (None ∷ c) (both f e) = none
block_in-fits (Some p ∷ c) (both f e) = both {x = p} f (block_in-fits c e)

blocks_in_fit : (width k : ℕ) (c : Cells) → Every CellFits c → BlocksFit (blocks_in width k c)
blocks_in_fit width zero c e = none
blocks_in_fit width (suc k) c e =
    both (block_in-fits (take width c) (every_take width c e)) (blocks_in_fit width k (drop width c) (every_drop width c e))

-- The greatest number has 32 bits, since every one has.
greatest_of-below : (b : List Page) → Every PageFits b → greatest_of b < bound32
greatest_of-below [] none = omega arith
greatest_of-below (page s c ∷ b) (both f e) = omega (arith, f.below, greatest_of-below b e)

newest-below : (bs : Blocks) → BlocksFit bs → newest bs < bound32
newest-below [] none = omega arith
newest-below (b ∷ bs) (both f e) = omega (arith, greatest_of-below b f, newest-below bs e)

store_of-fits : (bs : Blocks) → BlocksFit bs → StoreFits (store_of bs)
store_of-fits bs e = record { pages = e; entries = none; few = omega arith; last = newest-below bs e }

-- A STORE READ FROM CELLS that fit.
pub reopened-fits : (blocks : ℕ) (c : Cells) → Every CellFits c → StoreFits (reopened blocks c)
unfolding reopened
reopened-fits blocks c e = store_of-fits (blocks_in pages_in_block blocks c) (blocks_in_fit pages_in_block blocks c e)

pub state_of-fits : (st : Store) → StoreFits st → RunFits (state_of st).run
unfolding state_of
state_of-fits st h = record { now = h; passed = none }

-- A POOL OF BYTES THAT OPENS: the state fits, its numbers have 32 bits, and enough sequence numbers are left.
pub record Enters (s : State) : Type 0 where
  pub fits : RunFits s.run
  pub narrow : (n : ℕ) → Narrow ((book_of s).table n)
  pub left : last s.run ≤ last_sequence

pub opened-enters : (blocks : ℕ) (c : Cells) (t : Tariff) (s : State) → Every CellFits c → mount_cells blocks c ≡ opened t s → Enters s
unfolding state_of
opened-enters blocks c t s e q =
    let o = opened_mounts q in
    subst Enters (sym o.is)
    (record {
      fits = state_of-fits (reopened blocks c) (reopened-fits blocks c e);
      narrow = book_narrow (state_of (reopened blocks c)) (reopened-fits blocks c e);
      left = enough o.mounts;
    })
  where
    enough : Mounts blocks c t → last (state_of (reopened blocks c)).run ≤ last_sequence
    enough m = leb-true (reopened blocks c).last last_sequence m.left

-- ---- the other way: the pool of a fitting store, as bytes

cells_in_fit : (width : ℕ) (b : List Page) → Every PageFits b → Every CellFits (cells_in width b)
unfolding cells_in
cells_in_fit zero b e = none
cells_in_fit (suc k) [] none = both {x = None} tt (cells_in_fit k [] none)
cells_in_fit (suc k) (p ∷ b) (both f e) = both {x = Some p} f (cells_in_fit k b e)

pub cells_fit : (width : ℕ) (bs : Blocks) → BlocksFit bs → Every CellFits (cells width bs)
cells_fit width [] none = none
cells_fit width (b ∷ bs) (both f e) = every_append (cells_in_fit width b f) (cells_fit width bs e)

pub pool_of-fits : {st : Store} → StoreFits st → Every CellFits (pool_of st)
pool_of-fits {st} h = cells_fit pages_in_block st.blocks h.pages

-- THE POOL THAT A FITTING STORE LEAVES is read back from its bytes.
pub pool_back : {st : Store} → StoreFits st → cells_of (bytes_of (pool_of st)) ≡ Some (pool_of st)
pool_back {st} h = cells_of-bytes_of (pool_of st) (pool_of-fits h)

-- A POOL OF BYTES of which every page checks and which opens.
pub bytes-enter : (bs : List ℕ) → Bytes bs → (blocks : ℕ) → length bs ≡ block_bytes * blocks → (c : Cells) → cells_of bs ≡ Some c →
    (t : Tariff) (s : State) → mount_cells blocks c ≡ opened t s → Enters s
bytes-enter bs bytes blocks l c e t s m =
    opened-enters blocks c t s (cells_of-is bs bytes (pages_in_block * blocks) (omega arith) c e).fits m
