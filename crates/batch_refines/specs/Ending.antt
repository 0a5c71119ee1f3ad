-- THE END OF A BATCH: the pool that the code's checkpoint leaves is the bytes of the model's. Assumes nothing.
use Rattle.std.specs.Prelude.{◌≡◌, ℕ, ◌+◌, ◌*◌, ◌<◌, length}
use Rattle.std.proofs.Common.{sym, subst}
use mathlib.Core.List.{List}
use Rattle.layout.specs.Layout.{block_bytes, bound32}
use Rattle.account.specs.declared.Tariff.{Tariff}
use Rattle.page.specs.Image.{image}
use Rattle.store.specs.Reopen.{pool_of}
use Rattle.store_laws.specs.Numbers.{last}
use Rattle.model.specs.State.{State}
use Rattle.model.specs.Batch.{closed}
use Rattle.model.specs.Bytes.{bytes_of}
use Rattle.flash_blocks.specs.Pages.{pages_of}
use Rattle.flash_allocate.specs.World.{World}
use Rattle.flash_checkpoint.specs.CheckpointPages.{checkpoint}
use Rattle.flash_refines.specs.Store.Mirror.{PagesAre}
use Rattle.flash_refines.specs.Store.Follows.{Writable}
use Rattle.flash_refines.specs.Checkpoint.Closing.{checkpoint_follows}
use Rattle.run_refines.specs.Commands.Lists.{Runs}
use Rattle.batch_refines.specs.PoolLeft.{pool-is}

module _ {blocks : ℕ} {w : World} {s : State} (k : Runs blocks w s) (t : Tariff) (number : 13 + last s.run < bound32) where
  writable : Writable blocks s.run
  writable = record { few = k.few; good = k.sound.good; fits = k.fits.now }

  pub pool-closed : (pool : List ℕ) → pages_of pool ≡ (checkpoint t w).pages → (checkpoint t w).state.blocks ≡ blocks → length pool ≡ block_bytes * blocks →
      pool ≡ bytes_of (pool_of (closed t s).run.now)
  unfolding closed
  pool-closed pool e b l =
      let c = checkpoint_follows writable number t k.agrees in
      pool-is blocks pool (closed t s).run.now.blocks l
      (subst (λ (n : ℕ). PagesAre n image (pages_of pool) (closed t s).run.now.blocks) b
      (subst (λ (ps : List (List ℕ)). PagesAre (checkpoint t w).state.blocks image ps (closed t s).run.now.blocks) (sym e) c.pages))
