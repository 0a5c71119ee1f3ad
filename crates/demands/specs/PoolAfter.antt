-- From bytes to bytes: a batch on a pool of bytes that opens leaves a pool of as many bytes, and these are read back as the very pages
-- that the store has then. Assumes nothing.
use Rattle.std.specs.Prelude.{◌≡◌, List, ℕ, ◌*◌, ◌≤◌, length, Some}
use Rattle.std.proofs.Common.{sym, subst, arith}
use Rattle.laws.specs.BigEndian.{Bytes}
use Rattle.layout.specs.Layout.{block_bytes, pages_in_block, fewest_blocks, most_blocks, node_limit}
use Rattle.account.specs.declared.Tariff.{Tariff}
use Rattle.command.specs.declared.Command.{Command}
use Rattle.command.specs.Batch.{ValidAll}
use Rattle.tree.specs.Spells.{map_of}
use Rattle.store.specs.Store.{Store}
use Rattle.store_laws.specs.CellLaws.{length-cells}
use Rattle.store_laws.proofs.Closing.{close-closed}
use Rattle.store.specs.Reopen.{Cells, pool_of}
use Rattle.book.specs.Session.{at_first}
use Rattle.model.specs.State.{State, book_of}
use Rattle.model.specs.Batch.{run, closed}
use Rattle.model.specs.Mount.{opened, mount_cells}
use Rattle.model.specs.Bytes.{bytes_of, cells_of}
use Rattle.demands.specs.Says.{Sound}
use Rattle.demands.specs.Mount.{Ready, opened_mounts, mounts_ready}
use Rattle.store_laws.specs.StoreFits.{StoreFits}
use Rattle.demands.specs.BatchFits.{most_commands, AfterBatch, sound-after, closed_after}
use Rattle.demands.specs.PoolBytes.{length-bytes_of, bytes-bytes_of}
use Rattle.demands.specs.MountFits.{Enters, pool_of-fits, pool_back, bytes-enter}

-- The bytes of a state's pool.
abbrev pub pool_bytes : State → List ℕ
pool_bytes s = bytes_of (pool_of s.run.now)

pub record PoolAfter (blocks : ℕ) (s after : State) : Type 0 where
  pub batch : AfterBatch s after
  pub back : cells_of (pool_bytes after) ≡ Some (pool_of after.run.now)
  pub bytes : Bytes (pool_bytes after)
  pub size : length (pool_bytes after) ≡ block_bytes * blocks

pool-size : {blocks : ℕ} {st : Store} → StoreFits st → length st.blocks ≡ blocks → length (bytes_of (pool_of st)) ≡ block_bytes * blocks
pool-size {blocks} {st} h e =
    omega (arith, length-bytes_of (pool_of st) (pool_of-fits h), length-cells pages_in_block st.blocks)

closed-blocks : {blocks : ℕ} (t : Tariff) (s : State) → blocks ≤ most_blocks → Sound blocks s → length (closed t s).run.now.blocks ≡ blocks
unfolding closed
closed-blocks t s small v = (close-closed v small t s.score).keeps.good.invariant.rules.size

-- A BATCH ON A POOL OF BYTES
module _ {blocks : ℕ} (four : fewest_blocks ≤ blocks) (small : blocks ≤ most_blocks) (bs : List ℕ) (bytes : Bytes bs)
    (size : length bs ≡ block_bytes * blocks) {c : Cells} (reads : cells_of bs ≡ Some c) {t : Tariff} {s : State} (opens : mount_cells blocks c ≡ opened t s)
    (cs : List Command) (valid : ValidAll cs) (few : length cs ≤ most_commands) where
  enters : Enters s
  enters = bytes-enter bs bytes blocks size c reads t s opens

  ready : Ready blocks t s (book_of s) (map_of (book_of s).count (book_of s).table)
  ready =
      let o = opened_mounts opens in
      subst (λ (z : State). Ready blocks t z (book_of z) (map_of (book_of z).count (book_of z).table)) (sym o.is) (mounts_ready four o.mounts)

  pub batch_pool : PoolAfter blocks s (closed t (run (node_limit blocks) cs (at_first t) s))
  batch_pool =
      let after = closed_after small ready enters.fits enters.left cs valid few in
      let kept = closed-blocks t (run (node_limit blocks) cs (at_first t) s) small (sound-after small ready enters.fits enters.left cs valid few) in
      record {
        batch = after;
        back = pool_back after.fits.now;
        bytes = bytes-bytes_of (pool_of (closed t (run (node_limit blocks) cs (at_first t) s)).run.now);
        size = pool-size after.fits.now kept;
      }
