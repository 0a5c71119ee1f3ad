-- A pool that has passed questions 5 and 6. Assumes nothing.
use Rattle.std.specs.Prelude.{◌≡◌, List, ℕ, ◌≤◌}
use Rattle.std.proofs.Common.{arith}
use Rattle.laws.specs.BigEndian.{Bytes}
use Rattle.layout.specs.Layout.{fewest_blocks, most_blocks, table_bytes}
use Rattle.account.specs.declared.Tariff.{Tariff}
use Rattle.store.specs.Checkpoint.{checkpoint_of, scores_in, score_in}
use Rattle.store.specs.Reopen.{Cells, reopened}
use Rattle.flash_blocks.specs.Pages.{pages_of}
use Rattle.mount_checkpoint.specs.Find.{complete_as, checkpoint_in}
use Rattle.mount_refines.specs.Checkpoint.Pool.{Judged}
use Rattle.mount_refines.specs.Checkpoint.Found.{Completes, found_values}

-- The score of each node in the checkpoint of a pool.
abbrev pub score_from : ℕ → Cells → ℕ → ℕ
score_from blocks c = score_in (scores_in (checkpoint_of (reopened blocks c)))

-- Its pages check, and the code has found a complete checkpoint with the work table as scratch.
pub record Known (pool : List ℕ) (blocks : ℕ) (c : Cells) (t : Tariff) (nodes since : ℕ) : Type 0 where
  pub few : fewest_blocks ≤ blocks
  pub most : blocks ≤ most_blocks
  pub bytes : Bytes pool
  pub judged : Judged pool blocks c
  pub told : checkpoint_in (pages_of pool) blocks (table_bytes blocks) ≡ complete_as t nodes since

pub completes : {pool : List ℕ} {blocks : ℕ} {c : Cells} {t : Tariff} {nodes since : ℕ} → Known pool blocks c t nodes since →
    Completes (reopened blocks c) t nodes since
completes {blocks = blocks} {t = t} {nodes = nodes} {since = since} k =
    found_values k.judged (table_bytes blocks) (omega arith) t nodes since k.told
