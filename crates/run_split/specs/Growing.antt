-- What a batch keeps while nodes are made: no more than the limit, so that each can be read. Assumes nothing.
use Rattle.std.specs.Prelude.{◌≡◌, refl, List, ℕ, ◌≤◌, length}
use Rattle.std.proofs.Common.{ap, ◌∙◌, arith}
use Rattle.layout.specs.Layout.{node_limit}
use Rattle.flash_rows.specs.Worktable.{Worktable}
use Rattle.flash_allocate.specs.declared.state.State.{State}
use Rattle.flash_allocate.specs.World.{World, Good, Kept}
use Rattle.flash_read.specs.NodeTable.{Readable}
use Rattle.flash_allocate.specs.declared.flash.Flash.{Flash}
use Rattle.run_serve.specs.Step.{Charged, ChargedAs}

-- Numbers in range, no more nodes than the limit, and no checkpoint begun.
pub record Growing (pool_length table_length : ℕ) (s : State) : Type 0 where
  pub good : Good pool_length table_length s
  pub limited : s.nodes ≤ node_limit s.blocks
  pub no_checkpoint_page : s.checkpoint ≡ 0

-- The same of lent buffers and their state.
abbrev pub Grows : Flash → Type 0
Grows f = Growing (length f.pool.now) (length f.table.now) f.state

-- A step's result: the world asked for, with the same blocks.
pub record Grew (pool_length table_length : ℕ) (before : State) (made right : World) : Type 0 where
  pub is : made ≡ right
  pub growing : Growing pool_length table_length made.state
  pub blocks : made.state.blocks ≡ before.blocks

-- Nothing done; requests of nodes that are there keep it.
pub grew_same : {P T : ℕ} (w : World) → Growing P T w.state → Grew P T w.state w w
grew_same w g = record { is = refl; growing = g; blocks = refl }

pub growing_kept : {P T P₀ T₀ : ℕ} {s : State} {made right : World} → Growing P₀ T₀ s → Kept P T s made right → Growing P T made.state
growing_kept g k =
    record { good = k.good; limited = omega (arith, g.limited, k.nodes, k.blocks); no_checkpoint_page = k.checkpoint ∙ g.no_checkpoint_page }

pub grew_charged : {P T P₀ T₀ : ℕ} {pages : List (List ℕ)} {table : Worktable} {r : Charged} {s : State} {m : ℕ} {right : World} {paid : ℕ} →
    Growing P₀ T₀ s → ChargedAs Kept P T pages table r s m right paid → ChargedAs Grew P T pages table r s m right paid
grew_charged g k =
    record {
      kept = record { is = k.kept.is; growing = growing_kept g k.kept; blocks = k.kept.blocks };
      charge = k.charge;
      most = k.most;
    }

-- A step after such requests.
pub grew_then : {P T P' T' : ℕ} {s : State} {a b right : World} (step : World → World) → Kept P T s a right →
    Grew P' T' a.state b (step a) → Grew P' T' s b (step right)
grew_then step k l = record { is = l.is ∙ ap step k.is; growing = l.growing; blocks = l.blocks ∙ k.blocks }

pub readable : {P : ℕ} {s : State} {table : List ℕ} → Growing P (length table) s → Readable s table
readable g =
    record {
      entries = g.good.entries;
      nodes = omega (arith, g.limited, g.good.most);
      rows = omega (arith, g.limited, g.good.most, g.good.table);
    }
