-- What a world that follows a run knows: the run's invariant with the world's own numbers, and whose the pages are while no checkpoint is
-- written. Assumes nothing.
use Rattle.std.specs.Prelude.{◌≡◌, refl, false, ℕ, ◌≤◌}
use Rattle.std.proofs.Common.{sym, ◌∙◌, subst, arith}
use Rattle.laws.specs.Tests.{test_clash}
use Rattle.layout.specs.Layout.{most_blocks}
use Rattle.store.specs.Store.{Store, view}
use Rattle.store.specs.Live.{carries, no_checkpoint}
use Rattle.store.specs.Run.{Run}
use Rattle.store_laws.specs.Placing.{Invariant}
use Rattle.flash_allocate.specs.World.{World}
use Rattle.flash_refines.specs.Store.Mirror.{Owners}
use Rattle.flash_refines.specs.Store.Follows.{Follows, Writable}

module _ {B : ℕ} {score : ℕ → ℕ} {w : World} {run : Run} (b : Writable B run) (f : Follows score w run) where
  pub blocks_are : w.state.blocks ≡ B
  blocks_are = sym f.mirrors.pages.size ∙ b.good.invariant.rules.size

  pub few_blocks : w.state.blocks ≤ most_blocks
  few_blocks = omega (arith, blocks_are, b.few)

  pub invariant_here : Invariant w.state.blocks w.state.nodes no_checkpoint run.now
  invariant_here =
      subst (λ (k : ℕ). Invariant k w.state.nodes no_checkpoint run.now) (sym blocks_are)
      (subst (λ (n : ℕ). Invariant B n no_checkpoint run.now) (sym f.nodes) b.good.invariant)

-- Each node owns the pages that carry it, and nobody owns another.
pub owners_open : (nodes checkpoint_pages : ℕ) → checkpoint_pages ≡ 0 → (st : Store) → Owners (carries (view st)) no_checkpoint nodes checkpoint_pages st
owners_open nodes checkpoint_pages none st =
    record { nodes = λ n l p. refl; checkpoint_page = λ n a b p e. absurd (omega arith); checkpoint_pages = λ p l e. absurd (test_clash false e refl) }
