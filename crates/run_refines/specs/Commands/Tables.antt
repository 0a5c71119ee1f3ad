-- THE TABLE that the code reads is the model's: every node of a world that agrees with a state is the node that the state's book has.
-- Assumes nothing.
use Rattle.std.specs.Prelude.{◌≡◌, ◌⊎◌, ℕ, ◌≤◌, ◌<◌}
use Rattle.std.proofs.Common.{sym, ap, ◌∙◌, inl, inr, arith}
use Rattle.std.proofs.Math.Path.{fun_ext}
use Rattle.laws.specs.Order.{le_or}
use Rattle.store.specs.Store.{node_in}
use Rattle.model.specs.State.{State, book_of}
use Rattle.demands.specs.Says.{book_of_trimmed, book_of-count}
use Rattle.flash_allocate.specs.World.{World}
use Rattle.flash_refines.specs.Store.Follows.{Writable}
use Rattle.flash_refines.specs.Read.Content.{content_follows}
use Rattle.flash_read.specs.NodeTable.{table_of, table_of_in, table_of_out}
use Rattle.run_refines.specs.Commands.Lists.{Runs}

module _ {blocks : ℕ} {w : World} {s : State} (k : Runs blocks w s) where
  writable : Writable blocks s.run
  writable = record { few = k.few; good = k.sound.good; fits = k.fits.now }

  node_agrees : (n : ℕ) → (s.run.nodes ≤ n) ⊎ (n < s.run.nodes) → table_of w.pages w.table w.state n ≡ (book_of s).table n
  node_agrees n (inl l) =
      table_of_out w.pages w.table w.state n (omega (arith, k.agrees.nodes)) ∙
      sym ((book_of_trimmed s).table n (omega (arith, book_of-count s)))
  node_agrees n (inr l) =
      let there : n < (book_of s).count = omega (arith, book_of-count s) in
      table_of_in w.pages w.table w.state n (omega (arith, k.agrees.nodes)) ∙
      ap node_in (content_follows writable k.agrees n l ((book_of s).table n) (k.sound.holds n there).content (k.sound.neat n there))

  pub table_agrees : table_of w.pages w.table w.state ≡ (book_of s).table
  table_agrees = fun_ext (λ n. node_agrees n (le_or s.run.nodes n))
