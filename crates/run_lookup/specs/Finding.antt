-- What the walk down and the search in its leaf find is what the definitions say. Assumes nothing.
use Rattle.std.specs.Prelude.{◌≡◌, List, ℕ, Option}
use Rattle.std.proofs.Common.{sym, ap, ◌∙◌}
use Rattle.account.specs.declared.Tariff.{Tariff}
use Rattle.pairs.specs.Pairs.{lookup}
use Rattle.node.specs.Node.{pairs_of}
use Rattle.node.specs.Value.{pairs_in}
use Rattle.command.specs.declared.Answer.{Answer}
use Rattle.command.specs.declared.Answer.TheVariants.{Got}
use Rattle.command.specs.Answer.{value_or}
use Rattle.flash_rows.specs.Worktable.{Worktable}
use Rattle.flash_allocate.specs.World.{World}
use Rattle.run_path.specs.Descend.{Arrived, DescendedAs}
use Rattle.run_lookup.specs.Value.{value_in}
use Rattle.run_lookup.specs.Get.{GotAs}

-- A walk down in a world.
module _ {P T : ℕ} {pages : List (List ℕ)} {table : Worktable} {k : ℕ} (t : Tariff) (w : World) {walk : Arrived}
    (down : DescendedAs P T pages table walk t k w) where
  pub value_in_lem : (o : Option ℕ) → o ≡ lookup k (pairs_in walk.leaf) → value_in t k w ≡ o
  value_in_lem o e = sym (e ∙ ap (λ n. lookup k (pairs_of n)) down.leaf.is)

  -- a get: the value in the leaf that it ends at
  pub got_as : (v : Option ℕ) → v ≡ lookup k (pairs_in walk.leaf) → (a : Answer) → a ≡ value_or Got v →
      GotAs P T pages table (record { charged = walk.charged; answer = a }) t k w
  got_as v e a f = record { charged = down.charged; answer = f ∙ ap (value_or Got) (sym (value_in_lem v e)) }
