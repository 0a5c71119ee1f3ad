-- The first leaf, a step at a time: what is left of the search from a node gives the whole. Assumes nothing.
use Rattle.std.specs.Prelude.{◌≡◌, List}
use Rattle.std.proofs.Math.Path.{ap}
use Rattle.std.proofs.Common.{◌∙◌}
use Prim.Native.Nat.{ℕ, suc, ◌+◌, ◌-◌, ◌≤◌, ◌<◌}
use native.Mathlib.Omega.{arith}
use Rattle.pairs.specs.Pairs.{Pair}
use Rattle.node.specs.declared.Shape.TheVariants.{Leaf, Branch}
use Rattle.node.specs.Node.{node}
use Rattle.node.specs.Search.{pointer_at}
use Rattle.tree.specs.Table.{Table}
use Rattle.tree.specs.Sound.{Leftmost, leftmost}
use Rattle.tree_laws.specs.SoundLaws.{leftmost-leaf, leftmost-branch}
use Rattle.mount_tree.specs.declared.first_leaf.FirstLeaf.{FirstLeaf}

abbrev pub leftmost_of : FirstLeaf → Leftmost
leftmost_of f = record { depth = f.depth; leaf = f.leaf }

-- The search from a node at a depth, where the table has so many nodes.
unfoldable pub search_from : ℕ → Table → ℕ → ℕ → Leftmost
search_from count table depth id = leftmost (count - depth) table depth id

module _ (count : ℕ) (table : Table) (depth id : ℕ) where
  pub search_end : count ≤ depth → search_from count table depth id ≡ record { depth = depth; leaf = id }
  unfolding search_from leftmost
  search_end l = let e : count - depth ≡ 0 = omega arith in rw e

  pub search_leaf : (ps : List Pair) (next : ℕ) → table id ≡ node Leaf ps next → search_from count table depth id ≡ record { depth = depth; leaf = id }
  unfolding search_from
  search_leaf ps next e = leftmost-leaf (count - depth) table depth id ps next e

  pub search_branch : (ks : List Pair) (last : ℕ) → depth < count → table id ≡ node Branch ks last →
      search_from count table depth id ≡ search_from count table (depth + 1) (pointer_at ks last 0)
  unfolding search_from
  search_branch ks last l e =
      let f : count - depth ≡ suc (count - (depth + 1)) = omega arith in
      rw f
      (leftmost-branch (count - (depth + 1)) table depth id ks last e ∙
      ap (λ (d : ℕ). leftmost (count - (depth + 1)) table d (pointer_at ks last 0)) (omega arith))

pub search_start : (count : ℕ) (table : Table) → search_from count table 0 0 ≡ leftmost count table 0 0
unfolding search_from
search_start count table = let e : count - 0 ≡ count = omega arith in rw e
