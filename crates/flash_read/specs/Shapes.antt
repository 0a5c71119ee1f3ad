-- A node by value of one kind, known by the test of its kind. Assumes nothing.
use Rattle.std.specs.Prelude.{◌≡◌, refl, Bool, true, false}
use Rattle.std.proofs.Common.{sym, ap, ◌∙◌, true≢false}
use Rattle.node.specs.declared.Shape.{Shape}
use Rattle.node.specs.declared.Shape.TheVariants.{Leaf, Branch}
use Rattle.node.specs.declared.NodeValue.{NodeValue}
use Rattle.node.specs.Node.{Node, node}
use Rattle.node.specs.Replay.{same_shape}
use Rattle.node.specs.Value.{pairs_in, node_of}

shape_same : (a b : Shape) → same_shape a b ≡ true → a ≡ b
shape_same Leaf Leaf e = refl
shape_same Leaf Branch e = absurd (true≢false (sym e))
shape_same Branch Leaf e = absurd (true≢false (sym e))
shape_same Branch Branch e = refl

no_leaf_lem : (a : Shape) → same_shape a Leaf ≡ false → a ≡ Branch
no_leaf_lem Leaf e = absurd (true≢false e)
no_leaf_lem Branch e = refl

-- The node that a value stands for, by the answer of the test.
module _ (v : NodeValue) (n : Node) (is : node_of v ≡ n) (leaf : Bool) (test : leaf ≡ same_shape v.shape Leaf) where
  of_shape : (shape : Shape) → v.shape ≡ shape → n ≡ node shape (pairs_in v) v.link
  of_shape shape e = sym is ∙ ap (λ (k : Shape). node k (pairs_in v) v.link) e

  pub is_leaf : leaf ≡ true → n ≡ node Leaf (pairs_in v) v.link
  is_leaf e = of_shape Leaf (shape_same v.shape Leaf (sym test ∙ e))

  pub is-branch : leaf ≡ false → n ≡ node Branch (pairs_in v) v.link
  is-branch e = of_shape Branch (no_leaf_lem v.shape (sym test ∙ e))
