-- The code's test of two shapes is the definitions'. Assumes nothing.
use Rattle.std.specs.Prelude.{◌≡◌, Bool, refl}
use Rattle.std.proofs.Common.{◌∙◌}
use denote.Enum.Bare.{sameb}
use Rattle.node.specs.declared.Shape.{Shape}
use Rattle.node.specs.declared.Shape.TheVariants.{Leaf, Branch}
use Rattle.node.specs.contracts.Shape.{the_type}
use Rattle.node.specs.Replay.{same_shape}

pub eq-same_shape : (a b : Shape) (r : Bool) → r ≡ sameb the_type a b → r ≡ same_shape a b
eq-same_shape a b r e = e ∙ same a b
  where
    same : (a b : Shape) → sameb the_type a b ≡ same_shape a b
    same Leaf Leaf = refl
    same Leaf Branch = refl
    same Branch Leaf = refl
    same Branch Branch = refl
