-- A worked case, run by the definitions alone: a branch over two leaves, its walk from the root, and the children due once the root is entered.
use Rattle.std.specs.Prelude.{◌≡◌, refl, List, [], ◌∷◌, map, ℕ, zero, suc, Some}
use Rattle.laws.specs.Lay.{part}
use Rattle.laws.specs.BigEndian.{number_at}
use Rattle.layout.specs.Layout.{no_leaf, bound32}
use Rattle.node.specs.declared.Shape.TheVariants.{Leaf, Branch}
use Rattle.node.specs.Node.{Node, node}
use Rattle.node.specs.Ascends.{ascends}
use Rattle.tree.specs.Sound.{in_order, visit_leaf, visit_children, visit_branch, visit, no_marks}
use Rattle.mount_tree.specs.declared.due.Due.{Due}
use Rattle.mount_tree.specs.Due.{decode, encode, children_of}
use Rattle.mount_tree.specs.Pending.{visit_all}
use Rattle.mount_tree.specs.Area.{root_due}

three : ℕ → Node
three zero = node Branch ((5, 1) ∷ []) 2
three (suc zero) = node Leaf ((3, 30) ∷ []) 2
three (suc (suc i)) = node Leaf ((7, 70) ∷ []) no_leaf

walked : visit_all three (root_due 1 ∷ []) 0 (record { awaited = 1; marks = no_marks 3 }) ≡ Some (record { awaited = no_leaf; marks = 1 ∷ 1 ∷ 1 ∷ [] })
unfolding visit_all visit visit_branch visit_children visit_leaf in_order ascends three
walked = refl

abbrev children : List Due
children = record { id = 1; depth = 0; high = 5 } ∷ record { id = 2; depth = 0; high = bound32 } ∷ []

pushed : children_of 0 ((5, 1) ∷ []) 2 bound32 ≡ children
unfolding children_of
pushed = refl

spelled : map (λ (d : Due). decode (encode d)) children ≡ children
unfolding decode encode number_at part
spelled = refl
