-- Is a table sound (document 01, question 7 and "Sound")? A walk from the root that a program can follow. Assumes nothing.
use Rattle.std.specs.Prelude.{Bool, true, false, ◌&&◌, List, [], ◌∷◌, ℕ, zero, suc, eqb, ltb, leb, length, get_or, set, replicate, Option, None, Some}
use Rattle.layout.specs.Layout.{most_keys, no_leaf, bound32}
use Rattle.pairs.specs.Pairs.{Pair}
use Rattle.node.specs.declared.Shape.TheVariants.{Leaf, Branch}
use Rattle.node.specs.Node.{Node, node}
use Rattle.node.specs.Ascends.{ascends}
use Rattle.node.specs.Search.{pointer_at}
use Rattle.tree.specs.Table.{Table}

-- What a walk carries: the leaf that must come next, and a mark for each id, 1 once it was reached.
pub record Walk : Type 0 where
  pub awaited : ℕ
  pub marks : List ℕ

-- A node is in order: its id below the count and not reached before, keys ascending and in bounds, at most 24.
unfoldable pub in_order : ℕ → ℕ → ℕ → List Pair → List ℕ → Bool
in_order id low high ps marks =
    ltb id (length marks) && (eqb (get_or marks id 0) 0 && (ascends low high ps && leb (length ps) most_keys))

-- A leaf is the one awaited, and its link says which is awaited next.
unfoldable pub visit_leaf : ℕ → ℕ → ℕ → Walk → Node → Option Walk
visit_leaf id low high w (node Branch ks last) = None
visit_leaf id low high w (node Leaf ps next) =
    elim (in_order id low high ps w.marks && eqb w.awaited id) [
      | true ↦ Some (record { awaited = next; marks = set w.marks id 1 })
      | false ↦ None
    ]

-- The children of a branch, each between the keys beside it.
unfoldable pub visit_children : (ℕ → ℕ → ℕ → Walk → Option Walk) → List Pair → ℕ → ℕ → ℕ → Walk → Option Walk
visit_children visit [] last low high w = visit last low high w
visit_children visit (p ∷ ps) last low high w =
    elim (visit p.1 low p.0 w) [ None ↦ None | Some w' ↦ visit_children visit ps last p.0 high w' ]

-- A branch has at least one key.
unfoldable pub visit_branch : (ℕ → ℕ → ℕ → Walk → Option Walk) → ℕ → ℕ → ℕ → Walk → Node → Option Walk
visit_branch visit id low high w (node Leaf ps next) = None
visit_branch visit id low high w (node Branch ks last) =
    elim (in_order id low high ks w.marks && leb 1 (length ks)) [
      | true ↦ visit_children visit ks last low high (record { awaited = w.awaited; marks = set w.marks id 1 })
      | false ↦ None
    ]

-- Leaves at one depth: a visit of depth 0 takes a leaf alone, and one above it a branch alone.
unfoldable pub visit : ℕ → Table → ℕ → ℕ → ℕ → Walk → Option Walk
visit zero table id low high w = visit_leaf id low high w (table id)
visit (suc d) table id low high w = visit_branch (visit d table) id low high w (table id)

-- How deep the leaves stand, and which is the first.
pub record Leftmost : Type 0 where
  pub depth : ℕ
  pub leaf : ℕ

-- Both by first pointers, from the root. The fuel is the node count.
unfoldable pub leftmost : ℕ → Table → ℕ → ℕ → Leftmost
leftmost zero table depth id = record { depth = depth; leaf = id }
leftmost (suc fuel) table depth id =
    elim (table id) [
      | node shape ps l ↦
          elim shape [ Leaf ↦ record { depth = depth; leaf = id } | Branch ↦ leftmost fuel table (suc depth) (pointer_at ps l 0) ]
    ]

-- Every id was reached.
unfoldable pub all_marked : List ℕ → Bool
all_marked [] = true
all_marked (m ∷ ms) = eqb m 1 && all_marked ms

-- The walk passed, the links ended in FFFFFFFF, and every id was reached.
unfoldable pub complete : Option Walk → Bool
complete None = false
complete (Some w) = eqb w.awaited no_leaf && all_marked w.marks

-- No id reached yet.
abbrev pub no_marks : ℕ → List ℕ
no_marks count = replicate count 0

-- The walk from the root, for all 32-bit keys.
unfoldable pub walk_from : ℕ → Table → Leftmost → Option Walk
walk_from count table l = visit l.depth table 0 0 bound32 (record { awaited = l.leaf; marks = no_marks count })

-- Sound: the limit kept, and a complete walk from the root.
unfoldable pub sound : ℕ → ℕ → Table → Bool
sound limit count table = leb count limit && complete (walk_from count table (leftmost count table 0 0))
