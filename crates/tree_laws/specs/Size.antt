-- The node count bounds the depth, and the depth with the number of leaves, so it is fuel enough for every walk: each level adds
-- a node, and every node is counted once. Assumes nothing.
use Rattle.std.specs.Prelude.{◌≡◌, List, [], ◌∷◌, ℕ, zero, suc, ◌+◌, ◌≤◌, ◌<◌, eqb, ltb}
use Rattle.std.proofs.Common.{arith}
use Rattle.laws.specs.Counts.{bit}
use Rattle.laws.specs.Update.{sum_below, sum_below-add, sum_below-change, sum_below-zeros, sum_below_le}
use Rattle.pairs.specs.Pairs.{Pair}
use Rattle.tree.specs.Table.{Table}
use Rattle.tree.specs.Tree.{sum_of, Tree, root_of, reached}
use Rattle.tree.specs.Spells.{Spells}
use Rattle.tree_laws.specs.Ids.{id_other, used_le, id-self}
use Rattle.tree_laws.specs.Standing.{Once, root-used}

-- An id below a bound is counted once.
sum_below-id : (n id : ℕ) → id < n → sum_below n (λ i. bit (eqb i id)) ≡ 1
sum_below-id n id l =
    omega (arith, sum_below-change n (λ i. 0) (λ i. bit (eqb i id)) id l (λ i e. id_other i id e), sum_below-zeros n, id-self id)

-- The nodes and the leaves of a tree.
unfoldable pub size : (d : ℕ) → Tree d → ℕ
size zero t = 1
size (suc d) t = suc (sum_of (size d) t.1 t.2)

unfoldable pub leaves : (d : ℕ) → Tree d → ℕ
leaves zero t = 1
leaves (suc d) t = sum_of (leaves d) t.1 t.2

sum-children : {X : Type 0} (n : ℕ) (size : X → ℕ) (reach : X → ℕ → ℕ) →
    ((x : X) → ((i : ℕ) → reach x i ≤ bit (ltb i n)) → sum_below n (reach x) ≡ size x) → (xs : List (X × ℕ)) (last : X) →
    ((i : ℕ) → sum_of (λ c. reach c i) xs last ≤ bit (ltb i n)) → sum_below n (λ i. sum_of (λ c. reach c i) xs last) ≡ sum_of size xs last
sum-children n size reach h [] last o = h last o
sum-children n size reach h (x ∷ xs) last o =
    omega (
      arith,
      sum_below-add n (reach x.0) (λ i. sum_of (λ c. reach c i) xs last),
      h x.0 (λ i. omega (arith, o i)),
      sum-children n size reach h xs last (λ i. omega (arith, o i)),
    )

sum-reached : (d n : ℕ) (t : Tree d) → Once d n t → sum_below n (reached d t) ≡ size d t
unfolding reached size root_of
sum-reached zero n t o = sum_below-id n t.0 (root-used zero n t o)
sum-reached (suc d) n t o =
    omega (
      arith,
      sum_below-add n (λ i. bit (eqb i t.0)) (λ i. sum_of (λ c. reached d c i) t.1 t.2),
      sum_below-id n t.0 (root-used (suc d) n t o),
      sum-children n (size d) (reached d) (sum-reached d n) t.1 t.2 (λ i. omega (arith, o i)),
    )

-- The branches on the path to a leaf are no leaves: the first child on it has d of them, the others have their leaves.
pub depth_leaves : (d : ℕ) (t : Tree d) → d + leaves d t ≤ size d t
unfolding size leaves
depth_leaves zero t = omega arith
depth_leaves (suc d) t = omega (arith, go (depth_leaves d) t.1 t.2)
  where
    go : ((c : Tree d) → d + leaves d c ≤ size d c) → (xs : List (Tree d × ℕ)) (last : Tree d) → d + sum_of (leaves d) xs last ≤ sum_of (size d) xs last
    go h [] last = h last
    go h (x ∷ xs) last = omega (arith, h x.0, go h xs last)

pub leaves_some : (d : ℕ) (t : Tree d) → 1 ≤ leaves d t
unfolding leaves
leaves_some zero t = omega arith
leaves_some (suc d) t = go (leaves_some d) t.1 t.2
  where
    go : ((c : Tree d) → 1 ≤ leaves d c) → (xs : List (Tree d × ℕ)) (last : Tree d) → 1 ≤ sum_of (leaves d) xs last
    go h [] last = h last
    go h (x ∷ xs) last = omega (arith, h x.0)

module _ (table : Table) (count : ℕ) (pairs : List Pair) (s : Spells table count pairs) where
  pub spells_once : Once s.depth count s.tree
  spells_once i = omega (arith, s.ids i)

  pub size-count : size s.depth s.tree ≤ count
  size-count =
      rw (← sum-reached s.depth count s.tree spells_once)
      (omega (arith, sum_below_le count (reached s.depth s.tree) 1 (λ i. omega (arith, s.ids i, used_le count i))))

  pub depth_count : s.depth < count
  depth_count = omega (arith, size-count, depth_leaves s.depth s.tree, leaves_some s.depth s.tree)
