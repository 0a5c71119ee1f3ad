-- A tree that a table holds: it stands in any table that agrees at the ids it reaches, its pairs are within its bounds, and
-- every node that it reaches is neat. Assumes nothing.
use Rattle.std.specs.Prelude.{◌≡◌, ◌⊎◌, ℕ, zero, suc, ◌≤◌, ◌<◌, eqb, ltb, length}
use Rattle.std.proofs.Common.{ap, ◌∙◌, inl, inr, arith}
use mathlib.Core.List.{List, [], ◌∷◌}
use Rattle.laws.specs.Counts.{bit}
use Rattle.laws.specs.Order.{eq_or, le_or}
use Rattle.layout.specs.Layout.{most_keys, bound32}
use Rattle.pairs.specs.Pairs.{Within}
use Rattle.pairs.proofs.Bounds.{within_weaken, within_tail}
use Rattle.node.specs.declared.Shape.TheVariants.{Leaf, Branch}
use Rattle.node.specs.Node.{Node, node, shape_of, pairs_of, Neat}
use Rattle.tree.specs.Table.{Table}
use Rattle.tree.specs.Tree.{keys_of, first_of, sum_of, EachChild, Tree, root_of, first_leaf, pairs_in, reached, Holds, Stands}
use Rattle.tree_laws.specs.Children.{length-keys_of, join_of_within, each_keep, child_at, sum_of-child_at}
use Rattle.tree_laws.specs.Ids.{id-self, id_other, used-below}

-- The ids that a tree reaches are in use, each once.
abbrev pub Once : (d count : ℕ) → Tree d → Type 0
Once d count t = (i : ℕ) → reached d t i ≤ bit (ltb i count)

pub reached-root : (d : ℕ) (t : Tree d) → 1 ≤ reached d t (root_of d t)
unfolding reached root_of
reached-root zero t = omega (arith, id-self t.0)
reached-root (suc d) t = omega (arith, id-self t.0)

pub root-used : (d count : ℕ) (t : Tree d) → Once d count t → root_of d t < count
root-used d count t o = used-below count (root_of d t) (omega (arith, o (root_of d t), reached-root d t))

pub once_child : (d count : ℕ) (t : Tree (suc d)) (j : ℕ) → Once (suc d) count t → Once d count (child_at t.1 t.2 j)
unfolding reached
once_child d count t j o i = omega (arith, o i, sum_of-child_at (λ c. reached d c i) t.1 t.2 j)

pub stands_keep : (d : ℕ) (table table' : Table) (t : Tree d) (low high next : ℕ) → ((i : ℕ) → 1 ≤ reached d t i → table' i ≡ table i) →
    Stands d table t low high next → Stands d table' t low high next
unfolding Holds reached root_of
stands_keep zero table table' t low high next e h = (e t.0 (omega (arith, id-self t.0)) ∙ h.0, h.1, h.2)
stands_keep (suc d) table table' t low high next e h = (
  e t.0 (omega (arith, id-self t.0)) ∙ h.0,
  h.1,
  h.2,
  h.3,
  each_keep (first_leaf d) (reached d) (λ i. table' i ≡ table i) (Stands d table) (Stands d table') (stands_keep d table table') t.1 t.2
      low high next (λ i l. e i (omega arith)) h.4,
)

-- The same for a tree that is held but for its top.
pub holds-keep : (d : ℕ) (table table' : Table) (t : Tree d) (low high next most : ℕ) (top : Node) →
    ((i : ℕ) → suc (bit (eqb i (root_of d t))) ≤ reached d t i → table' i ≡ table i) → Holds d table t low high next most top →
    Holds d table' t low high next most top
unfolding Holds reached root_of
holds-keep zero table table' t low high next most top e h = h
holds-keep (suc d) table table' t low high next most top e h = (
  h.0,
  h.1,
  h.2,
  h.3,
  each_keep (first_leaf d) (reached d) (λ i. table' i ≡ table i) (Stands d table) (Stands d table') (stands_keep d table table') t.1 t.2
      low high next (λ i l. e i (omega arith)) h.4,
)

pub holds-size : (d : ℕ) (table : Table) (t : Tree d) (low high next most most' : ℕ) (top : Node) → length (pairs_of top) ≤ most' →
    Holds d table t low high next most top → Holds d table t low high next most' top
unfolding Holds
holds-size zero table t low high next most most' top l h = (h.0, h.1, omega (arith, ap (λ (n : Node). length (pairs_of n)) h.0))
holds-size (suc d) table t low high next most most' top l h =
    (h.0, h.1, omega (arith, ap (λ (n : Node). length (pairs_of n)) h.0, length-keys_of (root_of d) t.1), h.3, h.4)

pub holds_within : (d : ℕ) (table : Table) (t : Tree d) (low high next most : ℕ) (top : Node) → low ≤ high →
    Holds d table t low high next most top → Within low high (pairs_in d t)
unfolding Holds pairs_in
holds_within zero table t low high next most top l h = h.1
holds_within (suc d) table t low high next most top l h =
    join_of_within (root_of d) (first_leaf d) (pairs_in d) (Stands d table)
    (λ c low high next l s. holds_within d table c low high next most_keys (table (root_of d c)) l s) t.1 t.2 low high next l h.1 h.4

pub stands_within : (d : ℕ) (table : Table) (t : Tree d) (low high next : ℕ) → low ≤ high → Stands d table t low high next →
    Within low high (pairs_in d t)
stands_within d table t low high next l s = holds_within d table t low high next most_keys (table (root_of d t)) l s

-- The top of a tree that is held has its keys within the bounds.
pub holds-keys : (d : ℕ) (table : Table) (t : Tree d) (low high next most : ℕ) (top : Node) → Holds d table t low high next most top →
    Within low high (pairs_of top)
unfolding Holds
holds-keys zero table t low high next most top h = rw h.0 h.1
holds-keys (suc d) table t low high next most top h = rw h.0 h.1

pub holds_most : (d : ℕ) (table : Table) (t : Tree d) (low high next most : ℕ) (top : Node) → Holds d table t low high next most top →
    length (pairs_of top) ≤ most
unfolding Holds
holds_most zero table t low high next most top h = rw h.0 h.2
holds_most (suc d) table t low high next most top h = rw h.0 (omega (arith, length-keys_of (root_of d) t.1, h.2))

pub neat_within : (low high : ℕ) (n : Node) → high ≤ bound32 → Within low high (pairs_of n) → length (pairs_of n) ≤ most_keys → Neat n
neat_within low high n l w s = record { keys = within_weaken low 0 high bound32 (pairs_of n) (omega arith) l w; size = s }

-- What holds of every node that a standing tree reaches.
module _ {X : Type 0} (id_of first : X → ℕ) (reach : X → ℕ → ℕ) (S : X → ℕ → ℕ → ℕ → Type 0) (P : ℕ → Type 0)
    (child : (x : X) (low high next : ℕ) → high ≤ bound32 → S x low high next → (i : ℕ) → 1 ≤ reach x i → P i) where
  each_reached : (xs : List (X × ℕ)) (last : X) (low high next : ℕ) → high ≤ bound32 → Within low high (keys_of id_of xs) →
      EachChild first S xs last low high next → (i : ℕ) → 1 ≤ sum_of (λ c. reach c i) xs last → P i
  unfolding Within
  each_reached [] last low high next b w e i l = child last low high next b e i l
  each_reached (x ∷ xs) last low high next b w e i l =
      go (le_or 1 (reach x.0 i))
      (each_reached xs last x.1 high next b (within_tail low high (x.1, id_of x.0) (keys_of id_of xs) w) e.1 i)
    where
      go : (1 ≤ reach x.0 i) ⊎ (reach x.0 i < 1) → (1 ≤ sum_of (λ c. reach c i) xs last → P i) → P i
      go (inl r) rest = child x.0 low x.1 (first_of first xs last) (omega arith) e.0 i r
      go (inr r) rest = rest (omega arith)

-- A node of a sound tree: neat, and a branch has "at least one key".
pub record Proper (n : Node) : Type 0 where
  pub neat : Neat n
  pub keyed : shape_of n ≡ Branch → 1 ≤ length (pairs_of n)

pub leaf_no_branch : Leaf ≡ Branch → ⊥
leaf_no_branch e = let z : ◌≡◌ {A = ℕ} 0 1 = cc in omega arith

pub stands_proper : (d : ℕ) (table : Table) (t : Tree d) (low high next : ℕ) → high ≤ bound32 → Stands d table t low high next →
    (i : ℕ) → 1 ≤ reached d t i → Proper (table i)
unfolding Holds reached root_of
stands_proper zero table t low high next b h i l = go (eq_or i t.0)
  where
    go : (i ≡ t.0) ⊎ (i ≡ t.0 → ⊥) → Proper (table i)
    go (inl e) =
        rw (e, h.0)
        (record { neat = neat_within low high (node Leaf t.1 next) b h.1 h.2; keyed = λ k. absurd (leaf_no_branch k) })
    go (inr e) = absurd (omega (arith, id_other i t.0 e))
stands_proper (suc d) table t low high next b h i l = go (eq_or i t.0) (stands_proper d table)
  where
    go : (i ≡ t.0) ⊎ (i ≡ t.0 → ⊥) →
        ((c : Tree d) (low high next : ℕ) → high ≤ bound32 → Stands d table c low high next → (i : ℕ) → 1 ≤ reached d c i → Proper (table i)) →
        Proper (table i)
    go (inl e) r =
        rw (e, h.0)
        (record {
          neat =
              neat_within low high (node Branch (keys_of (root_of d) t.1) _) b h.1
              (omega (arith, length-keys_of (root_of d) t.1, h.2));
          keyed = λ k. omega (arith, length-keys_of (root_of d) t.1, h.3);
        })
    go (inr e) r =
        each_reached (root_of d) (first_leaf d) (reached d) (Stands d table) (λ i. Proper (table i)) r t.1 t.2 low high next b h.1 h.4 i
        (omega (arith, id_other i t.0 e))
