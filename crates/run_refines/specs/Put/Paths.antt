-- The path to the leaf of a key in a sound tree: branches above the leaf, and no node twice. Assumes nothing.
use Rattle.std.specs.Prelude.{◌≡◌, refl, List, [], ◌∷◌, ℕ, zero, suc, ◌≤◌, ◌<◌}
use Rattle.std.proofs.Common.{ap, arith}
use Rattle.laws.specs.Every.{Every, none, both, every_weaken}
use Rattle.layout.specs.Layout.{most_keys, no_leaf, bound32}
use Rattle.pairs.specs.Pairs.{Pair}
use Rattle.node.specs.declared.Shape.TheVariants.{Branch}
use Rattle.node.specs.Node.{shape_of}
use Rattle.tree.specs.Table.{Table, slot, path}
use Rattle.tree.specs.Tree.{keys_of, Tree, root_of, first_leaf, reached, Holds, Stands}
use Rattle.tree.specs.Spells.{Spells}
use Rattle.tree_laws.specs.Children.{child_at, each_child_at, sum_of-child_at, slot_leads}
use Rattle.tree_laws.specs.Ids.{id-self, used_le}
use Rattle.tree_laws.specs.Standing.{Once, reached-root, once_child}
use Rattle.tree_laws.specs.Size.{spells_once, depth_count}
use Rattle.tree_laws.specs.LeafOfKey.{child_of, child_for-branch, path-leaf, path_step}

abbrev pub Others : ℕ → List ℕ → Type 0
Others id ids = Every (λ (i : ℕ). i ≡ id → ⊥) ids

abbrev pub Paths : Table → List ℕ → Type 0
Paths table [] = Unit {0}
Paths table (id ∷ []) = Unit {0}
Paths table (id ∷ child ∷ ids) = (shape_of (table id) ≡ Branch) × Others id (child ∷ ids) × Paths table (child ∷ ids)

-- The root of a tree is reached once, so none of its children's paths has it.
others_of : (d count : ℕ) (t : Tree (suc d)) (j : ℕ) → Once (suc d) count t → (ids : List ℕ) →
    Every (λ (i : ℕ). 1 ≤ reached d (child_at t.1 t.2 j) i) ids → Others t.0 ids
unfolding reached
others_of d count t j o ids e =
    every_weaken
    (λ i l z.
    let same : reached d (child_at t.1 t.2 j) i ≡ reached d (child_at t.1 t.2 j) t.0 = ap (reached d (child_at t.1 t.2 j)) z in
    omega (arith, o t.0, id-self t.0, used_le count t.0, sum_of-child_at (λ c. reached d c t.0) t.1 t.2 j))
    e

reached-below : (d : ℕ) (t : Tree (suc d)) (j : ℕ) (ids : List ℕ) → Every (λ (i : ℕ). 1 ≤ reached d (child_at t.1 t.2 j) i) ids →
    Every (λ (i : ℕ). 1 ≤ reached (suc d) t i) ids
unfolding reached
reached-below d t j ids e = every_weaken (λ i l. omega (arith, sum_of-child_at (λ c. reached d c i) t.1 t.2 j)) e

-- A path below a node.
longer : (table : Table) (id child : ℕ) (ids rest : List ℕ) → ids ≡ child ∷ rest → shape_of (table id) ≡ Branch → Others id ids → Paths table ids →
    Paths table (id ∷ ids)
longer table id child ids rest e b o w = rw e (b, rw e at o, rw e at w)

pub path-head : (fuel : ℕ) (table : Table) (k id : ℕ) → (rest : List ℕ) × (path fuel table k id ≡ id ∷ rest)
unfolding path
path-head zero table k id = ([], refl)
path-head (suc fuel) table k id = (_, refl)

pub path_of : (d fuel : ℕ) (table : Table) (count k : ℕ) (t : Tree d) (low high next : ℕ) → low ≤ k → k < high → d ≤ fuel → Once d count t →
    Stands d table t low high next → Paths table (path fuel table k (root_of d t)) × Every (λ (i : ℕ). 1 ≤ reached d t i) (path fuel table k (root_of d t))
unfolding Holds root_of
path_of zero fuel table count k t low high next a b f o h =
    rw (path-leaf table k fuel t.0 (rw h.0)) (tt, both (reached-root zero t) none)
path_of (suc d) zero table count k t low high next a b f o h = absurd (omega arith)
path_of (suc d) (suc fuel) table count k t low high next a b f o h =
    let j = slot k (keys_of (root_of d) t.1) in
    let c = child_of d t k in
    let l = slot_leads (root_of d) k t.1 low high a b h.1 in
    let r =
    path_of d fuel table count k c _ _ _ l.from l.to (omega arith) (once_child d count t j o)
    (each_child_at (first_leaf d) (Stands d table) t.1 t.2 low high next j h.4) in
    let ids = path fuel table k (root_of d c) in
    let head = path-head fuel table k (root_of d c) in
    rw (path_step table k fuel t.0 (root_of d c) (child_for-branch d table t low high next most_keys k (table t.0) h)) (
      longer table t.0 (root_of d c) ids head.0 head.1 (ap shape_of h.0) (others_of d count t j o ids r.1) r.0,
      both (reached-root (suc d) t) (reached-below d t j ids r.1),
    )

-- In a table that spells a map.
pub path_walked : (table : Table) (count : ℕ) (pairs : List Pair) (s : Spells table count pairs) (k : ℕ) → k < bound32 → Paths table (path count table k 0)
path_walked table count pairs s k small =
    rw s.root at
    (path_of s.depth count table count k s.tree 0 bound32 no_leaf (omega arith) small (omega (arith, depth_count table count pairs s))
    (spells_once table count pairs s) s.stands).0
