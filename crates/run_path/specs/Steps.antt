-- A way down a step at a time: what is left of it from a node gives the whole. Assumes nothing.
use Rattle.std.specs.Prelude.{◌≡◌, refl, Bool, true, false, List, [], ◌∷◌, ◌++◌, ℕ, suc, ◌+◌, ◌-◌, ◌≤◌, ◌<◌, ltb, length, take, set, None}
use Rattle.std.proofs.Common.{sym, ap, ◌∙◌, append_assoc, add-one, ltb-true, ltb-false, length-set, get_or-set_same, take-suc-set}
use native.Mathlib.Omega.{arith}
use Rattle.layout.specs.Layout.{node_limit, most_blocks}
use Rattle.pairs.specs.Pairs.{Pair}
use Rattle.node.specs.declared.Shape.TheVariants.{Leaf, Branch}
use Rattle.node.specs.declared.NodeValue.{NodeValue}
use Rattle.node.specs.Node.{node}
use Rattle.node.specs.Search.{place, child_place, pointer_at, place-first, place-below}
use Rattle.node.specs.Value.{Becomes}
use Rattle.tree.specs.Table.{Table, slot, path, leaf_for, child_for}
use Rattle.tree_laws.specs.LeafOfKey.{path-leaf, leaf_for-leaf}
use Rattle.run_path.specs.Path.{PathTo}

-- The place that a key leads to is that of the first key above it, as the code searches it.
pub slot-place : (k : ℕ) (ks : List Pair) → slot k ks ≡ child_place k ks
unfolding slot place
slot-place k [] = refl
slot-place k (p ∷ ks) = go (ltb k p.0) refl (slot-place k ks)
  where
    go : (t : Bool) → ltb k p.0 ≡ t → slot k ks ≡ child_place k ks → slot k (p ∷ ks) ≡ child_place k (p ∷ ks)
    go true e r = rw (e, slot) (sym (place-first (suc k) p ks (omega (arith, ltb-true k p.0 e))))
    go false e r = rw (e, slot) (ap suc r ∙ sym (place-below (suc k) p ks (omega (arith, ltb-false k p.0 e))))

module _ (table : Table) (k id : ℕ) where
  -- at a branch
  module _ (ks : List Pair) (last : ℕ) (e : table id ≡ node Branch ks last) where
    abbrev next : ℕ
    next = pointer_at ks last (child_place k ks)

    pub path-branch : (fuel : ℕ) → path (suc fuel) table k id ≡ id ∷ path fuel table k next
    unfolding path
    path-branch fuel = rw (e, path) (ap (λ (j : ℕ). id ∷ path fuel table k (pointer_at ks last j)) (slot-place k ks))

    pub leaf-below : (fuel : ℕ) → leaf_for (suc fuel) table k id ≡ leaf_for fuel table k next
    unfolding leaf_for
    leaf-below fuel = rw (e, leaf_for) (ap (λ (j : ℕ). leaf_for fuel table k (pointer_at ks last j)) (slot-place k ks))

-- After i steps of so many: the ids so far, and the node that the path has come to.
pub record Down (table : Table) (steps k : ℕ) (ids : List ℕ) (id i : ℕ) : Type 0 where
  pub within : i ≤ steps
  pub long : steps < length ids
  pub room : length ids ≡ node_limit most_blocks
  pub on_path : take i ids ++ path (steps - i) table k id ≡ path steps table k 0
  pub leaf : leaf_for (steps - i) table k id ≡ leaf_for steps table k 0

pub down_start : (table : Table) (nodes k : ℕ) (ids : List ℕ) → nodes ≤ node_limit most_blocks → length ids ≡ node_limit most_blocks →
    Down table (nodes - 1) k ids 0 0
down_start table nodes k ids l e =
    let none : nodes - 1 - 0 ≡ nodes - 1 = omega arith in
    record {
      within = omega arith;
      long = omega arith;
      room = e;
      on_path = ap (λ (n : ℕ). path n table k 0) none;
      leaf = ap (λ (n : ℕ). leaf_for n table k 0) none;
    }

module _ {table : Table} {steps k : ℕ} {ids : List ℕ} {id i : ℕ} (d : Down table steps k ids id i) where
  noted : take (i + 1) (set ids i id) ≡ take i ids ++ (id ∷ [])
  noted = rw (add-one i) (take-suc-set ids i id (omega (arith, d.within, d.long)))

  -- one step more, from a branch
  pub down_more : i < steps → (ks : List Pair) (last : ℕ) → table id ≡ node Branch ks last →
      Down table steps k (set ids i id) (pointer_at ks last (child_place k ks)) (i + 1)
  down_more l ks last e =
      let f : steps - i ≡ suc (steps - (i + 1)) = omega arith in
      let next : ℕ = pointer_at ks last (child_place k ks) in
      record {
        within = omega arith;
        long = omega (arith, length-set ids i id, d.long);
        room = length-set ids i id ∙ d.room;
        on_path =
            ap (λ (xs : List ℕ). xs ++ path (steps - (i + 1)) table k next) noted ∙
            append_assoc (take i ids) (id ∷ []) (path (steps - (i + 1)) table k next) ∙
            ap (λ (xs : List ℕ). take i ids ++ xs)
            (sym (ap (λ (n : ℕ). path n table k id) f ∙ path-branch table k id ks last e (steps - (i + 1)))) ∙
            d.on_path;
        leaf = sym (ap (λ (n : ℕ). leaf_for n table k id) f ∙ leaf-below table k id ks last e (steps - (i + 1))) ∙ d.leaf;
      }

  -- the end of the path: a leaf, or no step left
  module _ (v : NodeValue) (b : Becomes v (table id)) where
    down_end : path (steps - i) table k id ≡ id ∷ [] → leaf_for (steps - i) table k id ≡ id →
        PathTo table steps k (set ids i id) (record { length = i + 1; leaf = v })
    down_end e f =
        let here : leaf_for steps table k 0 ≡ id = sym d.leaf ∙ f in
        let last : i + 1 - 1 ≡ i = omega arith in
        record {
          ids = noted ∙ ap (λ (xs : List ℕ). take i ids ++ xs) (sym e) ∙ d.on_path;
          some = omega arith;
          few = omega (arith, d.within, d.long, d.room);
          end = rw last (get_or-set_same ids i id 0 (omega (arith, d.within, d.long))) ∙ sym here;
          leaf = rw here b;
          room = length-set ids i id ∙ d.room;
        }

    pub down_leaf : (ps : List Pair) (next : ℕ) → table id ≡ node Leaf ps next → PathTo table steps k (set ids i id) (record { length = i + 1; leaf = v })
    down_leaf ps n e =
        let ends : child_for k (table id) ≡ None = ap (child_for k) e in
        down_end (path-leaf table k (steps - i) id ends) (leaf_for-leaf table k (steps - i) id ends)

    pub down_last : steps ≤ i → PathTo table steps k (set ids i id) (record { length = i + 1; leaf = v })
    unfolding path leaf_for
    down_last l =
        let none : steps - i ≡ 0 = omega arith in
        down_end (ap (λ (n : ℕ). path n table k id) none) (ap (λ (n : ℕ). leaf_for n table k id) none)
