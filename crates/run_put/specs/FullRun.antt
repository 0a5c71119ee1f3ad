-- The run of full nodes of a path, counted from its leaf upwards. Assumes nothing.
use Rattle.std.specs.Prelude.{◌≡◌, List, [], ◌∷◌, get_or, drop}
use Rattle.std.proofs.Math.Path.{refl, sym, ap}
use Rattle.std.proofs.Common.{◌∙◌, subst, arith, eq-eqb, ne_eqb, drop-cons}
use Prim.Native.Nat.{ℕ, zero, suc, ◌+◌, ◌-◌, ◌≤◌, ◌<◌}
use Rattle.std.proofs.Math.ListN.{length, length-drop, drop_of_length-le}
use Rattle.layout.specs.Layout.{most_keys}
use Rattle.node.specs.declared.NodeValue.{NodeValue}
use Rattle.node.specs.Node.{Node, pairs_of}
use Rattle.node.specs.Value.{Becomes, length-pairs_in}
use Rattle.tree.specs.Table.{Table}
use Rattle.tree.specs.Put.{full_run, ids_needed}
use Rattle.tree_laws.specs.IdsNeeded.{size_at, full_run-full, full_run-room, full_run_gap}

-- A gap behind a place ends the run.
run_ends : (table : Table) (i : ℕ) (ids : List ℕ) → full_run table (drop i ids) < length (drop i ids) → full_run table ids ≡ full_run table (drop i ids)
run_ends table zero ids l = refl
run_ends table (suc i) [] l = refl
run_ends table (suc i) (id ∷ ids) l =
    let r = run_ends table i ids l in
    full_run_gap table id ids (omega (arith, length-drop i ids)) ∙ r

-- All nodes from place i on are full.
pub record Full (table : Table) (ids : List ℕ) (i : ℕ) : Type 0 where
  pub inside : i < length ids
  pub run : full_run table (drop i ids) ≡ length ids - i

module _ (table : Table) (ids : List ℕ) where
  next : (i : ℕ) → i < length ids → drop i ids ≡ get_or ids i 0 ∷ drop (suc i) ids
  next i l = drop-cons ids i 0 l

  -- from the node at place i on, where those behind it are full
  full_from : (i : ℕ) → i < length ids → most_keys ≤ size_at table (get_or ids i 0) → full_run table (drop (suc i) ids) ≡ length (drop (suc i) ids) →
      Full table ids i
  full_from i l f e =
      record {
        inside = l;
        run = ap (full_run table) (next i l) ∙ full_run-full table (get_or ids i 0) (drop (suc i) ids) f e ∙ omega (arith, length-drop (suc i) ids);
      }

  -- the leaf
  pub full-leaf : (i : ℕ) → suc i ≡ length ids → most_keys ≤ size_at table (get_or ids i 0) → Full table ids i
  unfolding full_run
  full-leaf i e f =
      let none = drop_of_length-le ids {i = suc i} (omega arith) in
      full_from i (omega arith) f (ap (full_run table) none ∙ sym (ap length none))

  -- one node more
  pub full-above : (i above : ℕ) → Full table ids i → suc above ≡ i → most_keys ≤ size_at table (get_or ids above 0) → Full table ids above
  full-above i above r e f =
      full_from above (omega (arith, r.inside)) f
      (ap (λ (j : ℕ). full_run table (drop j ids)) e ∙ r.run ∙ omega (arith, length-drop (suc above) ids))

  -- a node with room above them
  pub needed_gap : (i above : ℕ) → Full table ids i → suc above ≡ i → size_at table (get_or ids above 0) < most_keys → length ids - i ≡ ids_needed table ids
  unfolding ids_needed
  needed_gap i above r e f =
      let here : full_run table (drop above ids) ≡ length ids - i =
      ap (full_run table) (next above (omega (arith, r.inside))) ∙
      full_run-room table (get_or ids above 0) (drop (suc above) ids) f ∙
      ap (λ (j : ℕ). full_run table (drop j ids)) e ∙ r.run in
      let whole : full_run table ids ≡ length ids - i = run_ends table above ids (omega (arith, length-drop above ids, r.inside)) ∙ here in
      rw (ne_eqb (full_run table ids) (length ids) (omega (arith, r.inside)), ids_needed) (sym whole)

  -- all of them, the root too
  all_needed : Full table ids 0 → suc (length ids) ≡ ids_needed table ids
  unfolding ids_needed
  all_needed r = rw (eq-eqb (full_run table ids) (length ids) (r.run ∙ omega arith), ids_needed) refl

  pub needed_all : (i : ℕ) → Full table ids i → i ≤ 0 → length ids + 1 ≡ ids_needed table ids
  needed_all i r l =
      let zero : i ≡ 0 = omega arith in
      omega (arith, all_needed (subst (Full table ids) zero r))

-- The size of a node that was read.
pub size-read : (table : Table) (id : ℕ) (v : NodeValue) → Becomes v (table id) → size_at table id ≡ v.count
size-read table id v b = ap (λ (n : Node). length (pairs_of n)) (sym b.is) ∙ length-pairs_in v b.held.sized
