-- A change that adds a pair takes exactly the ids that document 01 counts: one for each full node from the leaf upwards without a
-- gap, and one more if the root is among them. Along the path, a node splits exactly if it is full and all below it are; a change
-- whose leaf keeps at most 24 pairs is one edit. Assumes nothing.
use Rattle.std.specs.Prelude.{◌≡◌, Bool, ◌⊎◌, Option, None, Some}
use Rattle.std.proofs.Math.Path.{refl, ap}
use Rattle.std.proofs.Common.{sym, ◌∙◌, inr}
use Rattle.std.proofs.Math.Bool.{true, false}
use mathlib.Core.List.{List, [], ◌∷◌}
use Rattle.std.proofs.Math.Logic.{inl}
use Prim.Native.Nat.{ℕ, zero, suc, ◌+◌, ◌≤◌, ◌<◌}
use native.Mathlib.Omega.{arith}
use borrow.Author.Tests.{leb-true, leb-false, le-leb, lt-leb, eq-eqb, ne_eqb}
use Rattle.std.proofs.Math.Dec.{leb}
use Rattle.std.proofs.Math.ListN.{length}
use Rattle.layout.specs.Layout.{most_keys, no_leaf, bound32}
use Rattle.pairs.specs.Pairs.{Pair}
use Rattle.pairs.specs.LocalEdit.{LocalEdit}
use Rattle.node.specs.Node.{pairs_of}
use Rattle.node.specs.Change.{Change, change}
use Rattle.tree.specs.Table.{Table, slot, child_for, path, leaf_for}
use Rattle.tree.specs.NodeRequest.{NodeRequest, edit, change_all}
use Rattle.tree.specs.Put.{fits_node, Work, finished, pending, settle, work, finish, full_run, ids_needed}
use Rattle.tree.specs.Tree.{keys_of, Tree, root_of, first_leaf, pairs_in, Stands}
use Rattle.tree.specs.Spells.{Spells}
use Rattle.tree_laws.specs.Children.{low_at, high_at, next_at}
use Rattle.tree_laws.specs.Standing.{Once, once_child, holds_most}
use Rattle.tree_laws.specs.Size.{spells_once, depth_count}
use Rattle.tree_laws.specs.LeafOfKey.{child_of, child_for-branch, child_for-leaf, path-leaf, path_step, leaf_for-leaf, leaf_for_step}
use Rattle.tree_laws.specs.Growth.{child_leads, child_stands}
use Rattle.tree_laws.specs.Settled.{Says, Good, two_long, work_step, work_good}
use Rattle.tree_laws.specs.Written.{final_count}

abbrev pub size_at : Table → ℕ → ℕ
size_at table id = length (pairs_of (table id))

-- The run of full nodes, a node at a time.
module _ (table : Table) (id : ℕ) (ids : List ℕ) where
  pub full_run-full : most_keys ≤ size_at table id → full_run table ids ≡ length ids → full_run table (id ∷ ids) ≡ suc (length ids)
  unfolding full_run
  full_run-full l e = rw (le-leb most_keys (size_at table id) l, eq-eqb (full_run table ids) (length ids) e, full_run)

  pub full_run-room : size_at table id < most_keys → full_run table (id ∷ ids) ≡ full_run table ids
  unfolding full_run
  full_run-room l = rw (lt-leb most_keys (size_at table id) l, full_run)

  pub full_run_gap : full_run table ids < length ids → full_run table (id ∷ ids) ≡ full_run table ids
  unfolding full_run
  full_run_gap l = go (leb most_keys (size_at table id)) refl
    where
      go : (b : Bool) → leb most_keys (size_at table id) ≡ b → full_run table (id ∷ ids) ≡ full_run table ids
      go true e = rw (e, ne_eqb (full_run table ids) (length ids) (omega arith), full_run)
      go false e = rw (e, full_run)

-- What the work along a path has taken: finished, it met a node with room; pending, all below the node were full.
abbrev Taken : Table → ℕ → ℕ → List ℕ → Work → Type 0
Taken table count id ids (finished rs next) = (next ≡ count + full_run table (id ∷ ids)) × (full_run table (id ∷ ids) ≤ length ids)
Taken table count id ids (pending rs next edits) =
    (next ≡ count + length ids) × (full_run table ids ≡ length ids) × (length (pairs_of (change_all edits (table id))) ≡ suc (size_at table id))

module _ (table : Table) (count k : ℕ) (c : Change) (f : List Pair → List Pair) (local : LocalEdit k f)
    (says : Says c f) where
  module _ (d : ℕ) (t : Tree (suc d)) (low high link : ℕ) (a : low ≤ k) (b : k < high) (o : Once (suc d) count t)
      (h : Stands (suc d) table t low high link) (bound : high ≤ bound32) (ids : List ℕ) where
    settle-taken : (w : Work) →
        Good 0 d table count (child_of d t k) (low_at t.1 low (slot k (keys_of (root_of d) t.1)))
        (high_at t.1 high (slot k (keys_of (root_of d) t.1)))
        (next_at (first_leaf d) t.1 t.2 link (slot k (keys_of (root_of d) t.1))) (f (pairs_in d (child_of d t k))) w →
        Taken table count (root_of d (child_of d t k)) ids w →
        Taken table count t.0 (root_of d (child_of d t k) ∷ ids) (settle table k t.0 (root_of d (child_of d t k)) w)
    unfolding settle
    settle-taken (finished rs next) g m =
        let e = full_run_gap table t.0 (root_of d (child_of d t k) ∷ ids) (omega (arith, m)) in
        (omega (arith, e, m), omega (arith, e, m))
    settle-taken (pending rs next edits) g m = go (fits_node (change_all edits (table id))) refl
      where
        id : ℕ
        id = root_of d (child_of d t k)

        most : size_at table id ≤ most_keys
        most = holds_most d table (child_of d t k) _ _ _ most_keys (table id) (child_stands d table count k f local t low high link a b o h)

        go : (x : Bool) → fits_node (change_all edits (table id)) ≡ x → Taken table count t.0 (id ∷ ids) (settle table k t.0 id (pending rs next edits))
        go true e =
            let room = full_run-room table id ids (omega (arith, m.2, leb-true (length (pairs_of (change_all edits (table id)))) most_keys e)) in
            let gap = full_run_gap table t.0 (id ∷ ids) (omega (arith, room, m.1)) in
            rw (e, settle) (omega (arith, gap, room, m), omega (arith, gap, room, m))
        go false e =
            let l = leb-false (length (pairs_of (change_all edits (table id)))) most_keys e in
            let full = full_run-full table id ids (omega (arith, m.2, l)) m.1 in
            rw (e, settle)
            (omega (arith, m), full, two_long 0 d table count k f local t low high link a b o h bound rs next edits g l)

  -- the path below a node
  abbrev Below : (fuel id : ℕ) → Type 0
  Below fuel id = (ids : List ℕ) × (path fuel table k id ≡ id ∷ ids) × Taken table count id ids (work table k c count (path fuel table k id))

  work-taken : (d fuel : ℕ) (t : Tree d) (low high link : ℕ) → low ≤ k → k < high → high ≤ bound32 → d ≤ fuel → Once d count t →
      Stands d table t low high link →
      length (pairs_of (change c (table (leaf_for fuel table k (root_of d t))))) ≡ suc (size_at table (leaf_for fuel table k (root_of d t))) →
      Below fuel (root_of d t)
  unfolding work full_run root_of
  work-taken zero fuel t low high link a b bound l o h new =
      let none' = child_for-leaf table t low high link most_keys k (table (root_of zero t)) h in
      let e = path-leaf table k fuel (root_of zero t) none' in
      ([], e, rw e (omega arith, refl, rw (leaf_for-leaf table k fuel (root_of zero t) none') at new))
  work-taken (suc d) zero t low high link a b bound l o h new = absurd (omega arith)
  work-taken (suc d) (suc fuel) t low high link a b bound l o h new =
      let j = slot k (keys_of (root_of d) t.1) in
      let x = child_of d t k in
      let u = child_leads d table count k f local t low high link a b o h in
      let st = child_stands d table count k f local t low high link a b o h in
      let next = child_for-branch d table t low high link most_keys k (table (root_of (suc d) t)) h in
      let e = path_step table k fuel (root_of (suc d) t) (root_of d x) next in
      let r =
      work-taken d fuel x _ _ _ u.from u.to (omega (arith, u.under)) (omega arith) (once_child d count t j o) st
      (rw (leaf_for_step table k fuel (root_of (suc d) t) (root_of d x) next) at new) in
      let g =
      work_good 0 table count k c f local says d fuel x _ _ _ u.from u.to (omega (arith, u.under)) (omega arith)
      (once_child d count t j o) st in (
        root_of d x ∷ r.0,
        e ∙ ap {B = List ℕ} (t.0 ∷◌) r.1,
        rw (e, work_step table k c count fuel (root_of (suc d) t) (root_of d x))
            (settle-taken d t low high link a b o h bound r.0 _ g r.2),
      )

  -- the root last
  finish-taken : (ids : List ℕ) (w : Work) → size_at table 0 ≤ most_keys → Taken table count 0 ids w → final_count table w ≡ count + ids_needed table (0 ∷ ids)
  unfolding final_count ids_needed
  finish-taken ids (finished rs next) most m =
      rw (ne_eqb (full_run table (0 ∷ ids)) (suc (length ids)) (omega (arith, m)), ids_needed) m.0
  finish-taken ids (pending rs next edits) most m = go (fits_node (change_all edits (table 0))) refl
    where
      go : (x : Bool) → fits_node (change_all edits (table 0)) ≡ x → final_count table (pending rs next edits) ≡ count + ids_needed table (0 ∷ ids)
      go true e =
          let room = full_run-room table 0 ids (omega (arith, m.2, leb-true (length (pairs_of (change_all edits (table 0)))) most_keys e)) in
          rw (e, final_count, ne_eqb (full_run table (0 ∷ ids)) (suc (length ids)) (omega (arith, room, m.1)), ids_needed) (omega (arith, room, m))
      go false e =
          let full = full_run-full table 0 ids (omega (arith, m.2, leb-false (length (pairs_of (change_all edits (table 0)))) most_keys e)) m.1 in
          rw (e, final_count, eq-eqb (full_run table (0 ∷ ids)) (suc (length ids)) full, ids_needed) (omega (arith, m))

  pub ids_needed_lem : (pairs : List Pair) (s : Spells table count pairs) → k < bound32 →
      length (pairs_of (change c (table (leaf_for count table k 0)))) ≡ suc (size_at table (leaf_for count table k 0)) →
      final_count table (work table k c count (path count table k 0)) ≡ count + ids_needed table (path count table k 0)
  ids_needed_lem pairs s small new =
      let d = s.depth in
      let t = s.tree in
      let r =
      work-taken d count t 0 bound32 no_leaf (omega arith) small (omega arith) (omega (arith, depth_count table count pairs s))
      (spells_once table count pairs s) s.stands (rw s.root new) in
      let top : size_at table 0 ≤ most_keys = rw s.root at (holds_most d table t 0 bound32 no_leaf most_keys (table (root_of d t)) s.stands) in
      let e : path count table k 0 ≡ 0 ∷ r.0 = rw s.root at r.1 in
      rw (ap (ids_needed table) e) (finish-taken r.0 (work table k c count (path count table k 0)) top (rw s.root at r.2))

-- A change that leaves its leaf with at most 24 pairs is one edit and takes no id, in any table.
module _ (table : Table) (k : ℕ) (c : Change) (count : ℕ) where
  abbrev Single : ℕ → ℕ → Type 0
  Single fuel id =
      ((path fuel table k id ≡ id ∷ []) × (leaf_for fuel table k id ≡ id)) ⊎
      (work table k c count (path fuel table k id) ≡ finished (edit (leaf_for fuel table k id) c ∷ []) count)

  settle_single : (id child : ℕ) → length (pairs_of (change c (table child))) ≤ most_keys →
      settle table k id child (pending [] count (c ∷ [])) ≡ finished (edit child c ∷ []) count
  unfolding settle
  settle_single id child l = rw (le-leb (length (pairs_of (change c (table child)))) most_keys l, settle)

  settle_finished : (id child : ℕ) (rs : List NodeRequest) (next : ℕ) → settle table k id child (finished rs next) ≡ finished rs next
  unfolding settle
  settle_finished id child rs next = refl

  work-leaf-only : (id : ℕ) → work table k c count (id ∷ []) ≡ pending [] count (c ∷ [])
  unfolding work
  work-leaf-only id = refl

  work_single : (fuel id : ℕ) → length (pairs_of (change c (table (leaf_for fuel table k id)))) ≤ most_keys → Single fuel id
  unfolding path leaf_for
  work_single zero id l = inl (refl, refl)
  work_single (suc fuel) id l = go (child_for k (table id)) refl (work_single fuel)
    where
      above : (child : ℕ) → length (pairs_of (change c (table (leaf_for fuel table k child)))) ≤ most_keys → Single fuel child →
          settle table k id child (work table k c count (path fuel table k child)) ≡ finished (edit (leaf_for fuel table k child) c ∷ []) count
      above child m (inl e) = rw (e.0, e.1, work-leaf-only child) (settle_single id child (rw e.1 at m))
      above child m (inr e) = rw e (settle_finished id child (edit (leaf_for fuel table k child) c ∷ []) count)

      go : (o : Option ℕ) → child_for k (table id) ≡ o →
          ((id : ℕ) → length (pairs_of (change c (table (leaf_for fuel table k id)))) ≤ most_keys → Single fuel id) → Single (suc fuel) id
      go None e r = inl (path-leaf table k (suc fuel) id e, leaf_for-leaf table k (suc fuel) id e)
      go (Some child) e r =
          let m = rw (leaf_for_step table k fuel id child e) at l in
          inr
          (ap (work table k c count) (path_step table k fuel id child e) ∙
          (work_step table k c count fuel id child ∙
          (above child m (r child m) ∙ ap (λ (i : ℕ). finished (edit i c ∷ []) count) (sym (leaf_for_step table k fuel id child e)))))

  -- the requests behind the reads, and the count
  pub finish_single : (fuel : ℕ) → length (pairs_of (change c (table (leaf_for fuel table k 0)))) ≤ most_keys →
      (finish table (work table k c count (path fuel table k 0)) ≡ edit (leaf_for fuel table k 0) c ∷ []) ×
      (final_count table (work table k c count (path fuel table k 0)) ≡ count)
  unfolding finish final_count
  finish_single fuel l = go (work_single fuel 0 l)
    where
      go : Single fuel 0 →
          (finish table (work table k c count (path fuel table k 0)) ≡ edit (leaf_for fuel table k 0) c ∷ []) ×
          (final_count table (work table k c count (path fuel table k 0)) ≡ count)
      go (inl e) =
          let m : length (pairs_of (change c (table 0))) ≤ most_keys = rw e.1 at l in
          rw (e.0, e.1, work-leaf-only 0)
          (rw (le-leb (length (pairs_of (change c (table 0)))) most_keys m, finish), rw (le-leb (length (pairs_of (change c (table 0)))) most_keys m, final_count))
      go (inr e) = rw e (refl, refl)
