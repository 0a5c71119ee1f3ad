-- Every request of a command on a table of 32-bit numbers has 32-bit numbers, and so has the table after it: a new content is
-- made of parts of old ones, the command's own numbers, and ids. Assumes nothing.
use Rattle.std.specs.Prelude.{◌≡◌, Bool, ltb, Option, None, Some}
use Rattle.std.proofs.Math.Path.{refl}
use Rattle.std.proofs.Math.Bool.{true, false}
use mathlib.Core.List.{List, [], ◌∷◌, map}
use Prim.Native.Nat.{ℕ, zero, suc, ◌+◌, ◌≤◌, ◌<◌}
use native.Mathlib.Omega.{arith}
use Rattle.std.proofs.Math.ListN.{length}
use Rattle.laws.specs.Every.{Every, none, both, every_append, every_weaken, every_map, every_take, every_drop}
use Rattle.layout.specs.Layout.{kept_keys, bound32}
use Rattle.pairs.specs.Pairs.{Pair}
use Rattle.pairs.proofs.Members.{every-insert, every-delete}
use Rattle.node.specs.declared.Shape.TheVariants.{Leaf, Branch}
use Rattle.node.specs.Node.{Node, node, pairs_of}
use Rattle.node.specs.Change.{Change, put, remove, link, change}
use Rattle.node.specs.Halves.{lower_half, middle_key, upper_half}
use Rattle.node.specs.Search.{key_at, pointer_at}
use Rattle.tree.specs.Table.{Table, slot, path, leaf_for}
use Rattle.tree.specs.NodeRequest.{read, edit, rewrite, change_all}
use Rattle.tree.specs.Get.{get_answer}
use Rattle.tree.specs.Put.{renamed, fits_node, Work, finished, pending, settle, work, finish, put_refused, put_requests}
use Rattle.tree.specs.Delete.{deletion_for, delete_requests}
use Rattle.tree.specs.Spells.{Spells}
use Rattle.tree_laws.specs.Size.{depth_count}
use Rattle.tree_laws.specs.GetLaws.{path-found}
use Rattle.node.specs.Narrow.{NarrowPair, Narrow, NarrowChange}
use Rattle.tree.specs.Narrow.{NarrowRequest}

key_at_narrow : (ps : List Pair) (j : ℕ) → Every NarrowPair ps → key_at ps j < bound32
key_at_narrow [] j e = omega arith
key_at_narrow (p ∷ ps) zero (both x e) = x.0
key_at_narrow (p ∷ ps) (suc j) (both x e) = key_at_narrow ps j e

pointer_at_narrow : (ps : List Pair) (last j : ℕ) → last < bound32 → Every NarrowPair ps → pointer_at ps last j < bound32
pointer_at_narrow [] last j l e = l
pointer_at_narrow (p ∷ ps) last zero l (both x e) = x.1
pointer_at_narrow (p ∷ ps) last (suc j) l (both x e) = pointer_at_narrow ps last j l e

-- A node after changes, and its halves.
pub change_narrow : (c : Change) (n : Node) → NarrowChange c → Narrow n → Narrow (change c n)
change_narrow (put k p) (node shape ps l) c n = record { pairs = every-insert k p ps c n.pairs; last = n.last }
change_narrow (remove k) (node shape ps l) c n = record { pairs = every-delete k ps n.pairs; last = n.last }
change_narrow (link kind' p) (node shape ps l) c n = record { pairs = n.pairs; last = c }

pub change_all_narrow : (cs : List Change) (n : Node) → Every NarrowChange cs → Narrow n → Narrow (change_all cs n)
change_all_narrow [] n none w = w
change_all_narrow (c ∷ cs) n (both x e) w = change_all_narrow cs (change c n) e (change_narrow c n x w)

lower_half_narrow : (n : Node) (upper : ℕ) → upper < bound32 → Narrow n → Narrow (lower_half n upper)
unfolding lower_half
lower_half_narrow (node Leaf ps next) upper l w = record { pairs = every_take kept_keys ps w.pairs; last = l }
lower_half_narrow (node Branch ks last) upper l w =
    record { pairs = every_take kept_keys ks w.pairs; last = pointer_at_narrow ks last kept_keys w.last w.pairs }

upper_half_narrow : (n : Node) → Narrow n → Narrow (upper_half n)
unfolding upper_half
upper_half_narrow (node Leaf ps next) w = record { pairs = every_drop kept_keys ps w.pairs; last = w.last }
upper_half_narrow (node Branch ks last) w = record { pairs = every_drop (suc kept_keys) ks w.pairs; last = w.last }

middle_key_narrow : (n : Node) → Narrow n → middle_key n < bound32
unfolding middle_key
middle_key_narrow n w = key_at_narrow (pairs_of n) kept_keys w.pairs

renamed_narrow : (j : ℕ) (ks : List Pair) (right : ℕ) → right < bound32 → Every NarrowPair ks → NarrowChange (renamed j ks right)
unfolding renamed
renamed_narrow j ks right l e = go (ltb j (length ks)) refl
  where
    go : (b : Bool) → ltb j (length ks) ≡ b → NarrowChange (renamed j ks right)
    go true f = rw (f, renamed) (key_at_narrow ks j e, l)
    go false f = rw (f, renamed) l

-- The requests of a write, along a path of narrow nodes. The ids in use, and those that the path may take, are narrow too.
abbrev NarrowWork : ℕ → Work → Type 0
NarrowWork bound (finished rs next) = Every NarrowRequest rs × (next ≤ bound)
NarrowWork bound (pending rs next edits) = Every NarrowRequest rs × Every NarrowChange edits × (next ≤ bound)

module _ (table : Table) (k : ℕ) where
  settle_narrow : (parent id bound : ℕ) (w : Work) → bound < bound32 → id < bound32 → Narrow (table parent) → Narrow (table id) →
      NarrowWork bound w → NarrowWork (suc bound) (settle table k parent id w)
  unfolding settle
  settle_narrow parent id bound (finished rs next) b i p n w = (w.0, omega arith)
  settle_narrow parent id bound (pending rs next edits) b i p n w = go (fits_node whole) refl
    where
      whole : Node
      whole = change_all edits (table id)

      narrow : Narrow whole
      narrow = change_all_narrow edits (table id) w.1 n

      go : (x : Bool) → fits_node (change_all edits (table id)) ≡ x → NarrowWork (suc bound) (settle table k parent id (pending rs next edits))
      go true e = rw (e, settle) (every_append w.0 (every_map (edit id) w.1), omega arith)
      go false e =
          rw (e, settle) (
            every_append w.0 (both (lower_half_narrow whole next (omega arith) narrow) (both (upper_half_narrow whole narrow) none)),
            both {x = put (middle_key whole) id} (middle_key_narrow whole narrow, i)
                (both {x = renamed (slot k (pairs_of (table parent))) (pairs_of (table parent)) next}
                (renamed_narrow (slot k (pairs_of (table parent))) (pairs_of (table parent)) next (omega arith) p.pairs) none),
            omega arith,
          )

  work_narrow : (c : Change) (next id : ℕ) (ids : List ℕ) → NarrowChange c → next + length ids < bound32 →
      Every (λ i. Narrow (table i) × (i < bound32)) (id ∷ ids) → NarrowWork (next + length ids) (work table k c next (id ∷ ids))
  unfolding work
  work_narrow c next id [] n b e = (none, both n none, omega arith)
  work_narrow c next id (child ∷ ids) n b (both x (both y e)) =
      let bigger : next + suc (length ids) ≡ suc (next + length ids) = omega arith in
      rw bigger
      (settle_narrow id child (next + length ids) (work table k c next (child ∷ ids)) (omega arith) y.1 x.0 y.0
      (work_narrow c next child ids n (omega arith) (both y e)))

  finish_narrow : (bound : ℕ) (w : Work) → suc bound < bound32 → Narrow (table 0) → NarrowWork bound w → Every NarrowRequest (finish table w)
  unfolding finish
  finish_narrow bound (finished rs next) b n w = w.0
  finish_narrow bound (pending rs next edits) b n w = go (fits_node whole) refl
    where
      whole : Node
      whole = change_all edits (table 0)

      narrow : Narrow whole
      narrow = change_all_narrow edits (table 0) w.1 n

      go : (x : Bool) → fits_node (change_all edits (table 0)) ≡ x → Every NarrowRequest (finish table (pending rs next edits))
      go true e = rw (e, finish) (every_append w.0 (every_map (edit 0) w.1))
      go false e =
          rw (e, finish)
          (every_append w.0
          (both (lower_half_narrow whole (suc next) (omega arith) narrow)
          (both (upper_half_narrow whole narrow)
          (both
          {x = rewrite 0 (node Branch ((middle_key whole, next) ∷ []) (suc next))}
          (record { pairs = both (middle_key_narrow whole narrow, omega arith) none; last = omega arith }) none))))

-- A read brings no number.
pub reads_narrow : (ids : List ℕ) → Every NarrowRequest (map read ids)
reads_narrow [] = none
reads_narrow (i ∷ ids) = both tt (reads_narrow ids)

-- On a table that spells a map, with 16-bit ids.
module _ (table : Table) (count : ℕ) (pairs : List Pair) (s : Spells table count pairs) (few : count ≤ 65536)
    (narrow : (i : ℕ) → i < count → Narrow (table i)) (k : ℕ) (small : k < bound32) where
  write_narrow : (c : Change) → NarrowChange c → Every NarrowRequest (finish table (work table k c count (path count table k 0)))
  write_narrow c n = go (path count table k 0) (path-found table count pairs s k small)
    where
      go : (ids : List ℕ) → Every (λ i. i < count) ids × (length ids ≡ suc s.depth) → Every NarrowRequest (finish table (work table k c count ids))
      go [] p = absurd (omega (arith, p.1))
      go (id ∷ ids) p =
          let deep = depth_count table count pairs s in
          finish_narrow table k (count + length ids) (work table k c count (id ∷ ids)) (omega (arith, p.1))
          (narrow 0 (omega arith))
          (work_narrow table k c count id ids n (omega (arith, p.1)) (every_weaken (λ i l. (narrow i l, omega arith)) p.0))

  pub put_narrow : (limit v : ℕ) → v < bound32 → Every NarrowRequest (put_requests limit count table k v)
  unfolding put_requests
  put_narrow limit v l = go (put_refused limit count table k) refl
    where
      go : (b : Bool) → put_refused limit count table k ≡ b → Every NarrowRequest (put_requests limit count table k v)
      go true e = rw (e, put_requests) none
      go false e = rw (e, put_requests) (every_append (reads_narrow (path count table k 0)) (write_narrow (put k v) (small, l)))

  pub delete_narrow : Every NarrowRequest (delete_requests count table k)
  unfolding delete_requests
  delete_narrow = every_append (reads_narrow (path count table k 0)) (go (get_answer count table k))
    where
      go : (o : Option ℕ) → Every NarrowRequest (deletion_for o (leaf_for count table k 0) k)
      go None = none
      go (Some old) = both small none
