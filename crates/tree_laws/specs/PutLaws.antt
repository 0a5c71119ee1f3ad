-- A put that is not refused makes a sound table that spells the map with the value at the key; it is refused exactly where its
-- requests would take the count past the limit, and then asks for nothing. Assumes nothing.
use Rattle.std.proofs.Math.Path.{◌≡◌, refl, sym}
use Rattle.std.proofs.Common.{ap, ◌∙◌}
use Rattle.std.specs.Prelude.{Bool, ℕ, suc, ◌+◌, ◌*◌, ◌≤◌, ◌<◌, Option, None, Some}
use Rattle.std.proofs.Math.Bool.{true, false}
use mathlib.Core.List.{List, [], ◌∷◌, ◌++◌, map}
use native.Mathlib.Omega.{arith}
use borrow.Author.Tests.{ltb-true, ltb-false}
use Rattle.std.proofs.Math.ListN.{length, length-append, length-map}
use Rattle.layout.specs.Layout.{bound32}
use Rattle.pairs.specs.Pairs.{Pair, lookup, insert}
use Rattle.pairs.proofs.Sizes.{length-insert-absent, length-insert-present}
use Rattle.pairs.proofs.LocalEdit.{insert_local}
use Rattle.node.specs.Node.{Node, pairs_of}
use Rattle.node.specs.Change.{Change, put}
use Rattle.tree.specs.Table.{Table, path, leaf_for}
use Rattle.tree.specs.NodeRequest.{read, edit, change_all}
use Rattle.tree.specs.Get.{get_answer}
use Rattle.tree.specs.Put.{fits_node, Work, finished, pending, settle, work, finish, write_requests, ids_needed, put_refused, put_requests}
use Rattle.tree.specs.Spells.{Spells}
use Rattle.tree_laws.specs.Settled.{put-says}
use Rattle.tree_laws.specs.Written.{final_count, write-count, write_spells, write-fits}
use Rattle.tree_laws.specs.IdsNeeded.{ids_needed_lem, finish_single}
use Rattle.tree_laws.specs.Served.{Served}
use Rattle.tree_laws.specs.GetLaws.{leaf-found, get-answer, path-found}

module _ (table : Table) (count : ℕ) (pairs : List Pair) (s : Spells table count pairs) (k v : ℕ) (small : k < bound32) where
  -- the node count that the requests would lead to
  abbrev pub count_put : ℕ
  count_put = final_count table (work table k (put k v) count (path count table k 0))

  leaf-lookup : lookup k (leaf-found table count pairs s k small).pairs ≡ lookup k pairs
  unfolding get_answer
  leaf-lookup =
      sym (ap (λ (n : Node). lookup k (pairs_of n)) (leaf-found table count pairs s k small).content) ∙ get-answer table count pairs s k small

  -- a present key: one edit behind the reads, and no new id
  pub put_replaces : (old : ℕ) → lookup k pairs ≡ Some old →
      (finish table (work table k (put k v) count (path count table k 0)) ≡ edit (leaf_for count table k 0) (put k v) ∷ []) × (count_put ≡ count)
  put_replaces old e =
      let l = leaf-found table count pairs s k small in
      finish_single table k (put k v) count count
      (rw l.content (omega (arith, l.size, length-insert-present k v old l.bottom l.top l.pairs l.within (leaf-lookup ∙ e))))

  -- a new key: the ids that document 01 counts
  pub put_adds : lookup k pairs ≡ None → count_put ≡ count + ids_needed table (path count table k 0)
  put_adds e =
      let l = leaf-found table count pairs s k small in
      ids_needed_lem table count k (put k v) (insert k v) (insert_local k v) (put-says k v) pairs s small
      (rw l.content (length-insert-absent k v l.pairs (leaf-lookup ∙ e)))

  module _ (limit : ℕ) (keeps : count ≤ limit) where
    -- refused exactly where ids would not suffice
    pub refused_past : put_refused limit count table k ≡ true → limit < count_put
    unfolding put_refused
    refused_past e = go (lookup k pairs) refl
      where
        go : (o : Option ℕ) → lookup k pairs ≡ o → limit < count_put
        go None f = omega (arith, put_adds f, ltb-true limit _ (rw (get-answer table count pairs s k small, f) at e))
        go (Some old) f = let z : ◌≡◌ {A = Bool} false true = rw (get-answer table count pairs s k small, f) at e in absurd (clash z)
          where
            clash : ◌≡◌ {A = Bool} false true → ⊥
            clash z = let y : ◌≡◌ {A = ℕ} 0 1 = cc in omega arith

    pub accepted_within : put_refused limit count table k ≡ false → count_put ≤ limit
    unfolding put_refused
    accepted_within e = go (lookup k pairs) refl
      where
        go : (o : Option ℕ) → lookup k pairs ≡ o → count_put ≤ limit
        go None f = omega (arith, put_adds f, ltb-false limit _ (rw (get-answer table count pairs s k small, f) at e))
        go (Some old) f = omega (arith, (put_replaces old f).1)

    -- a refused put asks for nothing
    pub put_refused_lem : put_refused limit count table k ≡ true → put_requests limit count table k v ≡ []
    unfolding put_requests
    put_refused_lem e = rw (e, put_requests)

    pub put-accepted : put_refused limit count table k ≡ false → put_requests limit count table k v ≡ write_requests count table k (put k v)
    unfolding put_requests
    put-accepted e = rw (e, put_requests)

    pub put-served : put_refused limit count table k ≡ false → Served limit table count (put_requests limit count table k v) (insert k v pairs)
    put-served e =
        let n = write-count table count pairs s k small (put k v) (insert k v) (insert_local k v) (put-says k v) in
        let m = accepted_within e in
        rw (put-accepted e)
        record {
          kept = rw n m;
          fits = rw n (write-fits table count pairs s k small (put k v) (insert k v) (insert_local k v) (put-says k v) limit m);
          spells = rw n (write_spells table count pairs s k small (put k v) (insert k v) (insert_local k v) (put-says k v));
        }

-- How many requests: behind the reads at most two for each node below the root, and three at it.
abbrev Few : ℕ → Work → Type 0
Few m (finished rs next) = length rs ≤ 2 * m
Few m (pending rs next edits) = (length rs ≤ 2 * m) × (length edits ≤ 2)

module _ (table : Table) (k : ℕ) (c : Change) (next : ℕ) where
  settle_few : (parent id m : ℕ) (w : Work) → Few m w → Few (suc m) (settle table k parent id w)
  unfolding settle
  settle_few parent id m (finished rs n) l = omega arith
  settle_few parent id m (pending rs n edits) l = go (fits_node (change_all edits (table id))) refl
    where
      go : (x : Bool) → fits_node (change_all edits (table id)) ≡ x → Few (suc m) (settle table k parent id (pending rs n edits))
      go true e = rw (e, settle) (omega (arith, length-append rs (map (edit id) edits), length-map edits (edit id)))
      go false e = rw (e, settle) (simp length-append (omega arith), omega arith)

  work_few : (id : ℕ) (ids : List ℕ) → Few (length ids) (work table k c next (id ∷ ids))
  unfolding work
  work_few id [] = omega arith
  work_few id (child ∷ ids) = settle_few id child (length ids) (work table k c next (child ∷ ids)) (work_few child ids)

  finish_few : (m : ℕ) (w : Work) → Few m w → length (finish table w) ≤ 2 * m + 3
  unfolding finish
  finish_few m (finished rs n) l = omega arith
  finish_few m (pending rs n edits) l = go (fits_node (change_all edits (table 0))) refl
    where
      go : (x : Bool) → fits_node (change_all edits (table 0)) ≡ x → length (finish table (pending rs n edits)) ≤ 2 * m + 3
      go true e = rw (e, finish) (omega (arith, length-append rs (map (edit 0) edits), length-map edits (edit 0)))
      go false e = rw (e, finish) (simp length-append (omega arith))

  pub write-length : (ids : List ℕ) (m : ℕ) → length ids ≡ suc m → length (map read ids ++ finish table (work table k c next ids)) ≤ 3 * m + 4
  write-length [] m e = absurd (omega arith)
  write-length (id ∷ ids) m e =
      rw (length-append (map read (id ∷ ids)) (finish table (work table k c next (id ∷ ids))), length-map (id ∷ ids) read)
      (omega (arith, finish_few (length ids) (work table k c next (id ∷ ids)) (work_few id ids)))

pub put-length : (table : Table) (count : ℕ) (pairs : List Pair) (s : Spells table count pairs) (k v limit : ℕ) → k < bound32 →
    length (put_requests limit count table k v) ≤ 3 * s.depth + 4
unfolding put_requests
put-length table count pairs s k v limit small = go (put_refused limit count table k) refl
  where
    go : (x : Bool) → put_refused limit count table k ≡ x → length (put_requests limit count table k v) ≤ 3 * s.depth + 4
    go true e = rw (e, put_requests) (omega arith)
    go false e = rw (e, put_requests) (write-length table k (put k v) count (path count table k 0) s.depth (path-found table count pairs s k small).1)
