-- Hang (command 02): which puts are refused, and the node requests of the others, with every split (document 01, "Questions
-- before the work", number 9, and "Nodes and tree"). Assumes nothing.
use Rattle.std.specs.Prelude.{Bool, true, false, ◌&&◌, List, [], ◌∷◌, ◌++◌, map, ℕ, suc, ◌+◌, eqb, ltb, leb, length, Option, None, Some}
use Rattle.layout.specs.Layout.{most_keys}
use Rattle.pairs.specs.Pairs.{Pair}
use Rattle.node.specs.declared.Shape.TheVariants.{Branch}
use Rattle.node.specs.Node.{Node, node, pairs_of}
use Rattle.node.specs.Change.{Change, put, link}
use Rattle.node.specs.Halves.{lower_half, middle_key, upper_half}
use Rattle.node.specs.Search.{key_at}
use Rattle.tree.specs.Table.{Table, slot, path}
use Rattle.tree.specs.NodeRequest.{NodeRequest, edit, rewrite, create, change_all}
use Rattle.tree.specs.Get.{reads_to, get_answer}

-- The old pointer to the left names the right: the slot that led to the left, by its key or as the last pointer.
unfoldable pub renamed : ℕ → List Pair → ℕ → Change
renamed j ks right = elim (ltb j (length ks)) [ true ↦ put (key_at ks j) right | false ↦ link Branch right ]

-- The parent's two edits: the right's first key, or the risen one, with the left as pointer; then the old pointer.
abbrev pub parent_edits : ℕ → Node → ℕ → ℕ → ℕ → List Change
parent_edits k parent middle left right = put middle left ∷ renamed (slot k (pairs_of parent)) (pairs_of parent) right ∷ []

-- At most 24 keys.
abbrev pub fits_node : Node → Bool
fits_node n = leb (length (pairs_of n)) most_keys

-- The work goes leaf upwards: it is finished, or the node that it has come to has still to take edits. With it go the requests
-- made so far and the next id.
pub data Work : Type 0 where
  finished : List NodeRequest → ℕ → Work
  pending : List NodeRequest → ℕ → List Change → Work

-- A node below the root takes its edits: where at most 24 keys come of it, each is a request; otherwise all go into its split,
-- a rewrite and a create, and its parent has two edits to take.
unfoldable pub settle : Table → ℕ → ℕ → ℕ → Work → Work
settle table k parent id (finished rs next) = finished rs next
settle table k parent id (pending rs next edits) =
    let whole = change_all edits (table id) in
    elim (fits_node whole) [
      | true ↦ finished (rs ++ map (edit id) edits) next
      | false ↦
          pending (rs ++ (rewrite id (lower_half whole next) ∷ create next (upper_half whole) ∷ [])) (suc next)
          (parent_edits k (table parent) (middle_key whole) id next)
    ]

-- The work of a change at a key, along a path from some node to the key's leaf, all but that node settled.
unfoldable pub work : Table → ℕ → Change → ℕ → List ℕ → Work
work table k c next [] = finished [] next
work table k c next (id ∷ []) = pending [] next (c ∷ [])
work table k c next (id ∷ child ∷ ids) = settle table k id child (work table k c next (child ∷ ids))

-- The root takes its edits: it splits into two new nodes, the lower id for the lower half, and is rewritten above them.
unfoldable pub finish : Table → Work → List NodeRequest
finish table (finished rs next) = rs
finish table (pending rs next edits) =
    let whole = change_all edits (table 0) in
    elim (fits_node whole) [
      | true ↦ rs ++ map (edit 0) edits
      | false ↦
          rs ++
          (create next (lower_half whole (suc next)) ∷
          create (suc next) (upper_half whole) ∷
          rewrite 0 (node Branch ((middle_key whole, next) ∷ []) (suc next)) ∷
          [])
    ]

-- A change at a key: all reads first, root to leaf, then the edit or the splits.
abbrev pub write_requests : ℕ → Table → ℕ → Change → List NodeRequest
write_requests count table k c = reads_to count table k ++ finish table (work table k c count (path count table k 0))

-- How many nodes of a path are full, counted from the leaf upwards without a gap.
unfoldable pub full_run : Table → List ℕ → ℕ
full_run table [] = 0
full_run table (id ∷ ids) =
    elim (leb most_keys (length (pairs_of (table id))) && eqb (full_run table ids) (length ids)) [
      | true ↦ suc (length ids)
      | false ↦ full_run table ids
    ]

-- The ids that a put of a new key needs: one for each of those, and one more if the root is among them.
unfoldable pub ids_needed : Table → List ℕ → ℕ
ids_needed table ids = elim (eqb (full_run table ids) (length ids)) [ true ↦ suc (length ids) | false ↦ full_run table ids ]

-- A present key is never refused; a new one is where the count that it leads to is past the limit.
abbrev pub refused_for : Option ℕ → ℕ → ℕ → Bool
refused_for (Some old) needed limit = false
refused_for None needed limit = ltb limit needed

-- Refusal 9: are enough node ids unused? Decided on contents, before any request.
unfoldable pub put_refused : ℕ → ℕ → Table → ℕ → Bool
put_refused limit count table k = refused_for (get_answer count table k) (count + ids_needed table (path count table k 0)) limit

-- A refused put serves no node request.
unfoldable pub put_requests : ℕ → ℕ → Table → ℕ → ℕ → List NodeRequest
put_requests limit count table k v =
    elim (put_refused limit count table k) [ true ↦ [] | false ↦ write_requests count table k (put k v) ]
