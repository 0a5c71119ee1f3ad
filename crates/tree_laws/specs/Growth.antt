-- A change at one key, leaf upwards: what a subtree is after some requests, how a node takes its edits whole or in a split, and
-- what its parent is then. The frame is the ids: a subtree's requests touch no id that others reach. Assumes nothing.
use Rattle.std.specs.Prelude.{◌≡◌, ◌⊎◌, ℕ, suc, ◌+◌, ◌≤◌, ◌<◌, eqb, ltb}
use Rattle.std.proofs.Math.Path.{refl, ap}
use Rattle.std.proofs.Common.{sym, ◌∙◌, inl, inr, arith}
use mathlib.Core.List.{List, ◌++◌}
use borrow.Author.Tests.{lt-ltb, le-ltb}
use Rattle.std.proofs.Math.ListN.{length}
use Rattle.laws.specs.Counts.{bit}
use Rattle.laws.specs.Order.{le_or}
use Rattle.layout.specs.Layout.{most_keys}
use Rattle.pairs.specs.Pairs.{Pair, insert}
use Rattle.pairs.specs.LocalEdit.{LocalEdit}
use Rattle.node.specs.declared.Shape.TheVariants.{Branch}
use Rattle.node.specs.Node.{Node, node, pairs_of}
use Rattle.node.specs.Change.{change}
use Rattle.node.specs.Halves.{lower_half, middle_key, upper_half}
use Rattle.tree.specs.Table.{Table, slot}
use Rattle.tree.specs.NodeRequest.{change_all}
use Rattle.tree.specs.Put.{renamed, parent_edits}
use Rattle.tree.specs.Tree.{keys_of, Tree, root_of, first_leaf, pairs_in, reached, Holds, Stands}
use Rattle.tree_laws.specs.Children.{low_at, high_at, next_at, before, behind, others, length-keys_of, each_child_at, join_of-child_at}
use Rattle.tree_laws.specs.Children.{sum_of-child_at, Leads, slot_leads, before_within, behind_within, swap_child, swap_last, keys_of_swap}
use Rattle.tree_laws.specs.Children.{id_of_swap, length_swap, join_of_swap, sum_of_swap, first_of_swap, split_child, length-split, join_of-split}
use Rattle.tree_laws.specs.Children.{sum_of-split, first_of-split, within_split, insert-split, insert-split-last, swap_last-inside}
use Rattle.tree_laws.specs.Children.{swap_last-behind, each_swap, each_split}
use Rattle.tree_laws.specs.Ids.{id_same, id-self, used_le, used-below, used-suc}
use Rattle.tree_laws.specs.Standing.{Once, reached-root, stands_keep, holds-keep, holds-size, stands_within}
use Rattle.tree_laws.specs.LeafOfKey.{child_of}
use Rattle.tree_laws.specs.Halves.{Halved, halved}

-- A subtree after requests that took the ids from `count` up to below `next`: in its place stands a tree with other pairs,
-- whose top is to have the content `top` with at most `most` keys. Ids that it did not reach are as they were.
pub record Changed (d : ℕ) (table after : Table) (count next : ℕ) (t : Tree d) (low high link : ℕ) (pairs : List Pair) (most : ℕ) (top : Node) : Type 0 where
  pub tree : Tree d
  pub holds : Holds d after tree low high link most top
  pub root : root_of d tree ≡ root_of d t
  pub first : first_leaf d tree ≡ first_leaf d t
  pub spelled : pairs_in d tree ≡ pairs
  pub ids : (i : ℕ) → reached d tree i + bit (ltb i count) ≡ reached d t i + bit (ltb i next)
  pub grows : count ≤ next
  pub kept : (i : ℕ) → i < count → reached d t i ≡ 0 → after i ≡ table i

-- The same, cut in two: the lower half in the subtree's place, the upper at the id `right`.
pub record Parted (d : ℕ) (table after : Table) (count next : ℕ) (t : Tree d) (low high link : ℕ) (pairs : List Pair) (middle right : ℕ) : Type 0 where
  pub tree : Tree d
  pub halves : Halved d after tree low high link middle (root_of d t) right
  pub first : first_leaf d halves.lower ≡ first_leaf d t
  pub spelled : pairs_in d halves.lower ++ pairs_in d halves.upper ≡ pairs
  pub ids : (i : ℕ) →
      (reached d halves.lower i + reached d halves.upper i) + bit (ltb i count) ≡ reached d t i + bit (ltb i next)
  pub grows : count ≤ next
  pub kept : (i : ℕ) → i < count → reached d t i ≡ 0 → after i ≡ table i

-- A node that is to have a content takes it, in the table `then`.
module _ (d : ℕ) (table after then : Table) (count next : ℕ) (t : Tree d) (low high link : ℕ) (pairs : List Pair) (top : Node)
    (o : Once d count t) (c : Changed d table after count next t low high link pairs (suc most_keys) top) where
  -- below its top the new tree reaches neither the top's id nor one from `next` on
  pub inner_other : (i : ℕ) → suc (bit (eqb i (root_of d c.tree))) ≤ reached d c.tree i → i ≡ root_of d t → ⊥
  inner_other i l e =
      omega (arith, id_same i (root_of d c.tree) (e ∙ sym c.root), c.ids i, o i, used_le next i)

  pub inner_used : (i : ℕ) → 1 ≤ reached d c.tree i → i < next
  inner_used i l = used-below next i (omega (arith, c.ids i, o i))

  pub not_root : (i : ℕ) → reached d t i ≡ 0 → i ≡ root_of d t → ⊥
  not_root i z e = omega (arith, ap (reached d t) e, reached-root d t)

  pub takes_whole : length (pairs_of top) ≤ most_keys → then (root_of d t) ≡ top → ((i : ℕ) → (i ≡ root_of d t → ⊥) → then i ≡ after i) →
      Changed d table then count next t low high link pairs most_keys (then (root_of d t))
  takes_whole l own rest =
      record {
        tree = c.tree;
        holds =
            rw own
            (holds-size d then c.tree low high link (suc most_keys) most_keys top l
            (holds-keep d after then c.tree low high link (suc most_keys) top (λ i g. rest i (inner_other i g)) c.holds));
        root = c.root;
        first = c.first;
        spelled = c.spelled;
        ids = c.ids;
        grows = c.grows;
        kept = λ i l z. rest i (not_root i z) ∙ c.kept i l z;
      }

  pub takes_halves : most_keys < length (pairs_of top) → then (root_of d t) ≡ lower_half top next → then next ≡ upper_half top →
      ((i : ℕ) → (i ≡ root_of d t → ⊥) → (i ≡ next → ⊥) → then i ≡ after i) →
      Parted d table then count (suc next) t low high link pairs (middle_key top) next
  takes_halves l own new rest =
      let h =
      halved d then c.tree low high link top (root_of d t) next
      (holds-keep d after then c.tree low high link (suc most_keys) top
      (λ i g. rest i (inner_other i g) (omega (arith, inner_used i (omega arith)))) c.holds)
      l own new in
      record {
        tree = c.tree;
        halves = h;
        first = h.first (sym c.root) ∙ c.first;
        spelled = h.joined ∙ c.spelled;
        ids = λ i. omega (arith, h.ids i, c.ids i, used-suc next i, ap (λ (n : ℕ). bit (eqb i n)) c.root);
        grows = omega (arith, c.grows);
        kept = λ i l z. rest i (not_root i z) (omega (arith, c.grows)) ∙ c.kept i l z;
      }

-- One level up: the branch over the child that the key leads to.
module _ (d : ℕ) (table : Table) (count k : ℕ) (f : List Pair → List Pair) (local : LocalEdit k f) (t : Tree (suc d)) (low high link : ℕ)
    (a : low ≤ k) (b : k < high) (o : Once (suc d) count t) (h : Stands (suc d) table t low high link) where
  abbrev pub place : ℕ
  place = slot k (keys_of (root_of d) t.1)

  abbrev pub child : Tree d
  child = child_of d t k

  pub child_leads : Leads k t.1 low high place
  unfolding Holds
  child_leads = slot_leads (root_of d) k t.1 low high a b h.1

  pub child_stands : Stands d table child (low_at t.1 low place) (high_at t.1 high place) (next_at (first_leaf d) t.1 t.2 link place)
  unfolding Holds
  child_stands = each_child_at (first_leaf d) (Stands d table) t.1 t.2 low high link place h.4

  -- an edit at the key of the pairs below the branch is one of the pairs below the child
  pub join_edit : before (pairs_in d) t.1 place ++ (f (pairs_in d child) ++ behind (pairs_in d) t.1 t.2 place) ≡ f (pairs_in (suc d) t)
  unfolding Holds pairs_in
  join_edit =
      let xs = t.1 in
      let l = child_leads in
      let P = before (pairs_in d) xs place in
      let Q = behind (pairs_in d) xs t.2 place in
      rw (join_of-child_at (pairs_in d) xs t.2 place)
      (sym
      (local.right low (low_at xs low place) P (pairs_in d child ++ Q) l.from
      (before_within (root_of d) (first_leaf d) (pairs_in d) (Stands d table) (stands_within d table) xs t.2 low high link place h.1 h.4) ∙
      ap {B = List Pair} (P ++◌)
      (local.left (high_at xs high place) high (pairs_in d child) Q l.to
      (behind_within (root_of d) (first_leaf d) (pairs_in d) (Stands d table) (stands_within d table) xs t.2 low high link place (omega arith)
      h.1 h.4))))

  module _ (after : Table) (kept : (i : ℕ) → i < count → reached d child i ≡ 0 → after i ≡ table i) where
    -- what leaves all ids but the child's leaves the other children and the branch itself
    pub others-kept : (i : ℕ) → 1 ≤ others (λ c. reached d c i) t.1 t.2 place → after i ≡ table i
    unfolding reached
    others-kept i g =
        let s = sum_of-child_at (λ c. reached d c i) t.1 t.2 place in
        kept i (used-below count i (omega (arith, o i))) (omega (arith, o i, used_le count i))

    pub self-kept : after t.0 ≡ table t.0
    unfolding reached
    self-kept =
        let i = t.0 in
        let s = sum_of-child_at (λ c. reached d c i) t.1 t.2 place in
        kept i (used-below count i (omega (arith, o i, id-self i))) (omega (arith, o i, id-self i, used_le count i))

  pub rises-whole : (after : Table) (next : ℕ) →
      Changed d table after count next child (low_at t.1 low place) (high_at t.1 high place) (next_at (first_leaf d) t.1 t.2 link place)
      (f (pairs_in d child)) most_keys (after (root_of d child)) →
      Changed (suc d) table after count next t low high link (f (pairs_in (suc d) t)) most_keys (after (root_of (suc d) t))
  unfolding Holds reached pairs_in root_of first_leaf
  rises-whole after next g =
      let xs = t.1 in
      let last = t.2 in
      let c = g.tree in
      record {
        tree = (t.0, swap_child xs place c, swap_last xs last place c);
        holds = (
          rw (keys_of_swap (root_of d) xs last place c g.root, id_of_swap (root_of d) xs last place c g.root)
              (self-kept after g.kept ∙ h.0),
          rw (keys_of_swap (root_of d) xs last place c g.root) h.1,
          rw (length_swap xs place c) h.2,
          rw (length_swap xs place c) h.3,
          each_swap (first_leaf d) (reached d) (λ i. after i ≡ table i) (Stands d table) (Stands d after) (stands_keep d table after) xs last low
              high link place c g.first (others-kept after g.kept) h.4 (rw g.root g.holds),
        );
        root = refl;
        first = first_of_swap (first_leaf d) xs last place c g.first;
        spelled = rw (join_of_swap (pairs_in d) xs last place c, g.spelled) join_edit;
        ids =
            λ i.
            omega
            (arith, sum_of_swap (λ c. reached d c i) xs last place c, sum_of-child_at (λ c. reached d c i) xs last place, g.ids i);
        grows = g.grows;
        kept = λ i l z. g.kept i l (omega (arith, sum_of-child_at (λ c. reached d c i) xs last place));
      }

  -- The branch with its child in two, before it takes its edits.
  module _ (after : Table) (next middle right : ℕ)
      (g :
      Parted d table after count next child (low_at t.1 low place) (high_at t.1 high place)
      (next_at (first_leaf d) t.1 t.2 link place) (f (pairs_in d child)) middle right) where
    abbrev pub widened : Node
    widened =
        node Branch (keys_of (root_of d) (split_child t.1 place g.halves.lower middle g.halves.upper))
        (root_of d (swap_last t.1 t.2 place g.halves.upper))

    pub rises-parted : Changed (suc d) table after count next t low high link (f (pairs_in (suc d) t)) (suc most_keys) widened
    unfolding Holds reached pairs_in root_of first_leaf
    rises-parted =
        let xs = t.1 in
        let last = t.2 in
        let p = g.halves.lower in
        let q = g.halves.upper in
        record {
          tree = (t.0, split_child xs place p middle q, swap_last xs last place q);
          holds = (
            refl,
            within_split (root_of d) xs low low high place p middle q (omega arith) g.halves.above g.halves.under h.1,
            omega (arith, length-split xs place p middle q, h.2),
            omega (arith, length-split xs place p middle q),
            each_split (first_leaf d) (reached d) (λ i. after i ≡ table i) (Stands d table) (Stands d after) (stands_keep d table after) xs last low
                high link place p middle q g.first (others-kept after g.kept) h.4 g.halves.stands_lower g.halves.stands_upper,
          );
          root = refl;
          first = first_of-split (first_leaf d) xs last place p middle q g.first;
          spelled = rw (join_of-split (pairs_in d) xs last place p middle q, g.spelled) join_edit;
          ids =
              λ i.
              omega
              (arith, sum_of-split (λ c. reached d c i) xs last place p middle q, sum_of-child_at (λ c. reached d c i) xs last place, g.ids i);
          grows = g.grows;
          kept = λ i l z. g.kept i l (omega (arith, sum_of-child_at (λ c. reached d c i) xs last place));
        }

    -- the two edits make that content
    pub edits_widen : change_all (parent_edits k (table t.0) middle (root_of d child) right) (table t.0) ≡ widened
    unfolding Holds root_of renamed
    edits_widen =
        let xs = t.1 in
        let ks = keys_of (root_of d) xs in
        rw (h.0, ← g.halves.root_lower, ← g.halves.root_upper) (go (le_or (length ks) place))
      where
        go : (length (keys_of (root_of d) t.1) ≤ place) ⊎ (place < length (keys_of (root_of d) t.1)) →
            change (renamed place (keys_of (root_of d) t.1) (root_of d g.halves.upper))
            (node Branch (insert middle (root_of d g.halves.lower) (keys_of (root_of d) t.1)) (root_of d t.2)) ≡
            widened
        go (inl l) =
            rw (
              le-ltb place (length (keys_of (root_of d) t.1)) l,
              renamed,
              swap_last-behind t.1 t.2 place g.halves.upper (omega (arith, length-keys_of (root_of d) t.1)),
              ← insert-split-last (root_of d) t.1 low low high place g.halves.lower middle g.halves.upper
                  (omega (arith, length-keys_of (root_of d) t.1)) g.halves.above h.1,
            )
        go (inr l) =
            rw (
              lt-ltb place (length (keys_of (root_of d) t.1)) l,
              renamed,
              swap_last-inside t.1 t.2 place g.halves.upper (omega (arith, length-keys_of (root_of d) t.1)),
              ← insert-split (root_of d) t.1 t.2 low low high place g.halves.lower middle g.halves.upper
                  (omega (arith, length-keys_of (root_of d) t.1)) g.halves.above g.halves.under h.1,
            )
