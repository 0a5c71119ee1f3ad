-- The soundness test passes exactly if the limit is kept and some map is spelled, and the map is the one computed: a walk that
-- passes has seen a tree that stands, each of its ids marked once, and a tree that stands lets the walk pass. Assumes nothing.
use Rattle.std.specs.Prelude.{◌≡◌, Bool, ◌&&◌, ℕ, zero, suc, ◌+◌, ◌≤◌, ◌<◌, eqb, ltb, get_or, ◌⊎◌, Option, None, Some}
use Rattle.std.proofs.Math.Path.{refl, sym}
use Rattle.std.proofs.Common.{ap, ◌∙◌, arith, get_or-set_same, get_or-set_other, inl, inr}
use Rattle.std.proofs.Math.Bool.{true, false}
use mathlib.Core.List.{List, [], ◌∷◌}
use Rattle.std.proofs.Math.Nat.{zero-add}
use borrow.Author.Tests.{leb-true, le-leb, ltb-true, lt-ltb, eqb-true, eq-eqb}
use Rattle.std.proofs.Math.Dec.{leb}
use Rattle.std.proofs.Math.ListN.{length, set, length-set, length-replicate, get_or-eq_default}
use Rattle.std.proofs.lemmas.List.{get_or-replicate}
use Rattle.laws.specs.Counts.{bit}
use Rattle.laws.specs.Order.{eq_or, le_or}
use Rattle.laws.specs.Tests.{and_left, and_right, and_both}
use Rattle.laws.specs.Options.{none_some}
use Rattle.layout.specs.Layout.{most_keys, no_leaf, bound32}
use Rattle.pairs.specs.Pairs.{Pair, Within}
use Rattle.node.specs.declared.Shape.TheVariants.{Leaf, Branch}
use Rattle.node.specs.Node.{Node, node}
use Rattle.node.specs.Ascends.{ascends, ascends_within, within_ascends}
use Rattle.node.specs.Search.{pointer_at}
use Rattle.tree.specs.Table.{Table}
use Rattle.tree.specs.Tree.{keys_of, first_of, join_of, sum_of, EachChild, Tree, root_of, first_leaf, pairs_in, reached, Holds, Stands}
use Rattle.tree.specs.Spells.{Spells, join_pointers, pairs_of_node, pairs_below, map_of}
use Rattle.tree.specs.Sound.{Walk, in_order, visit_leaf, visit_children, visit_branch, visit, Leftmost, leftmost, all_marked, no_marks, complete, walk_from, sound}
use Rattle.tree_laws.specs.Children.{child_at, length-keys_of, pointer_at-keys_of, each_child_at}
use Rattle.tree_laws.specs.Ids.{id-self, id_other, used_in, used_out, used_le, used-below}
use Rattle.tree_laws.specs.Size.{depth_count}

-- What a node in order is.
record Ordered (id low high : ℕ) (ps : List Pair) (marks : List ℕ) : Type 0 where
  used : id < length marks
  fresh : get_or marks id 0 ≡ 0
  keys : Within low high ps
  size : length ps ≤ most_keys

order_of : (id low high : ℕ) (ps : List Pair) (marks : List ℕ) → in_order id low high ps marks ≡ true → Ordered id low high ps marks
unfolding in_order
order_of id low high ps marks e =
    let w = ltb id (length marks) in
    let x = eqb (get_or marks id 0) 0 in
    let y = ascends low high ps in
    let z = leb (length ps) most_keys in
    let e₁ = and_right w (x && (y && z)) e in
    let e₂ = and_right x (y && z) e₁ in
    record {
      used = ltb-true id (length marks) (and_left w (x && (y && z)) e);
      fresh = eqb-true (get_or marks id 0) 0 (and_left x (y && z) e₁);
      keys = ascends_within low high ps (and_left y z e₂);
      size = leb-true (length ps) most_keys (and_right y z e₂);
    }

in_order_lem : (id low high : ℕ) (ps : List Pair) (marks : List ℕ) → Ordered id low high ps marks → in_order id low high ps marks ≡ true
unfolding in_order
in_order_lem id low high ps marks o =
    and_both _ _ (lt-ltb id (length marks) o.used)
    (and_both _ _ (eq-eqb (get_or marks id 0) 0 o.fresh)
    (and_both _ _ (within_ascends low high ps o.keys) (le-leb (length ps) most_keys o.size)))

-- A mark counts its id once more.
mark_adds : (marks : List ℕ) (id i : ℕ) → id < length marks → get_or marks id 0 ≡ 0 → get_or (set marks id 1) i 0 ≡ get_or marks i 0 + bit (eqb i id)
mark_adds marks id i l e = go (eq_or i id)
  where
    go : (i ≡ id) ⊎ (i ≡ id → ⊥) → get_or (set marks id 1) i 0 ≡ get_or marks i 0 + bit (eqb i id)
    go (inl h) = rw h (omega (arith, id-self id, e, get_or-set_same marks id 1 0 l))
    go (inr h) = omega (arith, id_other i id h, get_or-set_other marks id i 1 0 h)

-- What a walk that passes has seen: of a node, and of a branch's children.
record Seen (d : ℕ) (table : Table) (id low high : ℕ) (w w' : Walk) : Type 0 where
  tree : Tree d
  root : root_of d tree ≡ id
  first : first_leaf d tree ≡ w.awaited
  stands : Stands d table tree low high w'.awaited
  marks : (i : ℕ) → get_or w'.marks i 0 ≡ get_or w.marks i 0 + reached d tree i
  size : length w'.marks ≡ length w.marks

record SeenChildren (d : ℕ) (table : Table) (ps : List Pair) (p low high : ℕ) (w w' : Walk) : Type 0 where
  children : List (Tree d × ℕ)
  last : Tree d
  keys : keys_of (root_of d) children ≡ ps
  last_root : root_of d last ≡ p
  first : first_of (first_leaf d) children last ≡ w.awaited
  each : EachChild (first_leaf d) (Stands d table) children last low high w'.awaited
  marks : (i : ℕ) → get_or w'.marks i 0 ≡ get_or w.marks i 0 + sum_of (λ c. reached d c i) children last
  size : length w'.marks ≡ length w.marks

seen-leaf : (table : Table) (id low high : ℕ) (w w' : Walk) (n : Node) → table id ≡ n → visit_leaf id low high w n ≡ Some w' → Seen 0 table id low high w w'
unfolding visit_leaf Holds root_of first_leaf reached
seen-leaf table id low high w w' (node Branch ks last) t e = absurd (none_some e)
seen-leaf table id low high w w' (node Leaf ps next) t e = go (in_order id low high ps w.marks && eqb w.awaited id) refl
  where
    go : (b : Bool) → in_order id low high ps w.marks && eqb w.awaited id ≡ b → Seen 0 table id low high w w'
    go true f =
        let o = order_of id low high ps w.marks (and_left (in_order id low high ps w.marks) _ f) in
        let k = rw (f, visit_leaf) at e in
        let after : ◌≡◌ {A = Walk} (record { awaited = next; marks = set w.marks id 1 }) w' = cc in
        rw (← after)
        record {
          tree = (id, ps);
          root = refl;
          first = sym (eqb-true w.awaited id (and_right (in_order id low high ps w.marks) _ f));
          stands = (t, o.keys, o.size);
          marks = λ i. mark_adds w.marks id i o.used o.fresh;
          size = length-set w.marks id 1;
        }
    go false f = absurd (none_some (rw (f, visit_leaf) at e))

module _ (d : ℕ) (table : Table) (child : (id low high : ℕ) (w w' : Walk) → visit d table id low high w ≡ Some w' → Seen d table id low high w w') where
  seen-children : (ps : List Pair) (p low high : ℕ) (w w' : Walk) → visit_children (visit d table) ps p low high w ≡ Some w' →
      SeenChildren d table ps p low high w w'
  unfolding visit_children
  seen-children [] p low high w w' e =
      let s = child p low high w w' e in
      record {
        children = [];
        last = s.tree;
        keys = refl;
        last_root = s.root;
        first = s.first;
        each = s.stands;
        marks = s.marks;
        size = s.size;
      }
  seen-children (x ∷ ps) p low high w w' e = go (visit d table x.1 low x.0 w) refl (seen-children ps p x.0 high)
    where
      go : (o : Option Walk) → visit d table x.1 low x.0 w ≡ o →
          ((w w' : Walk) → visit_children (visit d table) ps p x.0 high w ≡ Some w' → SeenChildren d table ps p x.0 high w w') →
          SeenChildren d table (x ∷ ps) p low high w w'
      go None f r = absurd (none_some (rw (f, visit_children) at e))
      go (Some v) f r =
          let s = child x.1 low x.0 w v f in
          let rest = r v w' (rw (f, visit_children) at e) in
          record {
            children = (s.tree, x.0) ∷ rest.children;
            last = rest.last;
            keys = rw (s.root, rest.keys);
            last_root = rest.last_root;
            first = s.first;
            each = (rw rest.first s.stands, rest.each);
            marks = λ i. omega (arith, s.marks i, rest.marks i);
            size = rest.size ∙ s.size;
          }

  seen-branch : (id low high : ℕ) (w w' : Walk) (n : Node) → table id ≡ n → visit_branch (visit d table) id low high w n ≡ Some w' →
      Seen (suc d) table id low high w w'
  unfolding visit_branch Holds root_of first_leaf reached
  seen-branch id low high w w' (node Leaf ps next) t e = absurd (none_some e)
  seen-branch id low high w w' (node Branch ks last) t e = go (in_order id low high ks w.marks && leb 1 (length ks)) refl
    where
      go : (b : Bool) → in_order id low high ks w.marks && leb 1 (length ks) ≡ b → Seen (suc d) table id low high w w'
      go true f =
          let o = order_of id low high ks w.marks (and_left (in_order id low high ks w.marks) _ f) in
          let one = leb-true 1 (length ks) (and_right (in_order id low high ks w.marks) _ f) in
          let s = seen-children ks last low high (record { awaited = w.awaited; marks = set w.marks id 1 }) w' (rw (f, visit_branch) at e) in
          let long : length ks ≡ length s.children = sym (ap length s.keys) ∙ length-keys_of (root_of d) s.children in
          record {
            tree = (id, s.children, s.last);
            root = refl;
            first = s.first;
            stands = (
              rw (s.keys, s.last_root) t,
              rw s.keys o.keys,
              omega (arith, o.size, long),
              omega (arith, one, long),
              s.each,
            );
            marks = λ i. omega (arith, s.marks i, mark_adds w.marks id i o.used o.fresh);
            size = s.size ∙ length-set w.marks id 1;
          }
      go false f = absurd (none_some (rw (f, visit_branch) at e))

visit-seen : (d : ℕ) (table : Table) (id low high : ℕ) (w w' : Walk) → visit d table id low high w ≡ Some w' → Seen d table id low high w w'
unfolding visit
visit-seen zero table id low high w w' e = seen-leaf table id low high w w' (table id) refl e
visit-seen (suc d) table id low high w w' e = seen-branch d table (visit-seen d table) id low high w w' (table id) refl e

-- The other way: a tree that stands, at ids not marked yet, lets a walk pass.
record Passes (o : Option Walk) (next : ℕ) (marks : List ℕ) (adds : ℕ → ℕ) : Type 0 where
  after : List ℕ
  is : o ≡ Some (record { awaited = next; marks = after })
  added : (i : ℕ) → get_or after i 0 ≡ get_or marks i 0 + adds i
  size : length after ≡ length marks

abbrev Free : List ℕ → (ℕ → ℕ) → Type 0
Free marks adds = (i : ℕ) → get_or marks i 0 + adds i ≤ bit (ltb i (length marks))

abbrev walk : ℕ → List ℕ → Walk
walk next ms = record { awaited = next; marks = ms }

module _ (d : ℕ) (table : Table)
    (child : (t : Tree d) (low high next : ℕ) (marks : List ℕ) → Stands d table t low high next → Free marks (reached d t) →
    Passes (visit d table (root_of d t) low high (walk (first_leaf d t) marks)) next marks (reached d t)) where
  children_pass : (xs : List (Tree d × ℕ)) (last : Tree d) (low high next : ℕ) (marks : List ℕ) →
      EachChild (first_leaf d) (Stands d table) xs last low high next → Free marks (λ i. sum_of (λ c. reached d c i) xs last) →
      Passes (visit_children (visit d table) (keys_of (root_of d) xs) (root_of d last) low high (walk (first_of (first_leaf d) xs last) marks)) next marks
      (λ i. sum_of (λ c. reached d c i) xs last)
  unfolding visit_children
  children_pass [] last low high next marks e f = child last low high next marks e f
  children_pass (x ∷ xs) last low high next marks e f =
      let a = child x.0 low x.1 (first_of (first_leaf d) xs last) marks e.0 (λ i. omega (arith, f i)) in
      let b = children_pass xs last x.1 high next a.after e.1 (λ i. rw a.size (omega (arith, f i, a.added i))) in
      record {
        after = b.after;
        is = rw (a.is, visit_children) b.is;
        added = λ i. omega (arith, a.added i, b.added i);
        size = rw b.size a.size;
      }

visit-passes : (d : ℕ) (table : Table) (t : Tree d) (low high next : ℕ) (marks : List ℕ) → Stands d table t low high next →
    Free marks (reached d t) → Passes (visit d table (root_of d t) low high (walk (first_leaf d t) marks)) next marks (reached d t)
unfolding visit visit_leaf visit_branch Holds root_of first_leaf reached
visit-passes zero table t low high next marks h f =
    let id = t.0 in
    let u : id < length marks = used-below (length marks) id (omega (arith, f id, id-self id)) in
    let e : get_or marks id 0 ≡ 0 = omega (arith, f id, id-self id, used_le (length marks) id) in
    let k =
    and_both _ (eqb id id) (in_order_lem id low high t.1 marks (record { used = u; fresh = e; keys = h.1; size = h.2 }))
    (eq-eqb id id refl) in
    record { after = set marks id 1; is = rw (h.0, k, visit_leaf); added = λ i. mark_adds marks id i u e; size = length-set marks id 1 }
visit-passes (suc d) table t low high next marks h f =
    let id = t.0 in
    let ks = keys_of (root_of d) t.1 in
    let u : id < length marks = used-below (length marks) id (omega (arith, f id, id-self id)) in
    let e : get_or marks id 0 ≡ 0 = omega (arith, f id, id-self id, used_le (length marks) id) in
    let long = length-keys_of (root_of d) t.1 in
    let k =
    and_both _ (leb 1 (length ks))
    (in_order_lem id low high ks marks (record { used = u; fresh = e; keys = h.1; size = omega (arith, long, h.2) }))
    (le-leb 1 (length ks) (omega (arith, long, h.3))) in
    let r =
    children_pass d table (visit-passes d table) t.1 t.2 low high next (set marks id 1) h.4
    (λ i. rw (length-set marks id 1) (omega (arith, f i, mark_adds marks id i u e))) in
    record {
      after = r.after;
      is = rw (h.0, k, visit_branch) r.is;
      added = λ i. omega (arith, mark_adds marks id i u e, r.added i);
      size = r.size ∙ length-set marks id 1;
    }

-- The depth and the first leaf by first pointers.
child_at-first : {X : Type 0} (first : X → ℕ) (xs : List (X × ℕ)) (last : X) → first (child_at xs last 0) ≡ first_of first xs last
child_at-first first [] last = refl
child_at-first first (x ∷ xs) last = refl

pub leftmost-leaf : (fuel : ℕ) (table : Table) (depth id : ℕ) (ps : List Pair) (next : ℕ) → table id ≡ node Leaf ps next →
    leftmost fuel table depth id ≡ record { depth = depth; leaf = id }
unfolding leftmost
leftmost-leaf zero table depth id ps next e = refl
leftmost-leaf (suc fuel) table depth id ps next e = rw (e, leftmost)

pub leftmost-branch : (fuel : ℕ) (table : Table) (depth id : ℕ) (ks : List Pair) (last : ℕ) → table id ≡ node Branch ks last →
    leftmost (suc fuel) table depth id ≡ leftmost fuel table (suc depth) (pointer_at ks last 0)
unfolding leftmost
leftmost-branch fuel table depth id ks last e = rw (e, leftmost)

pub leftmost-is : (d fuel : ℕ) (table : Table) (t : Tree d) (low high next depth : ℕ) → d ≤ fuel → Stands d table t low high next →
    leftmost fuel table depth (root_of d t) ≡ record { depth = depth + d; leaf = first_leaf d t }
unfolding Holds root_of first_leaf
leftmost-is zero fuel table t low high next depth l h =
    let e : depth + 0 ≡ depth = omega arith in rw e (leftmost-leaf fuel table depth t.0 t.1 next h.0)
leftmost-is (suc d) zero table t low high next depth l h = absurd (omega arith)
leftmost-is (suc d) (suc fuel) table t low high next depth l h =
    let xs = t.1 in
    let last = t.2 in
    let e : depth + suc d ≡ suc depth + d = omega arith in
    rw (e, ← child_at-first (first_leaf d) xs last)
    (leftmost-branch fuel table depth t.0 (keys_of (root_of d) xs) (root_of d last) h.0 ∙
    (ap (leftmost fuel table (suc depth)) (pointer_at-keys_of (root_of d) xs last 0) ∙
    leftmost-is d fuel table (child_at xs last 0) _ _ _ (suc depth) (omega arith)
    (each_child_at (first_leaf d) (Stands d table) xs last low high next 0 h.4)))

all_marked-get : (marks : List ℕ) (i : ℕ) → all_marked marks ≡ true → i < length marks → get_or marks i 0 ≡ 1
unfolding all_marked
all_marked-get [] i e l = absurd (omega arith)
all_marked-get (m ∷ ms) zero e l = eqb-true m 1 (and_left (eqb m 1) (all_marked ms) e)
all_marked-get (m ∷ ms) (suc i) e l = all_marked-get ms i (and_right (eqb m 1) (all_marked ms) e) (omega arith)

get-all_marked : (marks : List ℕ) → ((i : ℕ) → i < length marks → get_or marks i 0 ≡ 1) → all_marked marks ≡ true
unfolding all_marked
get-all_marked [] h = refl
get-all_marked (m ∷ ms) h = and_both _ _ (eq-eqb m 1 (h 0 (omega arith))) (get-all_marked ms (λ i l. h (suc i) (omega arith)))

unmarked : (count i : ℕ) → get_or (no_marks count) i 0 ≡ 0
unmarked count i = go (le_or count i)
  where
    go : (count ≤ i) ⊎ (i < count) → get_or (no_marks count) i 0 ≡ 0
    go (inl l) = get_or-eq_default (no_marks count) 0 (omega (arith, length-replicate {A = ℕ} count 0))
    go (inr l) = get_or-replicate count i 0 0 l

-- All marked: each id below the count is reached once, and no other.
all-reached : (count : ℕ) (marks : List ℕ) (adds : ℕ → ℕ) → length marks ≡ count → all_marked marks ≡ true →
    ((i : ℕ) → get_or marks i 0 ≡ get_or (no_marks count) i 0 + adds i) → (i : ℕ) → adds i ≡ bit (ltb i count)
all-reached count marks adds size all h i = go (le_or count i)
  where
    go : (count ≤ i) ⊎ (i < count) → adds i ≡ bit (ltb i count)
    go (inl l) = omega (arith, h i, unmarked count i, used_out count i l, get_or-eq_default marks 0 {n = i} (omega arith))
    go (inr l) = omega (arith, h i, unmarked count i, used_in count i l, all_marked-get marks i all (omega arith))

pub record Spelled (table : Table) (count : ℕ) : Type 0 where
  pub pairs : List Pair
  pub spells : Spells table count pairs

pub walk_spells : (table : Table) (count : ℕ) (l : Leftmost) (o : Option Walk) → walk_from count table l ≡ o → complete o ≡ true → Spelled table count
unfolding complete walk_from
walk_spells table count l None f e = let z : ◌≡◌ {A = ℕ} 0 1 = cc in absurd (omega arith)
walk_spells table count l (Some w) f e =
    let s = visit-seen l.depth table 0 0 bound32 (walk l.leaf (no_marks count)) w f in
    let x = eqb w.awaited no_leaf in
    record {
      pairs = pairs_in l.depth s.tree;
      spells =
          record {
            depth = l.depth;
            tree = s.tree;
            stands = rw (← eqb-true w.awaited no_leaf (and_left x (all_marked w.marks) e)) s.stands;
            root = s.root;
            ids =
                all-reached count w.marks (reached l.depth s.tree) (s.size ∙ length-replicate count 0)
                (and_right x (all_marked w.marks) e) s.marks;
            spelled = refl;
          };
    }

-- The map that a table spells is the one computed: so there is only one.
module _ {X : Type 0} (below : ℕ → List Pair) (id_of first : X → ℕ) (pairs : X → List Pair) (S : X → ℕ → ℕ → ℕ → Type 0)
    (child : (x : X) (low high next : ℕ) → S x low high next → below (id_of x) ≡ pairs x) where
  join_is : (xs : List (X × ℕ)) (last : X) (low high next : ℕ) → EachChild first S xs last low high next →
      join_pointers below (keys_of id_of xs) (id_of last) ≡ join_of pairs xs last
  unfolding join_pointers
  join_is [] last low high next e = child last low high next e
  join_is (x ∷ xs) last low high next e = rw (child x.0 low x.1 (first_of first xs last) e.0, join_is xs last x.1 high next e.1)

pairs_below-is : (d fuel : ℕ) (table : Table) (t : Tree d) (low high next : ℕ) → d < fuel → Stands d table t low high next →
    pairs_below fuel table (root_of d t) ≡ pairs_in d t
unfolding Holds root_of pairs_in pairs_below pairs_of_node
pairs_below-is d zero table t low high next l h = absurd (omega arith)
pairs_below-is zero (suc fuel) table t low high next l h = rw h.0
pairs_below-is (suc d) (suc fuel) table t low high next l h =
    rw h.0
    (join_is (pairs_below fuel table) (root_of d) (first_leaf d) (pairs_in d) (Stands d table)
    (λ x low high next s. pairs_below-is d fuel table x low high next (omega arith) s) t.1 t.2 low high next h.4)

pub map_unique : (table : Table) (count : ℕ) (pairs : List Pair) → Spells table count pairs → map_of count table ≡ pairs
map_unique table count pairs s =
    rw s.root at (pairs_below-is s.depth count table s.tree 0 bound32 no_leaf (depth_count table count pairs s) s.stands) ∙ s.spelled

-- The test passes: the limit is kept, and the table spells its map.
module _ (limit count : ℕ) (table : Table) where
  pub sound-limit : sound limit count table ≡ true → count ≤ limit
  unfolding sound
  sound-limit e = leb-true count limit (and_left (leb count limit) _ e)

  pub sound_spells : sound limit count table ≡ true → Spells table count (map_of count table)
  unfolding sound
  sound_spells e =
      let l = leftmost count table 0 0 in
      let s = walk_spells table count l (walk_from count table l) refl (and_right (leb count limit) _ e) in
      rw (map_unique table count s.pairs s.spells) s.spells

  -- and the other way
  pub spells_sound : (pairs : List Pair) → Spells table count pairs → count ≤ limit → sound limit count table ≡ true
  unfolding sound complete walk_from
  spells_sound pairs s keeps =
      and_both (leb count limit) _ (le-leb count limit keeps)
      (rw (rw s.root at (leftmost-is s.depth count table s.tree 0 bound32 no_leaf 0 (omega (arith, depth_count table count pairs s)) s.stands))
      (passes-complete (walk_from count table (record { depth = 0 + s.depth; leaf = first_leaf s.depth s.tree }))
      (rw zero-add
      (rw s.root at
      (visit-passes s.depth table s.tree 0 bound32 no_leaf (no_marks count) s.stands
      (λ i. rw (length-replicate {A = ℕ} count 0) (omega (arith, unmarked count i, s.ids i))))))))
    where
      passes-complete : (o : Option Walk) → Passes o no_leaf (no_marks count) (reached s.depth s.tree) → complete o ≡ true
      passes-complete o p =
          rw p.is
          (and_both (eqb no_leaf no_leaf) (all_marked p.after) refl
          (get-all_marked p.after
          (λ i l. omega (arith, p.added i, unmarked count i, s.ids i, used_in count i (omega (arith, p.size, length-replicate {A = ℕ} count 0))))))
