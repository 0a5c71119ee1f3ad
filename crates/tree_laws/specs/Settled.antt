-- The work of a change at one key below the root, put and delete alike, along the path and leaf upwards: each subtree is then one
-- with the changed pairs, or one whose top has still to take edits, and the store can take every request made. Assumes nothing.
use Rattle.std.specs.Prelude.{◌≡◌, Bool, true, false, List, [], ◌∷◌, ◌++◌, map, ltb}
use Rattle.std.proofs.Math.Path.{refl, ap}
use Rattle.std.proofs.Common.{sym, ◌∙◌, arith, leb-true, leb-false}
use Prim.Native.Nat.{ℕ, zero, suc, ◌≤◌, ◌<◌}
use Rattle.std.proofs.Math.ListN.{length}
use Rattle.laws.specs.Update.{update, update_same, update_other}
use Rattle.layout.specs.Layout.{most_keys, bound32}
use Rattle.pairs.specs.Pairs.{Pair, insert, delete, Within}
use Rattle.pairs.proofs.Bounds.{within_insert}
use Rattle.pairs.proofs.Sizes.{length-insert}
use Rattle.pairs.specs.LocalEdit.{LocalEdit}
use Rattle.node.specs.declared.Shape.TheVariants.{Leaf, Branch}
use Rattle.node.specs.Node.{Node, node, shape_of, pairs_of, Neat}
use Rattle.node.specs.Change.{Change, put, remove, Suits, change}
use Rattle.node.specs.Halves.{lower_half, middle_key, upper_half}
use Rattle.tree.specs.Table.{Table, slot, path}
use Rattle.tree.specs.NodeRequest.{NodeRequest, edit, rewrite, create, apply_all, change_all}
use Rattle.tree.specs.Fit.{Fits}
use Rattle.tree.specs.Put.{renamed, parent_edits, fits_node, Work, finished, pending, settle, work}
use Rattle.tree.specs.Tree.{keys_of, Tree, root_of, first_leaf, pairs_in, reached, Holds, Stands}
use Rattle.tree_laws.specs.Children.{low_at, high_at, next_at, split_child, length-keys_of, length-split, low_at_le}
use Rattle.tree_laws.specs.Standing.{Once, root-used, once_child, holds-keys, holds_most, neat_within}
use Rattle.tree_laws.specs.LeafOfKey.{child_of, child_for-branch, child_for-leaf, path-leaf, path_step}
use Rattle.tree_laws.specs.Growth.{Changed, Parted, takes_whole, takes_halves, child_leads, child_stands, self-kept, rises-whole, widened}
use Rattle.tree_laws.specs.Growth.{rises-parted, edits_widen}
use Rattle.tree_laws.specs.Requests.{apply_all-append, edits_same, edits-other, fits-append, NeatAll, fits-edits}

pub stands_top_neat : (d : ℕ) (table : Table) (t : Tree d) (low high link : ℕ) → high ≤ bound32 → Stands d table t low high link → Neat (table (root_of d t))
stands_top_neat d table t low high link b s =
    neat_within low high (table (root_of d t)) b (holds-keys d table t low high link most_keys (table (root_of d t)) s)
    (holds_most d table t low high link most_keys (table (root_of d t)) s)

-- The second edit of a branch sets its last pointer by the branch's kind, where it sets that.
renamed_suits : (j : ℕ) (ks : List Pair) (right : ℕ) (n : Node) → shape_of n ≡ Branch → Suits (renamed j ks right) n
unfolding renamed
renamed_suits j ks right n e = go (ltb j (length ks)) refl
  where
    go : (b : Bool) → ltb j (length ks) ≡ b → Suits (renamed j ks right) n
    go true f = rw (f, renamed) tt
    go false f = rw (f, renamed) (sym e)

-- A subtree whose work is finished, and one whose top has still to take edits.
pub record Finished (limit d : ℕ) (table : Table) (count : ℕ) (t : Tree d) (low high link : ℕ) (pairs : List Pair) (rs : List NodeRequest)
    (next : ℕ) : Type 0 where
  pub changed : Changed d table (apply_all rs table) count next t low high link pairs most_keys (apply_all rs table (root_of d t))
  pub fits : next ≤ limit → Fits limit rs table count next

pub record Pending (limit d : ℕ) (table : Table) (count : ℕ) (t : Tree d) (low high link : ℕ) (pairs : List Pair) (rs : List NodeRequest) (next : ℕ)
    (edits : List Change) : Type 0 where
  pub changed : Changed d table (apply_all rs table) count next t low high link pairs (suc most_keys) (change_all edits (table (root_of d t)))
  pub fits : next ≤ limit → Fits limit rs table count next
  pub own : apply_all rs table (root_of d t) ≡ table (root_of d t)
  pub neat : length (pairs_of (change_all edits (table (root_of d t)))) ≤ most_keys → NeatAll edits (table (root_of d t))

abbrev pub Good : (limit d : ℕ) (table : Table) (count : ℕ) (t : Tree d) (low high link : ℕ) (pairs : List Pair) → Work → Type 0
Good limit d table count t low high link pairs (finished rs next) = Finished limit d table count t low high link pairs rs next
Good limit d table count t low high link pairs (pending rs next edits) = Pending limit d table count t low high link pairs rs next edits

-- A node below the root, its edits pending, takes them whole or in halves.
module _ (limit d : ℕ) (table : Table) (count : ℕ) (t : Tree d) (low high link : ℕ) (pairs : List Pair) (rs : List NodeRequest) (next : ℕ)
    (edits : List Change) (o : Once d count t) (g : Pending limit d table count t low high link pairs rs next edits) where
  abbrev id : ℕ
  id = root_of d t

  abbrev whole : Node
  whole = change_all edits (table id)

  used : id < next
  used = omega (arith, root-used d count t o, g.changed.grows)

  pub pending_whole : length (pairs_of whole) ≤ most_keys → Finished limit d table count t low high link pairs (rs ++ map (edit id) edits) next
  pending_whole l =
      record {
        changed =
            rw (apply_all-append rs (map (edit id) edits) table)
            (takes_whole d table (apply_all rs table) _ count next t low high link pairs whole o g.changed l
            (edits_same edits id (apply_all rs table) ∙ ap (change_all edits) g.own) (edits-other edits id (apply_all rs table)));
        fits =
            λ m.
            fits-append limit rs (map (edit id) edits) table count next next (g.fits m)
            (fits-edits limit edits id (apply_all rs table) next (table id) g.own used (g.neat l));
      }

  abbrev halving : List NodeRequest
  halving = rewrite id (lower_half whole next) ∷ create next (upper_half whole) ∷ []

  pending_halves : most_keys < length (pairs_of whole) →
      Parted d table (apply_all (rs ++ halving) table) count (suc next) t low high link pairs (middle_key whole) next
  pending_halves l =
      let after = apply_all rs table in
      let one = update after id (lower_half whole next) in
      rw (apply_all-append rs halving table)
      (takes_halves d table after _ count next t low high link pairs whole o g.changed l
      (update_other one next (upper_half whole) id (omega (arith, used)) ∙ update_same after id (lower_half whole next) id refl)
      (update_same one next (upper_half whole) next refl)
      (λ i e f. update_other one next (upper_half whole) i f ∙ update_other after id (lower_half whole next) i e))

  halving-fits : most_keys < length (pairs_of whole) → high ≤ bound32 → suc next ≤ limit → Fits limit (rs ++ halving) table count (suc next)
  halving-fits l b m =
      let p = (pending_halves l).halves in
      let after = apply_all rs table in
      let one = update after id (lower_half whole next) in
      let z : apply_all (rs ++ halving) table ≡ update one next (upper_half whole) = apply_all-append rs halving table in
      let lower : apply_all (rs ++ halving) table id ≡ lower_half whole next =
      ap (λ (T : Table). T id) z ∙
      (update_other one next (upper_half whole) id (omega (arith, used)) ∙ update_same after id (lower_half whole next) id refl) in
      let upper : apply_all (rs ++ halving) table next ≡ upper_half whole =
      ap (λ (T : Table). T next) z ∙ update_same one next (upper_half whole) next refl in
      let neat_lower : Neat (lower_half whole next) =
      rw (p.root_lower, lower) at
      (stands_top_neat d (apply_all (rs ++ halving) table) p.lower low (middle_key whole) _ (omega (arith, p.under)) p.stands_lower) in
      let neat_upper : Neat (upper_half whole) =
      rw (p.root_upper, upper) at (stands_top_neat d (apply_all (rs ++ halving) table) p.upper (middle_key whole) high link b p.stands_upper) in
      fits-append limit rs halving table count next (suc next) (g.fits (omega arith))
      ((used, neat_lower), ((refl, m, neat_upper), refl))

-- One level up.
module _ (limit d : ℕ) (table : Table) (count k : ℕ) (f : List Pair → List Pair) (local : LocalEdit k f) (t : Tree (suc d)) (low high link : ℕ)
    (a : low ≤ k) (b : k < high) (o : Once (suc d) count t) (h : Stands (suc d) table t low high link) (bound : high ≤ bound32) where
  abbrev place : ℕ
  place = slot k (keys_of (root_of d) t.1)

  abbrev child : Tree d
  child = child_of d t k

  abbrev child_low : ℕ
  child_low = low_at t.1 low place

  abbrev child_high : ℕ
  child_high = high_at t.1 high place

  abbrev child_next : ℕ
  child_next = next_at (first_leaf d) t.1 t.2 link place

  child_once : Once d count child
  child_once = once_child d count t place o

  settle-whole : (rs : List NodeRequest) (next : ℕ) → Finished limit d table count child child_low child_high child_next (f (pairs_in d child)) rs next →
      Finished limit (suc d) table count t low high link (f (pairs_in (suc d) t)) rs next
  settle-whole rs next g =
      record { changed = rises-whole d table count k f local t low high link a b o h (apply_all rs table) next g.changed; fits = g.fits }

  module _ (rs : List NodeRequest) (next : ℕ) (edits : List Change)
      (g : Pending limit d table count child child_low child_high child_next (f (pairs_in d child)) rs next edits)
      (l : most_keys < length (pairs_of (change_all edits (table (root_of d child))))) where
    abbrev full : Node
    full = change_all edits (table (root_of d child))

    abbrev splitting : List NodeRequest
    splitting = rs ++ halving limit d table count child child_low child_high child_next (f (pairs_in d child)) rs next edits child_once g

    abbrev both_edits : List Change
    both_edits = parent_edits k (table t.0) (middle_key full) (root_of d child) next

    parted : Parted d table (apply_all splitting table) count (suc next) child child_low child_high child_next (f (pairs_in d child)) (middle_key full) next
    parted = pending_halves limit d table count child child_low child_high child_next (f (pairs_in d child)) rs next edits child_once g l

    becomes : change_all both_edits (table t.0) ≡ widened d table count k f local t low high link a b o h (apply_all splitting table) (suc next)
        (middle_key full) next parted
    becomes = edits_widen d table count k f local t low high link a b o h (apply_all splitting table) (suc next) (middle_key full) next parted

    risen : Changed (suc d) table (apply_all splitting table) count (suc next) t low high link (f (pairs_in (suc d) t)) (suc most_keys)
        (change_all both_edits (table t.0))
    risen =
        rw becomes
        (rises-parted d table count k f local t low high link a b o h (apply_all splitting table) (suc next) (middle_key full) next parted)

    -- the branch has one key more
    pub two_long : length (pairs_of (change_all both_edits (table t.0))) ≡ suc (length (pairs_of (table t.0)))
    unfolding Holds root_of
    two_long =
        let p = parted.halves in
        ap (λ (n : Node). length (pairs_of n)) becomes ∙
        (length-keys_of (root_of d) (split_child t.1 place p.lower (middle_key full) p.upper) ∙
        (length-split t.1 place p.lower (middle_key full) p.upper ∙
        ap suc (sym (ap (λ (n : Node). length (pairs_of n)) h.0 ∙ length-keys_of (root_of d) t.1))))

    two_neat : length (pairs_of (change_all both_edits (table t.0))) ≤ most_keys → NeatAll both_edits (table t.0)
    unfolding Holds root_of
    two_neat s =
        let ks = keys_of (root_of d) t.1 in
        let m = middle_key full in
        let p = parted.halves in
        let w : Within low high (insert m (root_of d child) ks) =
        within_insert m (root_of d child) low high ks (omega (arith, p.above, low_at_le (root_of d) t.1 low high place h.1))
        (omega (arith, p.under, (child_leads d table count k f local t low high link a b o h).under)) h.1 in
        let size : length (insert m (root_of d child) ks) ≤ most_keys =
        omega (arith, two_long, s, length-insert m (root_of d child) ks, ap (λ (n : Node). length (pairs_of n)) h.0) in
        let shape : shape_of (change (put m (root_of d child)) (table t.0)) ≡ Branch = ap
        (λ (n : Node). shape_of (change (put m (root_of d child)) n)) h.0 in (
          rw h.0 (neat_within low high (node Branch (insert m (root_of d child) ks) _) bound w size),
          tt,
          (
            neat_within low high (change_all both_edits (table t.0)) bound
                (holds-keys (suc d) (apply_all splitting table) risen.tree low high link (suc most_keys) (change_all both_edits (table t.0))
                risen.holds) s,
            renamed_suits (slot k (pairs_of (table t.0))) (pairs_of (table t.0)) next (change (put m (root_of d child)) (table t.0)) shape,
            tt,
          ),
        )

    settle-parted : Pending limit (suc d) table count t low high link (f (pairs_in (suc d) t)) splitting (suc next) both_edits
    unfolding root_of
    settle-parted =
        record {
          changed = risen;
          fits =
              halving-fits limit d table count child child_low child_high child_next (f (pairs_in d child)) rs next edits child_once g l
              (omega (arith, (child_leads d table count k f local t low high link a b o h).under));
          own = self-kept d table count k f local t low high link a b o h (apply_all splitting table) parted.kept;
          neat = two_neat;
        }

  settle_good : (w : Work) → Good limit d table count child child_low child_high child_next (f (pairs_in d child)) w →
      Good limit (suc d) table count t low high link (f (pairs_in (suc d) t)) (settle table k t.0 (root_of d child) w)
  unfolding settle
  settle_good (finished rs next) g = settle-whole rs next g
  settle_good (pending rs next edits) g = go (fits_node (change_all edits (table (root_of d child)))) refl
    where
      size : ℕ
      size = length (pairs_of (change_all edits (table (root_of d child))))

      go : (x : Bool) → fits_node (change_all edits (table (root_of d child))) ≡ x →
          Good limit (suc d) table count t low high link (f (pairs_in (suc d) t)) (settle table k t.0 (root_of d child) (pending rs next edits))
      go true e =
          rw (e, settle)
          (settle-whole _ next (pending_whole limit d table count child child_low child_high child_next (f (pairs_in d child)) rs next edits child_once g
          (leb-true size most_keys e)))
      go false e = rw (e, settle) (settle-parted rs next edits g (leb-false size most_keys e))

-- A change says of a leaf what an edit says of its pairs, and suits every node.
pub record Says (c : Change) (f : List Pair → List Pair) : Type 0 where
  pub does : (ps : List Pair) (l : ℕ) → change c (node Leaf ps l) ≡ node Leaf (f ps) l
  pub suits : (n : Node) → Suits c n

pub put-says : (k v : ℕ) → Says (put k v) (insert k v)
put-says k v = record { does = λ ps l. refl; suits = λ n. tt }

pub remove_says : (k : ℕ) → Says (remove k) (delete k)
remove_says k = record { does = λ ps l. refl; suits = λ n. tt }

-- Along the whole path, a node at a time.
pub work_step : (table : Table) (k : ℕ) (c : Change) (count fuel id child : ℕ) →
    work table k c count (id ∷ path fuel table k child) ≡ settle table k id child (work table k c count (path fuel table k child))
unfolding work path
work_step table k c count zero above below = refl
work_step table k c count (suc fuel) above below = refl

module _ (limit : ℕ) (table : Table) (count k : ℕ) (c : Change) (f : List Pair → List Pair) (local : LocalEdit k f)
    (says : Says c f) where
  work-leaf : (t : Tree zero) (low high link : ℕ) → low ≤ k → k < high → high ≤ bound32 → Once zero count t → Stands zero table t low high link →
      Pending limit zero table count t low high link (f (pairs_in zero t)) [] count (c ∷ [])
  unfolding Holds root_of pairs_in first_leaf reached
  work-leaf t low high link a b bound o h =
      let ps = f t.1 in
      let top : change c (table t.0) ≡ node Leaf ps link = ap (change c) h.0 ∙ says.does t.1 link in
      let w : Within low high ps = local.keeps low high t.1 a b h.1 in
      record {
        changed =
            record {
              tree = (t.0, ps);
              holds = (top, w, omega (arith, local.grows t.1, h.2));
              root = refl;
              first = refl;
              spelled = refl;
              ids = λ i. refl;
              grows = omega arith;
              kept = λ i l z. refl;
            };
        fits = λ m. refl;
        own = refl;
        neat = λ l. (neat_within low high (change c (table t.0)) bound (rw top w) l, says.suits (table t.0), tt);
      }

  pub work_good : (d fuel : ℕ) (t : Tree d) (low high link : ℕ) → low ≤ k → k < high → high ≤ bound32 → d ≤ fuel → Once d count t →
      Stands d table t low high link → Good limit d table count t low high link (f (pairs_in d t)) (work table k c count (path fuel table k (root_of d t)))
  unfolding work root_of
  work_good zero fuel t low high link a b bound l o h =
      rw (path-leaf table k fuel (root_of zero t) (child_for-leaf table t low high link most_keys k (table (root_of zero t)) h))
      (work-leaf t low high link a b bound o h)
  work_good (suc d) zero t low high link a b bound l o h = absurd (omega arith)
  work_good (suc d) (suc fuel) t low high link a b bound l o h =
      let j = slot k (keys_of (root_of d) t.1) in
      let x = child_of d t k in
      let u = child_leads d table count k f local t low high link a b o h in
      rw (
        path_step table k fuel (root_of (suc d) t) (root_of d x) (child_for-branch d table t low high link most_keys k (table (root_of (suc d) t)) h),
        work_step table k c count fuel (root_of (suc d) t) (root_of d x),
      )
      (settle_good limit d table count k f local t low high link a b o h bound _
      (work_good d fuel x _ _ _ u.from u.to (omega (arith, u.under)) (omega arith) (once_child d count t j o)
      (child_stands d table count k f local t low high link a b o h)))
