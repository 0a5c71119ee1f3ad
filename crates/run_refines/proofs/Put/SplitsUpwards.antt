-- THE WORK THAT GOES LEAF UPWARDS, as the code does it, is the tree's: the same requests, in the same order. Assumes nothing.
use Rattle.std.specs.Prelude.{◌≡◌, Bool, ℕ, suc, ◌≤◌, ◌<◌, length, Option, None, Some}
use Rattle.std.proofs.Math.Path.{refl, sym, ap}
use Rattle.std.proofs.Common.{◌∙◌, arith, leb-true, leb-false}
use Rattle.std.proofs.Math.Bool.{true, false}
use mathlib.Core.List.{List, [], ◌∷◌, ◌++◌, map, append_assoc, append-nil}
use Rattle.laws.specs.Every.{Every, none, both}
use Rattle.laws.specs.Update.{update_other}
use Rattle.layout.specs.Layout.{most_keys}
use Rattle.account.specs.declared.Tariff.{Tariff}
use Rattle.node.specs.declared.Shape.TheVariants.{Branch}
use Rattle.node.specs.Node.{Node, node, shape_of, pairs_of}
use Rattle.node.specs.Change.{Change, put}
use Rattle.node.specs.Halves.{lower_half, middle_key, upper_half}
use Rattle.tree.specs.Table.{Table}
use Rattle.tree.specs.NodeRequest.{NodeRequest, edit, rewrite, create, apply_all, count_after_all, change_all}
use Rattle.tree.specs.NodeRequest as Request
use Rattle.tree.specs.Put.{parent_edits, fits_node, Work, finished, pending, settle, work, finish}
use Rattle.tree_laws.specs.Requests.{apply_all-append}
use Rattle.flash_allocate.specs.World.{World}
use Rattle.run_split.specs.declared.Pending.{Pending}
use Rattle.run_split.specs.declared.Pending.TheVariants.{Pair, Halves}
use Rattle.run_split.specs.Absorbing.{Absorbing, absorbing, absorbing-is}
use Rattle.run_split.specs.Split.{split, split_below, split_root}
use Rattle.run_split.specs.Absorb.{node_at, absorb}
use Rattle.run_split.specs.SplitUpwards.{after_it, upward, split_upwards_below, split_upwards}
use Rattle.run_refines.specs.Commands.Lists.{served_all, charged_all}
use Rattle.run_refines.proofs.Commands.Lists.{served_all-append, charged_all-append}
use Rattle.run_refines.specs.Put.Paths.{Others, Paths}
use Rattle.run_refines.proofs.Put.Turns.{Waits, Turned, turned}
use Rattle.run_refines.proofs.Put.Splits.{Course, count_after_all-append, below-is, root_is}

counts_up : (rs : List NodeRequest) (count : ℕ) → count ≤ count_after_all rs count
counts_up [] count = omega arith
counts_up (Request.read i ∷ rs) count = counts_up rs count
counts_up (edit i c ∷ rs) count = counts_up rs count
counts_up (rewrite i x ∷ rs) count = counts_up rs count
counts_up (create i x ∷ rs) count = omega (arith, counts_up rs (suc count))

-- Nothing waits: nothing is done.
upward-nothing : (t : Tariff) (k : ℕ) (root : Bool) (id : ℕ) (now : World) (paid : ℕ) →
    upward t k root id (absorbing now paid None) ≡ absorbing now paid None
unfolding upward
upward-nothing t k root id now paid = absorbing-is refl (omega arith) refl

split_below_lem : (t : Tariff) (id : ℕ) (whole : Node) (w : World) → split t false id whole w ≡ split_below t id whole w
unfolding split
split_below_lem t id whole w = refl

split_root_lem : (t : Tariff) (id : ℕ) (whole : Node) (w : World) → split t true id whole w ≡ split_root t whole w
unfolding split
split_root_lem t id whole w = refl

module _ {B : ℕ} {t : Tariff} {table : Table} {count : ℕ} {w : World} {all : List NodeRequest} (c : Course B t table count w all) (k value : ℕ) where
  -- Where the tree's work has come to a node with edits to absorb, the code has served the same requests, and the same waits.
  record Matches (id : ℕ) (ids : List ℕ) (rs : List NodeRequest) (n : ℕ) (edits : List Change) (done : Absorbing) : Type 0 where
    waiting : Option Pending
    is : done ≡ absorbing (served_all t rs w) (charged_all t rs w) waiting
    waits : Waits k (table id) waiting edits
    next : n ≡ count_after_all rs count
    kept : (i : ℕ) → i < count → Others i ids → apply_all rs table i ≡ table i

  abbrev Matched : ℕ → List ℕ → Work → Absorbing → Type 0
  Matched id ids (finished rs n) done = done ≡ absorbing (served_all t rs w) (charged_all t rs w) None
  Matched id ids (pending rs n edits) done = Matches id ids rs n edits done

  -- The requests so far are the first of all.
  abbrev Ahead : Work → Type 0
  Ahead (finished rs n) = (more : List NodeRequest) × (rs ++ more ≡ all)
  Ahead (pending rs n edits) = (more : List NodeRequest) × (rs ++ more ≡ all)

  ahead_before : (id child : ℕ) (x : Work) → Ahead (settle table k id child x) → Ahead x
  unfolding settle
  ahead_before id child (finished rs n) a = a
  ahead_before id child (pending rs n edits) a = go (fits_node (change_all edits (table child))) refl
    where
      go : (b : Bool) → fits_node (change_all edits (table child)) ≡ b → (more : List NodeRequest) × (rs ++ more ≡ all)
      go true e =
          let x : Ahead (finished (rs ++ map (edit child) edits) n) = rw (e, settle) at a in
          (map (edit child) edits ++ x.0, sym (append_assoc rs (map (edit child) edits) x.0) ∙ x.1)
      go false e =
          let whole = change_all edits (table child) in
          let parts = rewrite child (lower_half whole n) ∷ create n (upper_half whole) ∷ [] in
          let x : Ahead (pending (rs ++ parts) (suc n) (parent_edits k (table id) (middle_key whole) child n)) = rw (e, settle) at a in
          (parts ++ x.0, sym (append_assoc rs parts x.0) ∙ x.1)

  finish-ahead : (x : Work) → finish table x ≡ all → Ahead x
  unfolding finish
  finish-ahead (finished rs n) e = ([], append-nil rs ∙ e)
  finish-ahead (pending rs n edits) e = go (fits_node (change_all edits (table 0))) refl
    where
      go : (b : Bool) → fits_node (change_all edits (table 0)) ≡ b → (more : List NodeRequest) × (rs ++ more ≡ all)
      go true f = (map (edit 0) edits, rw (f, finish) at e)
      go false f = (_, rw (f, finish) at e)

  -- A turn above what is done.
  module _ (root : Bool) (id : ℕ) (ids : List ℕ) (rs : List NodeRequest) (n : ℕ) (edits : List Change) (done : Absorbing) (m : Matches id ids rs n edits done)
      (used : id < count) (others : Others id ids) (more : List NodeRequest) (e : rs ++ more ≡ all) where
    abbrev here : World
    here = served_all t rs w

    abbrev whole : Node
    whole = change_all edits (table id)

    node_here : node_at id here ≡ table id
    node_here = ap (λ (f : Table). f id) (c.moments rs more e).table ∙ m.kept id used others

    turn : Turned t k root id (table id) m.waiting edits here
    turn = turned t k root id here (table id) (c.neat id used) node_here m.waiting edits m.waits

    up_is : (made : Absorbing) → absorb t k root id m.waiting here ≡ made → upward t k root id done ≡ after_it (charged_all t rs w) made
    unfolding upward
    up_is made f = ap (upward t k root id) m.is ∙ ap (after_it (charged_all t rs w)) f

    up_fits : fits_node whole ≡ true → upward t k root id done ≡ absorbing (served_all t (rs ++ map (edit id) edits) w)
        (charged_all t (rs ++ map (edit id) edits) w) None
    up_fits f =
        up_is _ (turn.fits (leb-true (length (pairs_of whole)) most_keys f)) ∙
        absorbing-is (sym (served_all-append t rs (map (edit id) edits) w)) (sym (charged_all-append t rs (map (edit id) edits) w)) refl

    over : fits_node whole ≡ false → absorb t k root id m.waiting here ≡ split t root id whole here
    over f = turn.over (leb-false (length (pairs_of whole)) most_keys f)

  -- a split below the root
  split_matches : (id child : ℕ) (ids : List ℕ) (rs : List NodeRequest) (n : ℕ) (edits : List Change) (done : Absorbing)
      (m : Matches child ids rs n edits done) →
      child < count → Others child ids → shape_of (table id) ≡ Branch → (more : List NodeRequest) → rs ++ more ≡ all →
      fits_node (change_all edits (table child)) ≡ false →
      let whole = change_all edits (table child) in
      let parts = rewrite child (lower_half whole n) ∷ create n (upper_half whole) ∷ [] in
      (rest : List NodeRequest) × ((rs ++ parts) ++ rest ≡ all) →
      Matches id (child ∷ ids) (rs ++ parts) (suc n) (parent_edits k (table id) (middle_key whole) child n) (upward t k false child done)
  split_matches id child ids rs n edits done m used others branch more e f after =
      let whole = change_all edits (table child) in
      let parts = rewrite child (lower_half whole n) ∷ create n (upper_half whole) ∷ [] in
      let made =
      over false child ids rs n edits done m used others more e f ∙
      split_below_lem t child whole (served_all t rs w) ∙
      below-is c rs after.0 n m.next whole child after.1 in
      record {
        waiting = Some (Halves (middle_key whole) child n);
        is = up_is false child ids rs n edits done m used others more e _ made ∙ absorbing-is refl (sym (charged_all-append t rs parts w)) refl;
        waits = (refl, branch);
        next = ap suc m.next ∙ sym (count_after_all-append rs parts count);
        kept = λ i l o. kept-other i l o;
      }
    where
      kept-other : (i : ℕ) → i < count → Others i (child ∷ ids) →
          apply_all (rs ++ (rewrite child (lower_half (change_all edits (table child)) n) ∷ create n (upper_half (change_all edits (table child))) ∷
          [])) table i ≡ table i
      kept-other i l (both d o) =
          let whole = change_all edits (table child) in
          let parts = rewrite child (lower_half whole n) ∷ create n (upper_half whole) ∷ [] in
          ap (λ (z : Table). z i) (apply_all-append rs parts table) ∙
          update_other _ n (upper_half whole) i (omega (arith, m.next, counts_up rs count)) ∙
          update_other (apply_all rs table) child (lower_half whole n) i (λ z. d (sym z)) ∙
          m.kept i l o

  -- A NODE BELOW THE ROOT
  matched_step : (id child : ℕ) (ids : List ℕ) (x : Work) (done : Absorbing) → child < count → Others child ids → shape_of (table id) ≡ Branch →
      Ahead (settle table k id child x) → Ahead x → Matched child ids x done →
      Matched id (child ∷ ids) (settle table k id child x) (upward t k false child done)
  unfolding settle
  matched_step id child ids (finished rs n) done used others branch after a m =
      ap (upward t k false child) m ∙ upward-nothing t k false child (served_all t rs w) (charged_all t rs w)
  matched_step id child ids (pending rs n edits) done used others branch after a m = go (fits_node (change_all edits (table child))) refl
    where
      go : (b : Bool) → fits_node (change_all edits (table child)) ≡ b →
          Matched id (child ∷ ids) (settle table k id child (pending rs n edits)) (upward t k false child done)
      go true e = rw (e, settle) (up_fits false child ids rs n edits done m used others a.0 a.1 e)
      go false e = rw (e, settle) (split_matches id child ids rs n edits done m used others branch a.0 a.1 e (rw (e, settle) at after))

  -- ALL NODES BELOW THE ROOT
  matched : (id : ℕ) (ids : List ℕ) → Paths table (id ∷ ids) → Every (λ (i : ℕ). i < count) ids → Ahead (work table k (put k value) count (id ∷ ids)) →
      Matched id ids (work table k (put k value) count (id ∷ ids)) (split_upwards_below t k ids (absorbing w 0 (Some (Pair k value))))
  unfolding work split_upwards_below
  matched id [] on_path used a = record { waiting = Some (Pair k value); is = refl; waits = refl; next = refl; kept = λ i l o. refl }
  matched id (child ∷ ids) on_path (both l used) a =
      let x = work table k (put k value) count (child ∷ ids) in
      let b = ahead_before id child x a in
      matched_step id child ids x (split_upwards_below t k ids (absorbing w 0 (Some (Pair k value)))) l (path-below ids on_path.2) on_path.0 a b
      (matched child ids on_path.2 used b)
    where
      path-below : (ids : List ℕ) → Paths table (child ∷ ids) → Others child ids
      path-below [] y = none
      path-below (i ∷ is) y = y.1

  -- THE ROOT
  finish_matched : (ids : List ℕ) (x : Work) (done : Absorbing) → 0 < count → Others 0 ids → finish table x ≡ all → Matched 0 ids x done →
      upward t k true 0 done ≡ absorbing (served_all t all w) (charged_all t all w) None
  unfolding finish
  finish_matched ids (finished rs n) done used others e m =
      ap (upward t k true 0) m ∙
      upward-nothing t k true 0 (served_all t rs w) (charged_all t rs w) ∙
      ap (λ (z : List NodeRequest). absorbing (served_all t z w) (charged_all t z w) None) e
  finish_matched ids (pending rs n edits) done used others e m = go (fits_node (change_all edits (table 0))) refl
    where
      go : (b : Bool) → fits_node (change_all edits (table 0)) ≡ b → upward t k true 0 done ≡ absorbing (served_all t all w) (charged_all t all w) None
      go true f =
          let is : rs ++ map (edit 0) edits ≡ all = rw (f, finish) at e in
          up_fits true 0 ids rs n edits done m used others (map (edit 0) edits) is f ∙
          ap (λ (z : List NodeRequest). absorbing (served_all t z w) (charged_all t z w) None) is
      go false f =
          let top = change_all edits (table 0) in
          let parts =
          create n (lower_half top (suc n)) ∷ create (suc n) (upper_half top) ∷ rewrite 0 (node Branch ((middle_key top, n) ∷ []) (suc n)) ∷ [] in
          let is : rs ++ parts ≡ all = rw (f, finish) at e in
          up_is true 0 ids rs n edits done m used others parts is _
          (over true 0 ids rs n edits done m used others parts is f ∙
          split_root_lem t 0 top (served_all t rs w) ∙
          root_is c rs [] n m.next top (append-nil (rs ++ parts) ∙ is)) ∙
          absorbing-is refl (sym (charged_all-append t rs parts w)) refl ∙
          ap (λ (z : List NodeRequest). absorbing (served_all t z w) (charged_all t z w) None) is

  -- THE WHOLE WAY
  pub split_upwards-is : (ids : List ℕ) → Paths table (0 ∷ ids) → Every (λ (i : ℕ). i < count) (0 ∷ ids) → finish table
      (work table k (put k value) count (0 ∷ ids)) ≡ all →
      split_upwards t k value (0 ∷ ids) w ≡ absorbing (served_all t all w) (charged_all t all w) None
  unfolding split_upwards
  split_upwards-is ids on_path (both l used) e =
      let x = work table k (put k value) count (0 ∷ ids) in
      finish_matched ids x (split_upwards_below t k ids (absorbing w 0 (Some (Pair k value)))) l (others ids on_path) e (matched 0 ids on_path used (finish-ahead x e))
    where
      others : (ids : List ℕ) → Paths table (0 ∷ ids) → Others 0 ids
      others [] y = none
      others (i ∷ is) y = y.1
