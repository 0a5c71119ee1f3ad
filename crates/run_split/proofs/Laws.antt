-- The steps of a node's turn put together. Assumes nothing.
use Rattle.std.specs.Prelude.{Option, None, Some, Result, Ok, Err}
use mathlib.Core.Path.{◌≡◌, refl, sym, ap, ap₂, ◌∙◌, subst}
use mathlib.Core.Bool.{Bool, true, false}
use Rattle.std.specs.Prelude.{Option, None, Some}
use mathlib.Core.List.{List, [], ◌∷◌}
use Prim.Native.Nat.{ℕ, ◌+◌, ◌≤◌, ◌<◌}
use native.Mathlib.Omega.{arith}
use native.Mathlib.Nat.{lt_of_not-le}
use borrow.Author.Tests.{lt-ltb, le-ltb}
use lib.ListN.{length}
use Rattle.layout.specs.Layout.{node_limit, most_keys}
use Rattle.account.specs.declared.Tariff.{Tariff}
use Rattle.pairs.specs.Pairs.{insert}
use Rattle.node.specs.declared.Shape.TheVariants.{Branch}
use Rattle.node.specs.declared.NodeValue.{NodeValue}
use Rattle.node.specs.Node.{Node, node, pairs_of}
use Rattle.node.specs.Change.{Change, put, link, change}
use Rattle.node.specs.Found.{above-absent, above_place}
use Rattle.node.specs.Fit.{fit_of, full-above}
use Rattle.node.specs.Halves.{lower_half, middle_key, upper_half}
use Rattle.node.specs.Search.{child_place, key_at}
use Rattle.node.specs.Repoint.{repoint}
use Rattle.node.specs.Value.{pairs_in, node_of, Sized, Held, Becomes, length-pairs_in}
use Rattle.node_split.specs.Split.{Splits}
use Rattle.flash_rows.specs.Worktable.{Worktable}
use Rattle.store.specs.Store.{no_node}
use Rattle.store.specs.Serve.{edit, rewrite}
use Rattle.flash_allocate.specs.declared.state.State.{State}
use Rattle.flash_allocate.specs.World.{World, world}
use Rattle.flash_write.specs.Group.{create, Grown}
use Rattle.flash_read.specs.NodeTable.{table_of_out}
use Rattle.run_serve.specs.Step.{Charged, kept_then, charged-none, charged-is, both, then}
use Rattle.run_serve.specs.Serve.{serve, charge, ServedAs}
use Rattle.run_split.specs.declared.Pending.{Pending}
use Rattle.run_split.specs.declared.Pending.TheVariants.{Halves}
use Rattle.run_split.specs.Growing.{Growing, growing_kept, Grew, grew_same, grew_charged}
use Rattle.run_split.specs.Absorbing.{Absorbing, Taken, AbsorbedAs}
use Rattle.run_split.specs.Split.{grow, split_below, split_root, split}
use Rattle.run_split.specs.Absorb.{node_at, absorb_edit, absorb_edits, absorb_pair, renaming, absorb_halves, absorb}

-- A key that does not fit is asked as a split asks it.
full_splits : (v : NodeValue) → Held v → (key at : ℕ) → fit_of key (pairs_in v) ≡ Err at → Splits v at key
full_splits v h key at e =
    let f = full-above key (pairs_in v) at e in
    record {
      held = h;
      full = omega (arith, f.1, length-pairs_in v h.sized, h.sized.size);
      absent = above-absent key (pairs_in v) at f.0;
      there = above_place key (pairs_in v) at f.0;
    }

-- A turn's result said otherwise.
pub absorbed_is : {P T : ℕ} {pages : List (List ℕ)} {table : Worktable} {r : Taken} {s : State} {a b : Absorbing} →
    AbsorbedAs P T pages table r s a → a ≡ b →
    AbsorbedAs P T pages table r s b
absorbed_is {P} {T} {pages} {table} {r} {s} k e = subst (AbsorbedAs P T pages table r s) e k

-- A node more, or none where the limit is reached.
module _ {P T P₀ T₀ : ℕ} (x : Node) (w : World) (g : Growing P₀ T₀ w.state) where
  pub grow-made : (made : World) → w.state.nodes < node_limit w.state.blocks → Grown P T w.state made
      (create x w) → Grew P T w.state made (grow x w)
  unfolding grow
  grow-made made l k =
      record {
        is = k.is ∙ rw (lt-ltb w.state.nodes (node_limit w.state.blocks) l) refl;
        growing = record { good = k.good; limited = omega (arith, k.nodes, k.blocks, l); no_checkpoint_page = k.checkpoint ∙ g.no_checkpoint_page };
        blocks = k.blocks;
      }

pub grow-none : {P T : ℕ} (x : Node) (w : World) → Growing P T w.state → node_limit w.state.blocks ≤
    w.state.nodes → Grew P T w.state w (grow x w)
unfolding grow
grow-none x w g l = record { is = rw (le-ltb w.state.nodes (node_limit w.state.blocks) l) refl; growing = g; blocks = refl }

-- The splits.
module _ (t : Tariff) (whole : Node) (w : World) where
  pub below_split : {P T P₁ T₁ : ℕ} (id : ℕ) (low high : Node) (middle : ℕ) →
      low ≡ lower_half whole w.state.nodes → high ≡ upper_half whole → middle ≡ middle_key whole →
      (pages₁ : List (List ℕ)) (table₁ : Worktable) (r : Charged) → ServedAs P₁ T₁ pages₁ table₁ r t id (rewrite low) w →
      (pages₂ : List (List ℕ)) (table₂ : Worktable) (s₂ : State) → Grew P T r.state (world pages₂ table₂ s₂)
      (grow high (world pages₁ table₁ r.state)) →
      AbsorbedAs P T pages₂ table₂ (record
      { charged = record { state = s₂; charge = r.charge }; pending = Some (Halves middle id w.state.nodes) }) w.state
      (split_below t id whole w)
  unfolding split_below
  below_split id low high middle e f m pages₁ table₁ r s pages₂ table₂ s₂ k =
      record {
        charged =
            record {
              kept =
                  record {
                    is = k.is ∙ ap₂ grow f (s.kept.is ∙ ap (λ (x : Node). serve t id (rewrite x) w) e);
                    growing = k.growing;
                    blocks = k.blocks ∙ s.kept.blocks;
                  };
              charge = s.charge ∙ ap (λ (x : Node). charge t id (rewrite x) w) e;
              most = omega (arith, s.most);
            };
        pending = ap (λ (z : ℕ). Some (Halves z id w.state.nodes)) m;
      }

  pub root-split : {P T P₁ T₁ P₂ T₂ : ℕ} (low high : Node) (middle : ℕ) (top : Node) →
      low ≡ lower_half whole (w.state.nodes + 1) → high ≡ upper_half whole → middle ≡ middle_key whole →
      top ≡ node Branch ((middle, w.state.nodes) ∷ []) (w.state.nodes + 1) →
      (w₁ : World) → Grew P₁ T₁ w.state w₁ (grow low w) →
      (w₂ : World) → Grew P₂ T₂ w₁.state w₂ (grow high w₁) →
      (pages : List (List ℕ)) (table : Worktable) (r : Charged) → ServedAs P T pages table r t 0 (rewrite top) w₂ →
      AbsorbedAs P T pages table (record { charged = r; pending = None }) w.state (split_root t whole w)
  unfolding split_root
  root-split low high middle top e f m g w₁ k w₂ l pages table r s =
      record {
        charged =
            record {
              kept =
                  record {
                    is = s.kept.is ∙ ap₂ (λ (x : Node) (z : World). serve t 0 (rewrite x) z) top-is grown-is;
                    growing = growing_kept l.growing s.kept;
                    blocks = s.kept.blocks ∙ l.blocks ∙ k.blocks;
                  };
              charge = s.charge ∙ ap₂ (λ (x : Node) (z : World). charge t 0 (rewrite x) z) top-is grown-is;
              most = omega (arith, s.most);
            };
        pending = refl;
      }
    where
      grown-is : w₂ ≡ grow (upper_half whole) (grow (lower_half whole (w.state.nodes + 1)) w)
      grown-is = l.is ∙ ap₂ grow f (k.is ∙ ap (λ (x : Node). grow x w) e)

      top-is : top ≡ node Branch ((middle_key whole, w.state.nodes) ∷ []) (w.state.nodes + 1)
      top-is = g ∙ ap (λ (z : ℕ). node Branch ((z, w.state.nodes) ∷ []) (w.state.nodes + 1)) m

  pub split_as_root : (root : Bool) (id : ℕ) → root ≡ true → split_root t whole w ≡ split t root id whole w
  unfolding split
  split_as_root root id e = rw e refl

  pub split_as_below : (root : Bool) (id : ℕ) → root ≡ false → split_below t id whole w ≡ split t root id whole w
  unfolding split
  split_as_below root id e = rw e refl

-- The edits.
module _ {P₀ T₀ : ℕ} (t : Tariff) (id : ℕ) (w : World) (g : Growing P₀ T₀ w.state) where
  pub one-edit : {P T : ℕ} (c : Change) (pages : List (List ℕ)) (table : Worktable) (r : Charged) → ServedAs P T pages table r t id (edit c) w →
      AbsorbedAs P T pages table (record { charged = r; pending = None }) w.state (absorb_edit t id c w)
  unfolding absorb_edit
  one-edit c pages table r s =
      record { charged = charged-is (grew_charged g s) (omega arith) refl refl; pending = refl }

  pub two_edits : {P T P₁ T₁ : ℕ} (first second : Change) (pages₁ : List (List ℕ)) (table₁ : Worktable) (one : Charged) →
      ServedAs P₁ T₁ pages₁ table₁ one t id (edit first) w →
      (pages : List (List ℕ)) (table : Worktable) (two : Charged) →
      ServedAs P T pages table two t id (edit second) (world pages₁ table₁ one.state) →
      AbsorbedAs P T pages table (record { charged = both one two; pending = None }) w.state (absorb_edits t id first second w)
  unfolding absorb_edits
  two_edits first second pages₁ table₁ one s pages table two s' =
      let step = serve t id (edit second) in
      record { charged = grew_charged g (then step (charge t id (edit second)) (kept_then step) s s'); pending = refl }

full-none : (v : NodeValue) (at key : ℕ) → Splits v at key → pairs_in v ≡ [] → ⊥
full-none v at key s e = omega (arith, ap length e, length-pairs_in v s.held.sized, s.full)

-- A pair for a node, read as it is now.
module _ (t : Tariff) (root : Bool) (id key value : ℕ) (w : World) (v : NodeValue) (is : node_of v ≡ node_at id w)
    (f : Result (Unit {0}) ℕ) (e : f ≡ fit_of key (pairs_in v)) where
  fit_is : fit_of key (pairs_of (node_at id w)) ≡ f
  fit_is = ap (λ (n : Node). fit_of key (pairs_of n)) (sym is) ∙ sym e

  pub pair_fits : f ≡ Ok tt → absorb_edit t id (put key value) w ≡ absorb_pair t root id key value w
  unfolding absorb_pair
  pair_fits r = rw (fit_is ∙ r) refl

  module _ (at : ℕ) (r : f ≡ Err at) where
    pub pair_splits : split t root id (change (put key value) (node_of v)) w ≡ absorb_pair t root id key value w
    unfolding absorb_pair
    pair_splits = rw (fit_is ∙ r) (ap (λ (n : Node). split t root id (change (put key value) n) w) is)

    pub pair_full : Held v → Splits v at key
    pair_full h = full_splits v h key at (sym e ∙ r)

    pub pair_there : Held v → id < w.state.nodes
    pair_there h =
        lt_of_not-le
        (λ l. full-none v at key (pair_full h) (ap pairs_of (is ∙ table_of_out w.pages w.table w.state id l)))

none-renamed : (wanted right : ℕ) → pairs_of (change (renaming wanted right no_node) no_node) ≡ []
unfolding repoint
none-renamed wanted right = rw (le-ltb (child_place wanted []) 0 (omega arith), repoint) refl

-- The halves of a child for a node, read as it is now, its pointer renamed.
module _ (t : Tariff) (root : Bool) (id wanted middle left right : ℕ) (w : World) (v : NodeValue)
    (is : node_of v ≡ node_at id w) (child : ℕ) (c : child ≡ child_place wanted (pairs_in v))
    (u : NodeValue) (renamed : node_of u ≡ change (repoint child right (node_of v)) (node_of v)) (f : Result (Unit {0}) ℕ) (e : f ≡ fit_of middle (pairs_in u)) where
  abbrev renamed_in : Node → Node
  renamed_in n = change (renaming wanted right n) n

  renamed-is : node_of u ≡ renamed_in (node_at id w)
  renamed-is = renamed ∙ ap (λ (i : ℕ). change (repoint i right (node_of v)) (node_of v)) c ∙ ap renamed_in is

  halves_fit : fit_of middle (pairs_of (renamed_in (node_at id w))) ≡ f
  halves_fit = ap (λ (n : Node). fit_of middle (pairs_of n)) (sym renamed-is) ∙ sym e

  pub halves_fits : f ≡ Ok tt → (second : Change) → second ≡ repoint child right (node_of v) →
      absorb_edits t id (put middle left) second w ≡ absorb_halves t root id wanted middle left right w
  unfolding absorb_halves
  halves_fits r second s =
      let same : second ≡ renaming wanted right (node_at id w) = s ∙ ap (λ (i : ℕ). repoint i right (node_of v)) c ∙ ap (renaming wanted right) is in
      rw (halves_fit ∙ r) (ap (λ (d : Change). absorb_edits t id (put middle left) d w) same)

  module _ (at : ℕ) (r : f ≡ Err at) where
    pub halves_split : split t root id (change (put middle left) (node_of u)) w ≡ absorb_halves t root id wanted middle left right w
    unfolding absorb_halves
    halves_split = rw (halves_fit ∙ r) (ap (λ (n : Node). split t root id (change (put middle left) n) w) renamed-is)

    pub halves_full : Held u → Splits u at middle
    halves_full h = full_splits u h middle at (sym e ∙ r)

    pub halves_there : Held u → id < w.state.nodes
    halves_there h =
        lt_of_not-le
        (λ l.
        full-none u at middle (halves_full h)
        (ap pairs_of (renamed-is ∙ ap renamed_in (table_of_out w.pages w.table w.state id l)) ∙ none-renamed wanted right))

-- What is pending, known.
pub absorb-nothing : {P T : ℕ} (t : Tariff) (wanted : ℕ) (root : Bool) (id : ℕ) (p : Option Pending) (w : World) → p ≡ None → Growing P T w.state →
    AbsorbedAs P T w.pages w.table (record { charged = record { state = w.state; charge = 0 }; pending = p }) w.state (absorb t wanted root id p w)
absorb-nothing t wanted root id p w e g =
    rw e (record { charged = charged-is (charged-none w (grew_same w g)) (omega arith) refl refl; pending = refl })

pub absorb_known : (t : Tariff) (wanted : ℕ) (root : Bool) (id : ℕ) (p q : Option Pending) (w : World) → p ≡ q → absorb t
    wanted root id q w ≡ absorb t wanted root id p w
absorb_known t wanted root id p q w e = ap (λ (z : Option Pending). absorb t wanted root id z w) (sym e)

-- One pair in an empty branch.
pub put-room : (v : NodeValue) (k p to : ℕ) → node_of v ≡ node Branch [] to → length (insert k p (pairs_in v)) ≤ most_keys
unfolding insert
put-room v k p to e = rw (ap pairs_of e) (omega arith)

pub one_pair : (v r : NodeValue) (k p to : ℕ) → node_of v ≡ node Branch [] to → Becomes r
    (change (put k p) (node_of v)) → Becomes r (node Branch ((k, p) ∷ []) to)
unfolding insert
one_pair v r k p to e b = record { is = b.is ∙ ap (change (put k p)) e; held = b.held }

-- The edit that renames a pointer, by its place.
module _ (v : NodeValue) (s : Sized v) (at to : ℕ) where
  pub rename_key : (k : ℕ) → at < v.count → k ≡ key_at (pairs_in v) at → put k to ≡ repoint at to (node_of v)
  unfolding repoint
  rename_key k l e =
      rw (lt-ltb at (length (pairs_in v)) (omega (arith, length-pairs_in v s)), repoint) (ap (λ (z : ℕ). put z to) e)

  pub rename_link : v.count ≤ at → link v.shape to ≡ repoint at to (node_of v)
  unfolding repoint
  rename_link l = rw (le-ltb at (length (pairs_in v)) (omega (arith, length-pairs_in v s)), repoint) refl
