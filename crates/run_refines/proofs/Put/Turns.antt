-- A NODE'S TURN on the way up, as the code takes it, is the tree's: its edits where at most 24 keys come of them, else its split. Assumes nothing.
use Rattle.std.specs.Prelude.{◌≡◌, Bool, List, [], ◌∷◌, map, ℕ, ◌≤◌, ◌<◌, length, Option, None, Some, Result, Ok, Err}
use Rattle.std.proofs.Math.Path.{refl, ap, ap₂}
use Rattle.std.proofs.Common.{◌∙◌, arith}
use Rattle.layout.specs.Layout.{most_keys}
use Rattle.account.specs.declared.Tariff.{Tariff}
use Rattle.pairs.specs.Pairs as Map
use Rattle.node.specs.declared.Shape.TheVariants.{Leaf, Branch}
use Rattle.node.specs.Node.{Node, node, shape_of, pairs_of, Neat}
use Rattle.node.specs.Change.{Change, put, change}
use Rattle.node.specs.Search.{child_place}
use Rattle.node.specs.Repoint.{repoint}
use Rattle.tree.specs.Table.{slot}
use Rattle.tree.specs.NodeRequest.{edit, change_all}
use Rattle.tree.specs.Put.{renamed, parent_edits}
use Rattle.tree_laws.specs.Standing.{leaf_no_branch}
use Rattle.flash_allocate.specs.World.{World}
use Rattle.run_path.specs.Steps.{slot-place}
use Rattle.run_split.specs.declared.Pending.{Pending}
use Rattle.run_split.specs.declared.Pending.TheVariants.{Pair, Halves}
use Rattle.node.specs.Fit.{by_fit, fit_of}
use Rattle.run_split.specs.Absorbing.{absorbing, absorbing-is}
use Rattle.run_split.specs.Split.{split}
use Rattle.run_split.specs.Absorb.{node_at, absorb_edit, absorb_edits, absorb_pair, renaming, absorb_halves_in, absorb_halves, absorb}
use Rattle.run_refines.specs.Commands.Lists.{served_all, charged_all}
use Rattle.run_refines.specs.Put.Sizes.{full_size, room-size, pairs-put, halves_room, halves_full}

-- What a node has still to absorb, as the edits that the tree has it absorb.
abbrev pub Waits : ℕ → Node → Option Pending → List Change → Type 0
Waits k n None edits = ⊥
Waits k n (Some (Pair key value)) edits = edits ≡ put key value ∷ []
Waits k n (Some (Halves middle left right)) edits = (edits ≡ parent_edits k n middle left right) × (shape_of n ≡ Branch)

-- What a turn makes of it.
pub record Turned (t : Tariff) (k : ℕ) (root : Bool) (id : ℕ) (n : Node) (p : Option Pending) (edits : List Change) (w : World) : Type 0 where
  pub fits : length (pairs_of (change_all edits n)) ≤ most_keys →
      absorb t k root id p w ≡ absorbing (served_all t (map (edit id) edits) w) (charged_all t (map (edit id) edits) w) None
  pub over : most_keys < length (pairs_of (change_all edits n)) → absorb t k root id p w ≡ split t root id (change_all edits n) w

-- The second edit is the code's.
renamed-is : (k right : ℕ) (ps : List Map.Pair) (last : ℕ) → renamed (slot k ps) ps right ≡ renaming k right (node Branch ps last)
unfolding renamed repoint
renamed-is k right ps last = ap (λ (j : ℕ). renamed j ps right) (slot-place k ps)

module _ (t : Tariff) (k : ℕ) (root : Bool) (id : ℕ) (w : World) where
  -- the edits as requests
  one_request : (c : Change) → absorb_edit t id c w ≡ absorbing (served_all t (edit id c ∷ []) w) (charged_all t (edit id c ∷ []) w) None
  unfolding absorb_edit
  one_request c = absorbing-is refl (omega arith) refl

  two_requests : (c d : Change) → absorb_edits t id c d w ≡ absorbing (served_all t (edit id c ∷ edit id d ∷ []) w)
      (charged_all t (edit id c ∷ edit id d ∷ []) w) None
  unfolding absorb_edits
  two_requests c d = absorbing-is refl (omega arith) refl

  -- a leaf's pair
  module _ (n : Node) (neat : Neat n) (e : node_at id w ≡ n) (key value : ℕ) where
    pair_by : (f : Result (Unit {0}) ℕ) → fit_of key (pairs_of n) ≡ f →
        absorb_pair t root id key value w ≡ by_fit f (absorb_edit t id (put key value) w) (split t root id (change (put key value) n) w)
    unfolding absorb_pair
    pair_by f r =
        ap₂ (λ (z : Result (Unit {0}) ℕ) (x : Node). by_fit z (absorb_edit t id (put key value) w) (split t root id (change (put key value) x) w))
        (ap (λ (x : Node). fit_of key (pairs_of x)) e ∙ r) e

    pair_turned : (f : Result (Unit {0}) ℕ) → fit_of key (pairs_of n) ≡ f → Turned t k root id n (Some (Pair key value)) (put key value ∷ []) w
    pair_turned (Ok tt) r =
        record {
          fits = λ l. pair_by (Ok tt) r ∙ one_request (put key value);
          over = λ l. absurd (omega (arith, ap length (pairs-put key value n), room-size key value (pairs_of n) neat.size r));
        }
    pair_turned (Err at) r =
        record {
          fits = λ l. absurd (omega (arith, ap length (pairs-put key value n), full_size key value (pairs_of n) at r));
          over = λ l. pair_by (Err at) r;
        }

  -- a branch's two edits
  module _ (ps : List Map.Pair) (last : ℕ) (neat : Neat (node Branch ps last)) (e : node_at id w ≡ node Branch ps last) (middle left right : ℕ) where
    abbrev n : Node
    n = node Branch ps last

    abbrev edits : List Change
    edits = put middle left ∷ renaming k right n ∷ []

    abbrev code : Node
    code = change (put middle left) (change (renaming k right n) n)

    halves_by : (f : Result (Unit {0}) ℕ) → fit_of middle (pairs_of (change (renaming k right n) n)) ≡ f →
        absorb_halves t root id k middle left right w ≡ by_fit f (absorb_edits t id (put middle left) (renaming k right n) w) (split t root id code w)
    unfolding absorb_halves
    halves_by f r =
        ap (λ (x : Node). absorb_halves_in x t root id k middle left right w) e ∙
        ap (λ (z : Result (Unit {0}) ℕ). by_fit z (absorb_edits t id (put middle left) (renaming k right n) w) (split t root id code w)) r

    halves_turned : (f : Result (Unit {0}) ℕ) → fit_of middle (pairs_of (change (renaming k right n) n)) ≡ f → Turned t k root id n (Some (Halves middle left right)) edits w
    halves_turned (Ok tt) r =
        record {
          fits = λ l. halves_by (Ok tt) r ∙ two_requests (put middle left) (renaming k right n);
          over = λ l. absurd (omega (arith, halves_room (child_place k ps) middle left right ps last neat.keys neat.size r));
        }
    halves_turned (Err at) r =
        let h = halves_full (child_place k ps) middle left right ps last neat.keys neat.size at r in
        record {
          fits = λ l. absurd (omega (arith, h.1));
          over = λ l. halves_by (Err at) r ∙ ap (λ (x : Node). split t root id x w) h.0;
        }

  -- THE TURN
  pub turned : (n : Node) → Neat n → node_at id w ≡ n → (p : Option Pending) (edits : List Change) → Waits k n p edits → Turned t k root id n p edits w
  turned n neat e None edits a = absurd a
  turned n neat e (Some (Pair key value)) edits a = rw a (pair_turned n neat e key value (fit_of key (pairs_of n)) refl)
  turned (node Leaf ps last) neat e (Some (Halves middle left right)) edits a = absurd (leaf_no_branch a.1)
  turned (node Branch ps last) neat e (Some (Halves middle left right)) edits a =
      rw (a.0, renamed-is k right ps last)
      (halves_turned ps last neat e middle left right
      (fit_of middle (pairs_of (change (renaming k right (node Branch ps last)) (node Branch ps last)))) refl)
