-- A step of the walk by each way that the code takes: the next node due does not pass, is a leaf, or a branch. Assumes nothing.
use Rattle.std.specs.Prelude.{◌≡◌, refl, false, length, get_or, drop, set, None, Some}
use Rattle.std.proofs.Common.{sym, ◌∙◌, length-set, length-append, length-drop, drop-cons}
use Rattle.std.proofs.Math.Path.{ap}
use mathlib.Core.List.{List, ◌∷◌, ◌++◌}
use Prim.Native.Nat.{ℕ, suc, ◌+◌, ◌-◌, ◌≤◌, ◌<◌}
use Rattle.std.proofs.Math.Numerals.{add-one}
use native.Mathlib.Omega.{arith}
use Rattle.node.specs.declared.NodeValue.{NodeValue}
use Rattle.node.specs.Value.{pairs_in, node_of, length-pairs_in}
use Rattle.tree.specs.Table.{Table}
use Rattle.mount_tree.specs.declared.due.Due.{Due}
use Rattle.mount_tree.specs.declared.walk.WalkValue.{WalkValue}
use Rattle.mount_tree.specs.Due.{no_due, children_of}
use Rattle.mount_tree.specs.Stack.{length-children}
use Rattle.mount_tree.specs.Passes.{passes, marked, pass_inside, pass_fresh}
use Rattle.mount_tree.specs.Pending.{visit_all, all-fails, all-leaf, all-branch}
use Rattle.mount_tree.specs.Reached.{reached_in, reached-set, crowded-none}
use Rattle.layout.specs.Layout.{work_bytes}
use Rattle.mount_tree.specs.Area.{dues_in, marks_in, walk_in, comes_to, Marks, Pushes, Stepped, NextDue}
use Rattle.mount_tree.specs.AreaLaws.{length-dues_in, length-marks_in}

module _ (tree : Table) (kept nodes : ℕ) (before : List ℕ) (w : WalkValue) where
  fails : comes_to tree kept nodes before w ≡ None → Stepped tree kept nodes before w before None
  fails f = record { same = refl; is = sym f; standing = tt; more = tt }

  module _ (v : NodeValue) (due : Due) (is-node : node_of v ≡ tree due.id) where
    abbrev rest : List Due
    rest = drop (suc w.top) (dues_in kept nodes before)

    whole : kept + work_bytes nodes ≤ length before → w.top < nodes → due ≡ get_or (dues_in kept nodes before) w.top no_due →
        comes_to tree kept nodes before w ≡ visit_all tree (due ∷ rest) w.low (walk_in kept nodes before w)
    unfolding comes_to
    whole room inside is =
        ap (λ (ds : List Due). visit_all tree ds w.low (walk_in kept nodes before w))
        (drop-cons (dues_in kept nodes before) w.top no_due (omega (arith, length-dues_in kept nodes before room)) ∙
        ap (λ (d : Due). d ∷ rest) (sym is))

    pub step_failed : kept + work_bytes nodes ≤ length before → w.top < nodes → due ≡ get_or (dues_in kept nodes before) w.top no_due →
        passes due.depth due.id w.low due.high (walk_in kept nodes before w) (node_of v) ≡ false →
        Stepped tree kept nodes before w before None
    step_failed room inside is fail =
        fails (whole room inside is ∙ all-fails tree due rest w.low (walk_in kept nodes before w) (node_of v) is-node fail)

    module _ (given : NextDue kept nodes before v due w) where
      reached_more : reached_in (set (marks_in kept nodes before) due.id 1) ≡ suc w.reached
      reached_more =
          reached-set (marks_in kept nodes before) due.id
          (pass_inside due.depth due.id w.low due.high (walk_in kept nodes before w) (node_of v) given.pass)
          (pass_fresh due.depth due.id w.low due.high (walk_in kept nodes before w) (node_of v) given.pass) ∙
          ap suc (sym given.standing.reached)

      pub step_leaf : due.depth ≡ 0 → (after : List ℕ) → Marks kept nodes due.id before after →
          Stepped tree kept nodes before w after
          (Some (record { awaited = v.link; low = due.high; top = w.top + 1; reached = w.reached + 1 }))
      unfolding comes_to
      step_leaf z after m =
          record {
            same = m.same;
            is =
                rw (m.dues, m.marks, add-one)
                (sym
                (whole given.room given.inside given.is ∙
                all-leaf tree due rest w.low (walk_in kept nodes before w) (node_of v) is-node given.pass z));
            standing =
                record {
                  top = omega (arith, given.inside);
                  free = omega (arith, given.standing.free);
                  reached = omega (arith, ap reached_in m.marks, reached_more);
                };
            more = add-one w.reached;
          }

      module _ (below : ℕ) (deep : due.depth ≡ suc below) where
        abbrev children : List Due
        children = children_of below (pairs_in v) v.link due.high

        entered : comes_to tree kept nodes before w ≡
            visit_all tree (children ++ rest) w.low (marked (walk_in kept nodes before w) due.id w.awaited)
        entered =
            whole given.room given.inside given.is ∙
            all-branch tree due rest w.low (walk_in kept nodes before w) (node_of v) is-node given.pass below deep

        pub step_crowded : w.top < v.count + (w.reached + 1) → Stepped tree kept nodes before w before None
        step_crowded l =
            fails
            (entered ∙
            crowded-none tree (children ++ rest) w.low (marked (walk_in kept nodes before w) due.id w.awaited)
            (omega (
              arith,
              reached_more,
              given.inside,
              length-set (marks_in kept nodes before) due.id 1,
              length-marks_in kept nodes before given.room,
              length-append children rest,
              length-children below (pairs_in v) v.link due.high,
              length-pairs_in v given.sized,
              length-drop (suc w.top) (dues_in kept nodes before),
              length-dues_in kept nodes before given.room,
            )))

        pub step_branch : v.count + (w.reached + 1) ≤ w.top → (middle after : List ℕ) → Marks kept nodes due.id before middle →
            Pushes kept nodes (w.top - v.count) (w.top - v.count + v.count + 1) children middle after →
            Stepped tree kept nodes before w after
            (Some (record { awaited = w.awaited; low = w.low; top = w.top - v.count; reached = w.reached + 1 }))
        unfolding comes_to
        step_branch l middle after m p =
            let behind : w.top - v.count + v.count + 1 ≡ suc w.top = omega arith in
            record {
              same = p.same ∙ m.same;
              is = rw (p.dues, p.marks, m.marks, m.dues, behind) (sym entered);
              standing =
                  record {
                    top = omega (arith, given.inside);
                    free = omega arith;
                    reached = omega (arith, ap reached_in (p.marks ∙ m.marks), reached_more);
                  };
              more = add-one w.reached;
            }

-- An id that passes is below the count.
pub next-inside : (kept nodes : ℕ) (before : List ℕ) (v : NodeValue) (due : Due) (w : WalkValue) → NextDue kept nodes before v due w → due.id < nodes
next-inside kept nodes before v due w given =
    omega (
      arith,
      pass_inside due.depth due.id w.low due.high (walk_in kept nodes before w) (node_of v) given.pass,
      length-marks_in kept nodes before given.room,
    )
