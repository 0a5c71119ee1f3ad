-- What stands behind the kept bytes after a mark and after a push. Assumes nothing.
use Rattle.std.specs.Prelude.{◌≡◌, refl, ℕ, suc, ◌+◌, ◌-◌, ◌*◌, ◌≤◌, ◌<◌, take, set, replicate}
use Rattle.std.proofs.Math.Path.{sym, ap}
use Rattle.std.proofs.Common.{◌∙◌, add_assoc, length-set, drop_of_length-le, drop-cons, drop-set-lt, get_or-set_same}
use mathlib.Core.List.{List, [], ◌∷◌, ◌++◌}
use native.Mathlib.Omega.{arith}
use Rattle.std.proofs.Math.ListN.{length, drop}
use Rattle.std.proofs.lemmas.List.{length-replicate}
use Rattle.std.proofs.Math.Seq.{take-set-le, take-set-lt, drop-set-add}
use borrow.Rule.Slice.PartMut.{put_mid}
use Rattle.laws.specs.Lay.{lay, part, part-lay, part-lay-before, part-lay-behind, length_part, length-lay, lay-lent, part-zero, part-lent}
use Rattle.mount_tree.specs.declared.due.Due.{Due}
use Rattle.layout.specs.Layout.{due_bytes, work_bytes}
use Rattle.mount_tree.specs.Due.{dues_of, no_due}
use Rattle.mount_tree.specs.Stack.{length_dues}
use Rattle.mount_tree.specs.Area.{dues_in, marks_in, Marks, Pushes, root_due, Begun}

-- The dues and the marks, as the code lends them.
pub dues_between : (kept nodes : ℕ) (table : List ℕ) → dues_of (take (kept + due_bytes * nodes - kept) (drop kept table)) ≡ dues_in kept nodes table
unfolding dues_in
dues_between kept nodes table = ap dues_of (part-lent table kept (kept + due_bytes * nodes) (due_bytes * nodes) refl)

pub marks-between : (kept nodes : ℕ) (table : List ℕ) →
    take (kept + due_bytes * nodes + nodes - (kept + due_bytes * nodes)) (drop (kept + due_bytes * nodes) table) ≡ marks_in kept nodes table
unfolding marks_in
marks-between kept nodes table = part-lent table (kept + due_bytes * nodes) (kept + due_bytes * nodes + nodes) nodes refl

module _ (kept nodes : ℕ) (before : List ℕ) (room : kept + work_bytes nodes ≤ length before) where
  pub length-dues_in : length (dues_in kept nodes before) ≡ nodes
  unfolding dues_in
  length-dues_in =
      length_dues (part before kept (due_bytes * nodes)) ∙
      (let e = length_part before kept (due_bytes * nodes) (omega arith) in omega arith)

  pub length-marks_in : length (marks_in kept nodes before) ≡ nodes
  unfolding marks_in
  length-marks_in = length_part before (kept + due_bytes * nodes) nodes (omega arith)

  -- A mark laid.
  pub mark_leaves : (id : ℕ) (after : List ℕ) → id < nodes → after ≡ set before (kept + due_bytes * nodes + id) 1 → Marks kept nodes id before after
  unfolding dues_in marks_in part
  mark_leaves id after l e =
      let from = kept + due_bytes * nodes in
      rw e
      record {
        same = take-set-le kept before (from + id) 1 (omega arith);
        dues =
            ap (λ (s : List ℕ). dues_of (take (due_bytes * nodes) s))
            (ap (λ (i : ℕ). drop kept (set before i 1)) (add_assoc kept (due_bytes * nodes) id) ∙
            drop-set-add kept before (due_bytes * nodes + id) 1) ∙
            ap dues_of (take-set-le (due_bytes * nodes) (drop kept before) (due_bytes * nodes + id) 1 (omega arith));
        marks = ap (take nodes) (drop-set-add from before id 1) ∙ take-set-lt nodes (drop from before) id 1 l;
      }

  -- The stack lent and come back with other dues from a slot on.
  pub push_leaves : (base behind : ℕ) (children : List Due) (stack : List ℕ) → length stack ≡ kept + due_bytes * nodes - kept →
      drop base (dues_of stack) ≡ children ++ drop behind (dues_of (take (kept + due_bytes * nodes - kept) (drop kept before))) →
      Pushes kept nodes base behind children before (put_mid kept (kept + due_bytes * nodes - kept) before stack)
  unfolding dues_in marks_in
  push_leaves base behind children stack size d =
      let inside : kept ≤ length before = omega arith in
      let many : length stack ≡ due_bytes * nodes = omega arith in
      let whole : part (lay before kept stack) kept (due_bytes * nodes) ≡ stack = rw many at (part-lay before kept stack inside) in
      rw (lay-lent kept (kept + due_bytes * nodes) before stack (omega arith) size)
      record {
        same = sym (part-zero (lay before kept stack) kept) ∙ part-lay-before before kept stack inside 0 kept (omega arith) ∙ part-zero before kept;
        dues =
            ap (λ (s : List ℕ). drop base (dues_of s)) whole ∙ d ∙
            ap (λ (ds : List Due). children ++ drop behind ds) (dues_between kept nodes before);
        marks = part-lay-behind before kept stack inside (kept + due_bytes * nodes) nodes (omega arith);
      }

-- The root written in the last slot.
pub root-last : (nodes depth : ℕ) (dues dues' : List Due) → 1 ≤ nodes → length dues ≡ nodes → dues' ≡ set dues (nodes - 1) (root_due depth) →
    drop (nodes - 1) dues' ≡ (root_due depth ∷ []) ++ drop nodes dues
root-last nodes depth dues dues' l size e =
    let inside : nodes - 1 < length dues = omega arith in
    let inside' : nodes - 1 < length dues' = rw e (omega (arith, length-set dues (nodes - 1) (root_due depth))) in
    let next : suc (nodes - 1) ≡ nodes = omega arith in
    drop-cons dues' (nodes - 1) no_due inside' ∙
    rw e
    (rw (get_or-set_same dues (nodes - 1) (root_due depth) no_due inside, drop-set-lt (suc (nodes - 1)) dues (nodes - 1) (root_due depth) (omega arith), next) refl)

-- The marks made blank, and the root pushed.
pub begin-leaves : (kept nodes depth size : ℕ) (before middle after : List ℕ) → kept + work_bytes nodes ≤ length before → size ≡ nodes →
    middle ≡ lay before (kept + due_bytes * nodes) (replicate size 0) →
    Pushes kept nodes (nodes - 1) nodes (root_due depth ∷ []) middle after → Begun kept nodes depth before after
unfolding marks_in
begin-leaves kept nodes depth size before middle after room s e p =
    let from = kept + due_bytes * nodes in
    let f : middle ≡ lay before from (replicate nodes 0) = e ∙ ap (λ (k : ℕ). lay before from (replicate k 0)) s in
    let many = length-replicate {A = ℕ} nodes 0 in
    let inside : from ≤ length before = omega arith in
    let laid : part (lay before from (replicate nodes 0)) from nodes ≡ replicate nodes 0 = rw many at (part-lay before from (replicate nodes 0) inside) in
    let room' : kept + work_bytes nodes ≤ length middle = rw f (omega (arith, length-lay before from (replicate nodes 0) (omega arith))) in
    let short : length (dues_in kept nodes middle) ≤ nodes = omega (arith, length-dues_in kept nodes middle room') in
    record {
      same =
          p.same ∙ ap (take kept) f ∙ sym (part-zero (lay before from (replicate nodes 0)) kept) ∙
          part-lay-before before from (replicate nodes 0) inside 0 kept (omega arith) ∙ part-zero before kept;
      dues = p.dues ∙ ap (λ (ds : List Due). root_due depth ∷ ds) (drop_of_length-le (dues_in kept nodes middle) short);
      marks = p.marks ∙ ap (λ (t : List ℕ). part t from nodes) f ∙ laid;
    }
