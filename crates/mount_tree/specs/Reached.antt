-- Every visit that passes reaches at least one id more, and there are no more ids than marks: so a walk on which more nodes are due than ids are not
-- reached does not pass. Assumes nothing.
use Rattle.std.specs.Prelude.{◌≡◌, Bool, true, false, ℕ, zero, suc, ◌+◌, ◌≤◌, ◌<◌, eqb, length, get_or, set, replicate, Option, None, Some}
use Rattle.std.proofs.Math.Path.{refl}
use Rattle.std.proofs.Common.{sym, ◌∙◌, arith, ne_eqb, length-set}
use mathlib.Core.List.{List, [], ◌∷◌}
use Prim.Native.Nat.compare
use Rattle.laws.specs.Options.{none_some, some_same}
use Rattle.laws.specs.Counts.{count, bit, count_le_length}
use Rattle.pairs.specs.Pairs.{Pair}
use Rattle.node.specs.Node.{pairs_of, link_of}
use Rattle.tree.specs.Table.{Table}
use Rattle.tree.specs.Sound.{Walk, visit_children, visit, all_marked}
use Rattle.mount_tree.specs.declared.due.Due.{Due}
use Rattle.mount_tree.specs.Passes.{passes, marked, visit-fails, visit-leaf, visit-branch, pass_inside, pass_fresh}
use Rattle.mount_tree.specs.Pending.{and_then, visit_all}

-- How many ids were reached.
unfoldable pub reached_in : List ℕ → ℕ
reached_in marks = count (λ m. eqb m 1) marks

pub reached_le : (marks : List ℕ) → reached_in marks ≤ length marks
unfolding reached_in
reached_le marks = count_le_length (λ m. eqb m 1) marks

pub reached-set : (marks : List ℕ) (id : ℕ) → id < length marks → get_or marks id 0 ≡ 0 → reached_in (set marks id 1) ≡ suc (reached_in marks)
unfolding reached_in
reached-set [] id l e = absurd (omega arith)
reached-set (m ∷ ms) zero l e = let f : eqb m 1 ≡ false = ne_eqb m 1 (λ g. omega arith) in rw f (omega arith)
reached-set (m ∷ ms) (suc id) l e = omega (arith, reached-set ms id (omega arith) e)

pub reached-zero : (n : ℕ) → reached_in (replicate n 0) ≡ 0
unfolding reached_in
reached-zero zero = refl
reached-zero (suc n) = omega (arith, reached-zero n)

-- Every id was reached exactly if as many were as there are.
pub all-reached : (marks : List ℕ) → all_marked marks ≡ eqb (reached_in marks) (length marks)
unfolding all_marked reached_in
all-reached [] = refl
all-reached (m ∷ ms) = go (eqb m 1) refl (all-reached ms)
  where
    go : (b : Bool) → eqb m 1 ≡ b → all_marked ms ≡ eqb (reached_in ms) (length ms) →
        all_marked (m ∷ ms) ≡ eqb (reached_in (m ∷ ms)) (length (m ∷ ms))
    go true e r = let f : bit true + reached_in ms ≡ suc (reached_in ms) = omega arith in rw (e, f, compare.suc-suc) r
    go false e r =
        let f : bit false + reached_in ms ≡ reached_in ms = omega arith in
        rw (e, f) (sym (ne_eqb (reached_in ms) (suc (length ms)) (λ g. omega (arith, reached_le ms))))

-- What a walk that passes has done to the marks, with so many nodes visited at least.
record Grown (least : ℕ) (w w' : Walk) : Type 0 where
  more : least + reached_in w.marks ≤ reached_in w'.marks
  size : length w'.marks ≡ length w.marks

grown-none : (w w' : Walk) → Some w ≡ Some w' → Grown 0 w w'
grown-none w w' e = rw (← some_same e) record { more = omega arith; size = refl }

grown-then : (m n : ℕ) (w v w' : Walk) → Grown m w v → Grown n v w' → Grown (m + n) w w'
grown-then m n w v w' a b = record { more = omega (arith, a.more, b.more); size = b.size ∙ a.size }

-- One walk after another.
grown-after : (m n : ℕ) (w w' : Walk) (o : Option Walk) (next : Walk → Option Walk) → ((v : Walk) → o ≡ Some v → Grown m w v) →
    ((v : Walk) → next v ≡ Some w' → Grown n v w') → and_then o next ≡ Some w' → Grown (m + n) w w'
grown-after m n w w' None next f g e = absurd (none_some e)
grown-after m n w w' (Some v) next f g e = grown-then m n w v w' (f v refl) (g v e)

-- The children of a branch, where a visit of each reaches one id at least; then a node of any depth.
module _ (next : ℕ → ℕ → ℕ → Walk → Option Walk) (child : (id low high : ℕ) (w w' : Walk) → next id low high w ≡ Some w' → Grown 1 w w') where
  grown-children : (ps : List Pair) (last low high : ℕ) (w w' : Walk) → visit_children next ps last low high w ≡ Some w' → Grown 1 w w'
  unfolding visit_children
  grown-children [] last low high w w' e = child last low high w w' e
  grown-children (p ∷ ps) last low high w w' e = go (next p.1 low p.0 w) refl (grown-children ps last p.0 high)
    where
      go : (o : Option Walk) → next p.1 low p.0 w ≡ o →
          ((v v' : Walk) → visit_children next ps last p.0 high v ≡ Some v' → Grown 1 v v') → Grown 1 w w'
      go None f r = absurd (none_some (rw (f, visit_children) at e))
      go (Some v) f r =
          let g = grown-then 1 1 w v w' (child p.1 low p.0 w v f) (r v w' (rw (f, visit_children) at e)) in
          record { more = omega (arith, g.more); size = g.size }

-- The id itself, marked.
grown_mark : (depth : ℕ) (table : Table) (id low high : ℕ) (w : Walk) (awaited : ℕ) → passes depth id low high w (table id) ≡ true →
    Grown 1 w (marked w id awaited)
grown_mark depth table id low high w awaited e =
    record {
      more =
          omega (
            arith,
            reached-set w.marks id (pass_inside depth id low high w (table id) e) (pass_fresh depth id low high w (table id) e),
          );
      size = length-set w.marks id 1;
    }

grown-visit : (depth : ℕ) (table : Table) (id low high : ℕ) (w w' : Walk) → visit depth table id low high w ≡ Some w' → Grown 1 w w'
grown-visit zero table id low high w w' e = go (passes 0 id low high w (table id)) refl
  where
    go : (b : Bool) → passes 0 id low high w (table id) ≡ b → Grown 1 w w'
    go false f = absurd (none_some (sym (visit-fails table 0 id low high w (table id) refl f) ∙ e))
    go true f =
        let is = some_same (sym (visit-leaf table 0 id low high w (table id) refl f refl) ∙ e) in
        rw (← is) (grown_mark 0 table id low high w (link_of (table id)) f)
grown-visit (suc d) table id low high w w' e = go (passes (suc d) id low high w (table id)) refl (grown-visit d table)
  where
    go : (b : Bool) → passes (suc d) id low high w (table id) ≡ b →
        ((id low high : ℕ) (w w' : Walk) → visit d table id low high w ≡ Some w' → Grown 1 w w') → Grown 1 w w'
    go false f r = absurd (none_some (sym (visit-fails table (suc d) id low high w (table id) refl f) ∙ e))
    go true f r =
        let v = marked w id w.awaited in
        let is = sym (visit-branch table (suc d) id low high w (table id) refl f d refl) ∙ e in
        let g = grown-then 1 1 w v w' (grown_mark (suc d) table id low high w w.awaited f)
        (grown-children (visit d table) r (pairs_of (table id)) (link_of (table id)) low high v w' is) in
        record { more = omega (arith, g.more); size = g.size }

-- So a walk over all nodes due reaches one id for each of them at least.
grown-all : (table : Table) (ds : List Due) (low : ℕ) (w w' : Walk) → visit_all table ds low w ≡ Some w' → Grown (length ds) w w'
unfolding visit_all
grown-all table [] low w w' e = grown-none w w' e
grown-all table (d ∷ ds) low w w' e =
    let g = grown-after 1 (length ds) w w' (visit d.depth table d.id low d.high w) (visit_all table ds d.high)
    (grown-visit d.depth table d.id low d.high w) (λ v. grown-all table ds d.high v w') e in
    record { more = omega (arith, g.more); size = g.size }

pub crowded-none : (table : Table) (ds : List Due) (low : ℕ) (w : Walk) → length w.marks < length ds + reached_in w.marks →
    visit_all table ds low w ≡ None
crowded-none table ds low w l = go (visit_all table ds low w) refl
  where
    go : (o : Option Walk) → visit_all table ds low w ≡ o → visit_all table ds low w ≡ None
    go None e = e
    go (Some v) e = let g = grown-all table ds low w v e in absurd (omega (arith, g.more, g.size, reached_le v.marks))
