-- Lists of node requests one behind the other: what they make of a table and of the count, and that they fit. Assumes nothing.
use Rattle.std.specs.Prelude.{◌≡◌, refl, List, [], ◌∷◌, ◌++◌, map, ℕ, ◌≤◌, ◌<◌}
use Rattle.std.proofs.Common.{ap, ◌∙◌, arith}
use Rattle.laws.specs.Every.{Every, none, both}
use Rattle.laws.specs.Update.{update_same, update_other}
use Rattle.node.specs.Node.{Node, Neat}
use Rattle.node.specs.Change.{Change, Suits, change}
use Rattle.tree.specs.Table.{Table}
use Rattle.tree.specs.NodeRequest.{NodeRequest, read, edit, rewrite, create, apply, apply_all, count_after, count_after_all, change_all, id_of}
use Rattle.tree.specs.Fit.{Fits}

-- Each request changes one node: every other is as it was. None lessens the count.
pub apply-other : (r : NodeRequest) (table : Table) (i : ℕ) → (i ≡ id_of r → ⊥) → apply r table i ≡ table i
apply-other (read id) table i e = refl
apply-other (edit id c) table i e = update_other table id (change c (table id)) i e
apply-other (rewrite id n) table i e = update_other table id n i e
apply-other (create id n) table i e = update_other table id n i e

pub count_after_le : (r : NodeRequest) (count : ℕ) → count ≤ count_after r count
count_after_le (read id) count = omega arith
count_after_le (edit id c) count = omega arith
count_after_le (rewrite id n) count = omega arith
count_after_le (create id n) count = omega arith

pub apply_all-append : (rs ss : List NodeRequest) (table : Table) → apply_all (rs ++ ss) table ≡ apply_all ss (apply_all rs table)
apply_all-append [] ss table = refl
apply_all-append (r ∷ rs) ss table = apply_all-append rs ss (apply r table)

pub apply_all-reads : (ids : List ℕ) (table : Table) → apply_all (map read ids) table ≡ table
apply_all-reads [] table = refl
apply_all-reads (i ∷ ids) table = apply_all-reads ids table

pub edits_same : (cs : List Change) (id : ℕ) (table : Table) → apply_all (map (edit id) cs) table id ≡ change_all cs (table id)
edits_same [] id table = refl
edits_same (c ∷ cs) id table =
    edits_same cs id (apply (edit id c) table) ∙ ap (change_all cs) (update_same table id (change c (table id)) id refl)

pub edits-other : (cs : List Change) (id : ℕ) (table : Table) (i : ℕ) → (i ≡ id → ⊥) → apply_all (map (edit id) cs) table i ≡ table i
edits-other [] id table i e = refl
edits-other (c ∷ cs) id table i e = edits-other cs id (apply (edit id c) table) i e ∙ update_other table id (change c (table id)) i e

module _ (limit : ℕ) where
  pub fits-append : (rs ss : List NodeRequest) (table : Table) (count middle final : ℕ) → Fits limit rs table count middle →
      Fits limit ss (apply_all rs table) middle final → Fits limit (rs ++ ss) table count final
  fits-append [] ss table count middle final f g = rw f g
  fits-append (r ∷ rs) ss table count middle final f g =
      (f.0, fits-append rs ss (apply r table) (count_after r count) middle final f.1 g)

  -- the final count is that of the creates
  pub fits_count : (rs : List NodeRequest) (table : Table) (count final : ℕ) → Fits limit rs table count final → count_after_all rs count ≡ final
  fits_count [] table count final f = f
  fits_count (r ∷ rs) table count final f = fits_count rs (apply r table) (count_after r count) final f.1

  pub fits-reads : (ids : List ℕ) (table : Table) (count : ℕ) → Every (λ i. i < count) ids → Fits limit (map read ids) table count count
  fits-reads [] table count none = refl
  fits-reads (i ∷ ids) table count (both l e) = (l, fits-reads ids table count e)

-- Each content on the path is neat, and each change suits it.
abbrev pub NeatAll : List Change → Node → Type 0
NeatAll [] n = Unit {0}
NeatAll (c ∷ cs) n = Neat (change c n) × Suits c n × NeatAll cs (change c n)

pub fits-edits : (limit : ℕ) (cs : List Change) (id : ℕ) (table : Table) (count : ℕ) (n : Node) → table id ≡ n → id < count → NeatAll cs n →
    Fits limit (map (edit id) cs) table count count
fits-edits limit [] id table count n e l a = refl
fits-edits limit (c ∷ cs) id table count n e l a = (
  (l, rw e a.0, rw e a.1),
  fits-edits limit cs id (apply (edit id c) table) count (change c n)
      (update_same table id (change c (table id)) id refl ∙ ap (change c) e) l a.2,
)
