-- The requests of a change at one key, put and delete alike: the table that they make is sound and spells the changed map, and
-- the store can take each of them. The work below the root is settled; the root takes its edits last. Assumes nothing.
use Rattle.std.specs.Prelude.{◌≡◌, Bool, true, false, eqb, ltb}
use Rattle.std.proofs.Math.Path.{refl, ap}
use Rattle.std.proofs.Common.{sym, ◌∙◌, leb-true, leb-false}
use mathlib.Core.List.{List, [], ◌∷◌, ◌++◌, map}
use Prim.Native.Nat.{ℕ, suc, ◌≤◌, ◌<◌}
use native.Mathlib.Omega.{arith}
use Rattle.std.proofs.Math.ListN.{length}
use Rattle.laws.specs.Counts.{bit}
use Rattle.laws.specs.Every.{Every}
use Rattle.laws.specs.Update.{update, update_same, update_other}
use Rattle.layout.specs.Layout.{most_keys, no_leaf, bound32}
use Rattle.pairs.specs.Pairs.{Pair, Within}
use Rattle.pairs.specs.LocalEdit.{LocalEdit}
use Rattle.node.specs.declared.Shape.TheVariants.{Branch}
use Rattle.node.specs.Node.{Node, node, pairs_of, Neat}
use Rattle.node.specs.Change.{Change}
use Rattle.node.specs.Halves.{lower_half, middle_key, upper_half}
use Rattle.tree.specs.Table.{Table, path}
use Rattle.tree.specs.NodeRequest.{NodeRequest, read, rewrite, create, apply_all, count_after_all, change_all}
use Rattle.tree.specs.Fit.{Fits}
use Rattle.tree.specs.Get.{reads_to}
use Rattle.tree.specs.Put.{fits_node, Work, finished, pending, work, finish, write_requests}
use Rattle.tree.specs.Tree.{Tree, root_of, pairs_in, reached, Holds}
use Rattle.tree.specs.Spells.{Spells}
use Rattle.tree_laws.specs.Ids.{used-suc}
use Rattle.tree_laws.specs.Standing.{Once, root-used, holds-keep, neat_within}
use Rattle.tree_laws.specs.Size.{spells_once, depth_count}
use Rattle.tree_laws.specs.LeafOfKey.{path-used}
use Rattle.tree_laws.specs.Halves.{Halved, halved}
use Rattle.tree_laws.specs.Growth.{inner_other, inner_used}
use Rattle.tree_laws.specs.Requests.{apply_all-append, apply_all-reads, fits-append, fits_count, fits-reads}
use Rattle.tree_laws.specs.Settled.{Says, stands_top_neat, Finished, Pending, Good, pending_whole, work_good}

-- The root takes its edits: whole, or in two new nodes below it. The count after that:
unfoldable pub final_count : Table → Work → ℕ
final_count table (finished rs next) = next
final_count table (pending rs next edits) = elim (fits_node (change_all edits (table 0))) [ true ↦ next | false ↦ suc (suc next) ]

pub record Written (limit : ℕ) (table : Table) (count : ℕ) (pairs : List Pair) (rs : List NodeRequest) (final : ℕ) : Type 0 where
  pub spells : Spells (apply_all rs table) final pairs
  pub fits : final ≤ limit → Fits limit rs table count final

module _ (limit d : ℕ) (table : Table) (count : ℕ) (t : Tree d) (pairs : List Pair) (root : root_of d t ≡ 0)
    (ids : (i : ℕ) → reached d t i ≡ bit (ltb i count)) where
  once : Once d count t
  once i = omega (arith, ids i)

  finish-whole : (rs : List NodeRequest) (next : ℕ) → Finished limit d table count t 0 bound32 no_leaf pairs rs next →
      Written limit table count pairs rs next
  finish-whole rs next g =
      record {
        spells =
            record {
              depth = d;
              tree = g.changed.tree;
              stands = rw g.changed.root g.changed.holds;
              root = g.changed.root ∙ root;
              ids = λ i. omega (arith, ids i, g.changed.ids i);
              spelled = g.changed.spelled;
            };
        fits = g.fits;
      }

  module _ (rs : List NodeRequest) (next : ℕ) (edits : List Change) (g : Pending limit d table count t 0 bound32 no_leaf pairs rs next edits)
      (l : most_keys < length (pairs_of (change_all edits (table (root_of d t))))) where
    abbrev top : Node
    top = change_all edits (table (root_of d t))

    abbrev lower : Node
    lower = lower_half top (suc next)

    abbrev upper : Node
    upper = upper_half top

    abbrev crown : Node
    crown = node Branch ((middle_key top, next) ∷ []) (suc next)

    abbrev rooting : List NodeRequest
    rooting = create next lower ∷ create (suc next) upper ∷ rewrite 0 crown ∷ []

    abbrev after : Table
    after = apply_all rs table

    abbrev one : Table
    one = update after next lower

    abbrev both : Table
    both = update one (suc next) upper

    abbrev then : Table
    then = update both 0 crown

    some : 0 < next
    some = omega (arith, root-used d count t once, root, g.changed.grows)

    at-lower : then next ≡ lower
    at-lower =
        update_other both 0 crown next (omega (arith, some)) ∙
        (update_other one (suc next) upper next (omega arith) ∙ update_same after next lower next refl)

    at-upper : then (suc next) ≡ upper
    at-upper = update_other both 0 crown (suc next) (omega arith) ∙ update_same one (suc next) upper (suc next) refl

    root_halved : Halved d then g.changed.tree 0 bound32 no_leaf (middle_key top) next (suc next)
    root_halved =
        let c = g.changed in
        halved d then c.tree 0 bound32 no_leaf top next (suc next)
        (holds-keep d after then c.tree 0 bound32 no_leaf (suc most_keys) top
        (λ i e.
        let u : i < next = inner_used d table after then count next t 0 bound32 no_leaf pairs top once c i (omega arith) in
        update_other both 0 crown i (λ z. inner_other d table after then count next t 0 bound32 no_leaf pairs top once c i e (z ∙ sym root)) ∙
        (update_other one (suc next) upper i (omega arith) ∙ update_other after next lower i (omega arith)))
        c.holds)
        l at-lower at-upper

    finish_halves : Written limit table count pairs (rs ++ rooting) (suc (suc next))
    unfolding Holds root_of reached pairs_in Within
    finish_halves =
        let p = root_halved in
        let c = g.changed in
        let neat_lower : Neat lower =
        rw (p.root_lower, at-lower) at (stands_top_neat d then p.lower 0 (middle_key top) _ (omega (arith, p.under)) p.stands_lower) in
        let neat_upper : Neat upper =
        rw (p.root_upper, at-upper) at (stands_top_neat d then p.upper (middle_key top) bound32 no_leaf (omega arith) p.stands_upper) in
        record {
          spells =
              rw (apply_all-append rs rooting table)
              record {
                depth = suc d;
                tree = (0, (p.lower, middle_key top) ∷ [], p.upper);
                stands = (
                  rw (p.root_lower, p.root_upper) (update_same both 0 crown 0 refl),
                  (omega arith, p.under, tt),
                  omega arith,
                  omega arith,
                  (p.stands_lower, p.stands_upper),
                );
                root = refl;
                ids =
                    λ i.
                    omega
                    (arith, p.ids i, c.ids i, ids i, ap (λ (n : ℕ). bit (eqb i n)) (c.root ∙ root), used-suc next i, used-suc (suc next) i);
                spelled = p.joined ∙ c.spelled;
              };
          fits =
              λ m.
              fits-append limit rs rooting table count next (suc (suc next)) (g.fits (omega arith)) (
                (refl, omega arith, neat_lower),
                (
                  (refl, m, neat_upper),
                  ((omega arith, neat_within 0 bound32 crown (omega arith) (omega arith, p.under, tt) (omega arith)), refl),
                ),
              );
        }

  pub finish_good : (w : Work) → Good limit d table count t 0 bound32 no_leaf pairs w →
      Written limit table count pairs (finish table w) (final_count table w)
  unfolding finish final_count
  finish_good (finished rs next) g = finish-whole rs next g
  finish_good (pending rs next edits) g = go (fits_node (change_all edits (table 0))) refl
    where
      here : length (pairs_of (change_all edits (table (root_of d t)))) ≡ length (pairs_of (change_all edits (table 0)))
      here = ap (λ (i : ℕ). length (pairs_of (change_all edits (table i)))) root

      size : ℕ
      size = length (pairs_of (change_all edits (table 0)))

      go : (x : Bool) → fits_node (change_all edits (table 0)) ≡ x →
          Written limit table count pairs (finish table (pending rs next edits)) (final_count table (pending rs next edits))
      go true e =
          rw (e, finish, final_count)
          (rw root at
          (finish-whole _ next
          (pending_whole limit d table count t 0 bound32 no_leaf pairs rs next edits once g (omega (arith, here, leb-true size most_keys e)))))
      go false e =
          rw (e, finish, final_count)
          (rw root at (finish_halves rs next edits g (omega (arith, here, leb-false size most_keys e))))

-- A change at a key on a table that spells a map.
module _ (table : Table) (count : ℕ) (pairs : List Pair) (s : Spells table count pairs) (k : ℕ) (small : k < bound32) (c : Change)
    (f : List Pair → List Pair) (local : LocalEdit k f) (says : Says c f) where
  abbrev pub work_of : Work
  work_of = work table k c count (path count table k 0)

  written : (limit : ℕ) → Written limit table count (f pairs) (finish table work_of) (final_count table work_of)
  written limit =
      let d = s.depth in
      let t = s.tree in
      finish_good limit d table count t (f pairs) s.root s.ids work_of
      (rw (s.root, s.spelled) at
      (work_good limit table count k c f local says d count t 0 bound32 no_leaf (omega arith) small (omega arith)
      (omega (arith, depth_count table count pairs s)) (spells_once table count pairs s) s.stands))

  final_count_lem : count_after_all (finish table work_of) count ≡ final_count table work_of
  final_count_lem =
      fits_count (final_count table work_of) (finish table work_of) table count (final_count table work_of)
      ((written (final_count table work_of)).fits (omega arith))

  reads-used : Every (λ i. i < count) (path count table k 0)
  reads-used =
      rw s.root at
      (path-used s.depth count table count k s.tree 0 bound32 no_leaf (omega arith) small (omega (arith, depth_count table count pairs s))
      (spells_once table count pairs s) s.stands).0

  -- the table after all requests of the change
  pub write-table : apply_all (write_requests count table k c) table ≡ apply_all (finish table work_of) table
  write-table =
      apply_all-append (reads_to count table k) (finish table work_of) table ∙
      ap (apply_all (finish table work_of)) (apply_all-reads (path count table k 0) table)

  pub write-count : count_after_all (write_requests count table k c) count ≡ final_count table work_of
  write-count = reads-count (path count table k 0) ∙ final_count_lem
    where
      reads-count : (ids : List ℕ) → count_after_all (map read ids ++ finish table work_of) count ≡ count_after_all (finish table work_of) count
      reads-count [] = refl
      reads-count (i ∷ ids) = reads-count ids

  pub write_spells : Spells (apply_all (write_requests count table k c) table) (final_count table work_of) (f pairs)
  write_spells = rw write-table (written 0).spells

  pub write-fits : (limit : ℕ) → final_count table work_of ≤ limit → Fits limit (write_requests count table k c) table count (final_count table work_of)
  write-fits limit l =
      fits-append limit (reads_to count table k) (finish table work_of) table count count (final_count table work_of)
      (fits-reads limit (path count table k 0) table count reads-used)
      (rw (apply_all-reads (path count table k 0) table) ((written limit).fits l))
