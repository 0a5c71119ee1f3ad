-- THE WALK DOWN of the code reads the nodes of the model's path, in order, and ends at the model's leaf with its content in hand: a read may switch its
-- node's mode, but leaves every content as it was. Assumes nothing.
use Rattle.std.specs.Prelude.{◌≡◌, true, List, [], ◌∷◌, map, Option, None, Some}
use Rattle.std.proofs.Math.Path.{refl, ap}
use Rattle.std.proofs.Common.{◌∙◌}
use Prim.Native.Nat.{ℕ, zero, suc, ◌+◌, ◌-◌, ◌*◌, ◌≤◌, ◌<◌}
use native.Mathlib.Omega.{arith}
use Rattle.laws.specs.Every.{Every, none, both}
use Rattle.layout.specs.Layout.{node_limit, bound32}
use Rattle.pairs.specs.Pairs.{Pair}
use Rattle.account.specs.declared.Tariff.{Tariff}
use Rattle.tree.specs.Table.{Table, child_for, path, leaf_for}
use Rattle.tree.specs.NodeRequest.{read}
use Rattle.tree.specs.Sound.{sound}
use Rattle.tree_laws.specs.SoundLaws.{spells_sound}
use Rattle.tree_laws.specs.Size.{depth_count}
use Rattle.tree_laws.specs.Levels.{path_enough, leaf_for_enough}
use Rattle.tree_laws.specs.LeafOfKey.{path-leaf, path_step, leaf_for-leaf, leaf_for_step}
use Rattle.tree_laws.specs.GetLaws.{path-found}
use Rattle.book.specs.Book.{Book}
use Rattle.book.specs.Book as Book
use Rattle.store.specs.Serve as Store
use Rattle.store_laws.specs.Numbers.{last}
use Rattle.model.specs.State.{State, book_of, serve, serve_all}
use Rattle.demands.specs.Says.{book_of-count}
use Rattle.demands.specs.Step.{serve-says}
use Rattle.demands.specs.Run.{Holds}
use Rattle.flash_allocate.specs.World.{World}
use Rattle.run_serve.specs.Serve.{charge}
use Rattle.run_path.specs.Path.{table_in, steps_in}
use Rattle.run_path.specs.Descend.{Descent, ended, descend, descent}
use Rattle.run_path.specs.Descending.{descend-leaf, descend_out, descend_step}
use Rattle.run_refines.specs.Requests.Requests.{served}
use Rattle.run_refines.specs.Commands.Lists.{served_all, charged_all, Runs}
use Rattle.run_refines.proofs.Commands.Lists.{request_runs, request_last}
use Rattle.run_refines.specs.Commands.Tables.{table_agrees}

-- A walk that read these nodes and ended at this one, in a world and a state with this table of nodes: they have it afterwards too.
pub record Walked (blocks : ℕ) (t : Tariff) (w : World) (s : State) (table : Table) (count : ℕ) (ns : List ℕ) (end : ℕ) (d : Descent) : Type 0 where
  pub world : d.now ≡ served_all t (map read ns) w
  pub charge : d.charge ≡ charged_all t (map read ns) w
  pub leaf : d.leaf ≡ end
  pub node : d.node ≡ table end
  pub runs : Runs blocks d.now (serve_all t (map read ns) s)
  pub same_table : (book_of (serve_all t (map read ns) s)).table ≡ table
  pub same_count : (book_of (serve_all t (map read ns) s)).count ≡ count

module _ (blocks : ℕ) (t : Tariff) (key : ℕ) (table : Table) (count : ℕ) where
  -- What is known at every node of it.
  record At (w : World) (s : State) : Type 0 where
    runs : Runs blocks w s
    same_table : (book_of s).table ≡ table
    same_count : (book_of s).count ≡ count

  -- One read of it.
  module _ {w : World} {s : State} (a : At w s) (id : ℕ) (there : id < count) (number : 5 + last s.run < bound32) where
    fit : id < (book_of s).count
    fit = omega (arith, a.same_count)

    said : book_of (serve t (read id) s) ≡ Book.serve t (read id) (book_of s)
    said = (serve-says t s a.runs.sound (read id) fit).is

    after : At (served t (read id) w) (serve t (read id) s)
    unfolding Book.serve
    after =
        record {
          runs = request_runs a.runs t (read id) fit tt number;
          same_table = ap (λ (b : Book). b.table) said ∙ a.same_table;
          same_count = ap (λ (b : Book). b.count) said ∙ a.same_count;
        }

    after_last : last (serve t (read id) s).run ≤ 4 + last s.run
    after_last = request_last a.runs t (read id) fit tt number

    -- the walk ends there
    ends : Walked blocks t w s table count (id ∷ []) id (ended t id w)
    ends =
        record {
          world = refl;
          charge = omega arith;
          leaf = refl;
          node = ap (λ (z : Table). z id) (table_agrees a.runs ∙ a.same_table);
          runs = after.runs;
          same_table = after.same_table;
          same_count = after.same_count;
        }

    leads : (next : Option ℕ) → child_for key (table id) ≡ next → child_for key (table_in w id) ≡ next
    leads next e = ap (λ (z : Table). child_for key (z id)) (table_agrees a.runs ∙ a.same_table) ∙ e

    walk_ends : (fuel : ℕ) → child_for key (table id) ≡ None →
        Walked blocks t w s table count (path fuel table key id) (leaf_for fuel table key id) (descend fuel t key id w)
    walk_ends fuel e = rw (path-leaf table key fuel id e, leaf_for-leaf table key fuel id e, descend-leaf t key id w (leads None e) fuel) ends

    -- or goes on at a child
    walk_on : (fuel child : ℕ) → child_for key (table id) ≡ Some child →
        Walked blocks t (served t (read id) w) (serve t (read id) s) table count (path fuel table key child) (leaf_for fuel table key child)
        (descend fuel t key child (served t (read id) w)) →
        Walked blocks t w s table count (path (suc fuel) table key id) (leaf_for (suc fuel) table key id) (descend (suc fuel) t key id w)
    walk_on fuel child e r =
        rw (
          path_step table key fuel id child e,
          leaf_for_step table key fuel id child e,
          descend_step t key id w child fuel (leads (Some child) e),
        )
        record {
          world = r.world;
          charge = ap (λ (n : ℕ). charge t id Store.read w + n) r.charge;
          leaf = r.leaf;
          node = r.node;
          runs = r.runs;
          same_table = r.same_table;
          same_count = r.same_count;
        }

  abbrev Used : List ℕ → Type 0
  Used ns = Every (λ i. i < count) ns

  used-first : (fuel id : ℕ) → Used (path fuel table key id) → id < count
  unfolding path
  used-first zero id (both l ls) = l
  used-first (suc fuel) id (both l ls) = l

  used-next : (fuel id child : ℕ) → child_for key (table id) ≡ Some child → Used (path (suc fuel) table key id) → Used (path fuel table key child)
  used-next fuel id child e u = tail (rw (path_step table key fuel id child e) at u)
    where
      tail : {n : ℕ} {ns : List ℕ} → Used (n ∷ ns) → Used ns
      tail (both l ls) = ls

  -- FROM ANY NODE ON, by at most so many steps.
  walks : (fuel id : ℕ) (w : World) (s : State) → At w s → Used (path fuel table key id) → 5 + (4 * fuel + last s.run) < bound32 →
      Walked blocks t w s table count (path fuel table key id) (leaf_for fuel table key id) (descend fuel t key id w)
  unfolding path leaf_for
  walks zero id w s a u number = rw (descend_out t key id w) (ends a id (used-first zero id u) (omega arith))
  walks (suc fuel) id w s a u number =
      let there : id < count = used-first (suc fuel) id u in
      let left : 5 + last s.run < bound32 = omega arith in
      let fewer = after_last a id there left in
      go (child_for key (table id)) refl
      (λ child e. walks fuel child (served t (read id) w) (serve t (read id) s) (after a id there left) (used-next fuel id child e u) (omega arith))
    where
      go : (next : Option ℕ) → child_for key (table id) ≡ next →
          ((child : ℕ) → child_for key (table id) ≡ Some child →
          Walked blocks t (served t (read id) w) (serve t (read id) s) table count (path fuel table key child) (leaf_for fuel table key child)
          (descend fuel t key child (served t (read id) w))) →
          Walked blocks t w s table count (path (suc fuel) table key id) (leaf_for (suc fuel) table key id) (descend (suc fuel) t key id w)
      go None e rest = walk_ends a id (used-first (suc fuel) id u) (omega arith) (suc fuel) e
      go (Some child) e rest = walk_on a id (used-first (suc fuel) id u) (omega arith) fuel child e (rest child e)

-- FROM THE ROOT ON, in a book that spells a map: the nodes of the model's path are read, and the model's leaf is in hand.
pub descent_walked : {blocks : ℕ} {w : World} {s : State} → Runs blocks w s → (ps : List Pair) → Holds (node_limit blocks) (book_of s) ps →
    (t : Tariff) (key : ℕ) → key < bound32 → 1 + (4 * (book_of s).count + last s.run) < bound32 →
    Walked blocks t w s (book_of s).table (book_of s).count (path (book_of s).count (book_of s).table key 0)
    (leaf_for (book_of s).count (book_of s).table key 0) (descent t key w)
descent_walked {blocks} {w} {s} k ps h t key small number =
    let count = (book_of s).count in
    let table = (book_of s).table in
    let steps : steps_in w ≡ count - 1 = omega (arith, k.agrees.nodes, book_of-count s) in
    let is-sound : sound (node_limit blocks) count table ≡ true = spells_sound (node_limit blocks) count table ps h.spells h.most in
    let same = path_enough (node_limit blocks) count table is-sound key (count - 1) (omega arith) in
    let end = leaf_for_enough (node_limit blocks) count table is-sound key (count - 1) (omega arith) in
    let used = (path-found table count ps h.spells key small).0 in
    rw (steps, ← same, ← end)
    (walks blocks t key table count (count - 1) 0 w s (record { runs = k; same_table = refl; same_count = refl }) (rw same used)
    (omega (arith, depth_count table count ps h.spells)))
