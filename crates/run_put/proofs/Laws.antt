-- The steps of a put put together. Assumes nothing.
use mathlib.Core.Path.{◌≡◌, refl, sym, ap, ap₂, ◌∙◌, subst}
use mathlib.Core.List.{List}
use Rattle.std.specs.Prelude.{Result, Ok, Err}
use Prim.Native.Nat.{ℕ, ◌+◌, ◌-◌, ◌≤◌, ◌<◌}
use native.Mathlib.Omega.{arith}
use borrow.Author.Tests.{lt-ltb, le-ltb}
use lib.ListN.{length, get_or, take}
use lib.Seq.{get_or-take, length-take-le}
use Rattle.layout.specs.Layout.{node_limit, most_blocks, most_keys}
use Rattle.account.specs.declared.Tariff.{Tariff}
use Rattle.command.specs.declared.Answer.{Answer}
use Rattle.command.specs.declared.Answer.TheVariants.{Absent, Replaced, Refused}
use Rattle.command.specs.Answer.{value_or}
use Rattle.pairs.specs.Pairs.{Pair, lookup}
use Rattle.node.specs.Node.{Node, pairs_of}
use Rattle.node.specs.Change as Change
use Rattle.node.specs.Value.{pairs_in, node_of}
use Rattle.tree.specs.Table.{Table, path, leaf_for}
use Rattle.tree.specs.Put.{ids_needed}
use Rattle.tree_laws.specs.IdsNeeded.{size_at}
use Rattle.flash_rows.specs.Worktable.{Worktable}
use Rattle.store.specs.Serve.{edit}
use Rattle.flash_allocate.specs.declared.state.State.{State}
use Rattle.flash_allocate.specs.World.{World, world}
use Rattle.run_serve.specs.Step.{Charged, Answered, uncharged, kept_then, charged-none, charged-is, both, then}
use Rattle.run_serve.specs.Serve.{serve_holding, charge, ServedHolding}
use Rattle.run_path.specs.declared.path.Path.{Path}
use Rattle.run_path.specs.Path.{table_in, steps_in, PathTo}
use Rattle.run_path.specs.Reads.{ReadAs}
use Rattle.node.specs.Fit.{fit_of, full-above}
use Rattle.run_split.specs.Growing.{Growing, grew_same, grew_charged, grew_then}
use Rattle.run_split.specs.SplitUpwards.{split_upwards, SplitUpwardsAs}
use Rattle.run_put.specs.Put.{last_of, read_and_edit, read_and_split, Doing, answering, refused, put_splitting, put_in, put, RequestsAs, DoneAs}

-- The reads, then the edit or the splits.
module _ {P₀ T₀ P₁ T₁ : ℕ} (t : Tariff) (key value : ℕ) (on_path : List ℕ) (w : World) (g : Growing P₀ T₀ w.state)
    (few : length on_path ≤ node_limit most_blocks)
    (pages₁ : List (List ℕ)) (held₁ : Worktable) (one : Charged) (r : ReadAs P₁ T₁ pages₁ held₁ one t (length on_path) on_path w)
    (pages : List (List ℕ)) (held : Worktable) (two : Charged) where
  pub then-edit : {P T : ℕ} (leaf id : ℕ) (x : Node) → id ≡ leaf →
      ServedHolding P T pages held two t id x (edit (Change.put key value)) (world pages₁ held₁ one.state) →
      RequestsAs P T pages held (both one two) w.state (read_and_edit t on_path leaf x key value w)
  unfolding read_and_edit
  then-edit {P} {T} leaf id x e s =
      let work = edit (Change.put key value) in
      let step = serve_holding t leaf x work in
      let served = subst (λ (n : ℕ). ServedHolding P T pages held two t n x work (world pages₁ held₁ one.state)) e s in
      charged-is (grew_charged g (then step (charge t leaf work) (kept_then step) r served)) (omega (arith, few)) refl refl

  pub then-split : {P T : ℕ} → SplitUpwardsAs P T pages held two t key value on_path (world pages₁ held₁ one.state) →
      RequestsAs P T pages held (both one two) w.state (read_and_split t on_path key value w)
  unfolding read_and_split
  then-split s =
      let step : World → World = λ z. (split_upwards t key value on_path z).now in
      charged-is (then step (λ (z : World). (split_upwards t key value on_path z).charge) (grew_then step) r s) (omega (arith, few)) refl refl

pub done-is : {P T : ℕ} {pages : List (List ℕ)} {held : Worktable} {r : Answered} {s : State} {a b : Doing} → a ≡ b → DoneAs P T pages held r s a →
    DoneAs P T pages held r s b
done-is {P} {T} {pages} {held} {r} {s} e k = subst (λ (z : Doing). DoneAs P T pages held r s z) e k

-- A new key: refused, or put with the splits.
module _ (t : Tariff) (on_path : List ℕ) (needed counted key value : ℕ) (w : World) (e : needed ≡ counted) where
  pub new_refused : {P T : ℕ} → node_limit w.state.blocks < w.state.nodes + needed → Growing P T w.state →
      DoneAs P T w.pages w.table (record { charged = uncharged w.state; answer = Refused 9 }) w.state
      (put_splitting t on_path counted key value w)
  unfolding put_splitting
  new_refused l g =
      let is : refused w ≡ put_splitting t on_path counted key value w =
      rw (← e, lt-ltb (node_limit w.state.blocks) (w.state.nodes + needed) l) refl in
      done-is is (record { charged = charged-is (charged-none w (grew_same w g)) (omega arith) refl refl; answer = refl })

  pub new_split : {P T : ℕ} (pages : List (List ℕ)) (held : Worktable) (r : Charged) → w.state.nodes + needed ≤ node_limit w.state.blocks →
      RequestsAs P T pages held r w.state (read_and_split t on_path key value w) →
      DoneAs P T pages held (record { charged = r; answer = Absent }) w.state (put_splitting t on_path counted key value w)
  unfolding put_splitting
  new_split pages held r l k =
      let is : answering Absent (read_and_split t on_path key value w) ≡ put_splitting t on_path counted key value w =
      rw (← e, le-ltb (node_limit w.state.blocks) (w.state.nodes + needed) l) refl in
      done-is is (record { charged = k; answer = refl })

-- The way down: the ids of the path are lent on as the front of the lent array.
module _ (key : ℕ) (w : World) (p : Path) (lent : List ℕ) (to : PathTo (table_in w) (steps_in w) key lent p) where
  abbrev ids : List ℕ
  ids = take p.length lent

  many : length ids ≡ p.length
  many = length-take-le p.length lent (omega (arith, to.few, to.room))

  pub ids_some : 1 ≤ length ids
  ids_some = omega (arith, many, to.some)

  pub ids_few : length ids ≤ node_limit most_blocks
  ids_few = omega (arith, many, to.few)

  abbrev table : Table
  table = table_in w

  abbrev leaf : ℕ
  leaf = leaf_for (steps_in w) table key 0

  abbrev on_path : List ℕ
  on_path = path (steps_in w) table key 0

  path-is : ids ≡ on_path
  path-is = to.ids

  last-is : last_of ids ≡ leaf
  last-is =
      ap (λ (n : ℕ). get_or ids (n - 1) 0) many ∙
      get_or-take p.length lent (p.length - 1) 0 (omega (arith, to.some)) ∙
      to.end

  -- The put, by what its leaf says.
  module _ (t : Tariff) (value : ℕ) (f : Result (Unit {0}) ℕ) (e : f ≡ fit_of key (pairs_in p.leaf)) where
    pairs_are : pairs_in p.leaf ≡ pairs_of (table leaf)
    pairs_are = ap pairs_of to.leaf.is

    fit_is : fit_of key (pairs_of (table leaf)) ≡ f
    fit_is = ap (fit_of key) (sym pairs_are) ∙ sym e

    -- it fits
    pub put-edit : {P T : ℕ} (pages : List (List ℕ)) (held : Worktable) (answer : Answer) (r : Charged) → f ≡ Ok tt →
        answer ≡ value_or Replaced (lookup key (pairs_in p.leaf)) →
        RequestsAs P T pages held r w.state (read_and_edit t ids (last_of ids) (node_of p.leaf) key value w) →
        DoneAs P T pages held (record { charged = r; answer = answer }) w.state (put t key value w)
    unfolding put_in
    put-edit pages held answer r room said k =
        let done : answering answer (read_and_edit t ids (last_of ids) (node_of p.leaf) key value w) ≡ put t key value w =
        ap₂ (λ (xs : List ℕ) (id : ℕ). answering answer (read_and_edit t xs id (node_of p.leaf) key value w)) path-is last-is ∙
        ap₂ (λ (a : Answer) (x : Node). answering a (read_and_edit t on_path leaf x key value w))
        (said ∙ ap (λ (ps : List Pair). value_or Replaced (lookup key ps)) pairs_are) to.leaf.is ∙
        rw (fit_is ∙ room) refl in
        done-is done (record { charged = k; answer = refl })

    -- it does not
    module _ (at : ℕ) (full : f ≡ Err at) where
      pub leaf-full : most_keys ≤ size_at table (last_of ids)
      leaf-full =
          omega (
            arith,
            (full-above key (pairs_in p.leaf) at (sym e ∙ full)).1,
            ap length pairs_are,
            ap (size_at table) last-is,
          )

      pub put_new : put_splitting t ids (ids_needed table ids) key value w ≡ put t key value w
      unfolding put_in
      put_new = ap (λ (xs : List ℕ). put_splitting t xs (ids_needed table xs) key value w) path-is ∙ rw (fit_is ∙ full) refl
