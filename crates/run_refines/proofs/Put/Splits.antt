-- THE SPLITS that the code makes are the tree's requests: a rewrite and a create, or two creates and the rewrite of the root. Assumes nothing.
use Rattle.std.specs.Prelude.{◌≡◌, None, Some}
use Rattle.std.proofs.Math.Path.{refl, sym, ap, ap₂}
use Rattle.std.proofs.Common.{◌∙◌, subst, arith, lt-ltb}
use mathlib.Core.List.{List, [], ◌∷◌, ◌++◌, append_assoc}
use Prim.Native.Nat.{ℕ, suc, ◌+◌, ◌<◌}
use Rattle.std.proofs.Math.Numerals.{add-one}
use Rattle.layout.specs.Layout.{node_limit}
use Rattle.account.specs.declared.Tariff.{Tariff}
use Rattle.node.specs.declared.Shape.TheVariants.{Branch}
use Rattle.node.specs.Node.{Node, node, Neat}
use Rattle.node.specs.Halves.{lower_half, middle_key, upper_half}
use Rattle.tree.specs.Table.{Table}
use Rattle.tree.specs.NodeRequest.{NodeRequest, rewrite, create, apply, apply_all, count_after, count_after_all}
use Rattle.tree.specs.Fit.{Fits}
use Rattle.store.specs.Serve as Store
use Rattle.flash_allocate.specs.World.{World}
use Rattle.run_serve.specs.Serve.{serve, charge}
use Rattle.run_split.specs.declared.Pending.TheVariants.{Halves}
use Rattle.run_split.specs.Absorbing.{absorbing, absorbing-is}
use Rattle.run_split.specs.Split.{grow, split_below, split_root}
use Rattle.run_refines.specs.Commands.Lists.{served_all, charged_all}
use Rattle.run_refines.proofs.Commands.Lists.{served_all-append}
use Rattle.run_refines.proofs.Put.Moments.{Moment}

-- A list of requests that fits a table of neat nodes, and the world after each of its beginnings.
pub record Course (B : ℕ) (t : Tariff) (table : Table) (count : ℕ) (w : World) (all : List NodeRequest) : Type 0 where
  pub final : ℕ
  pub fits : Fits (node_limit B) all table count final
  pub moments : (rs more : List NodeRequest) → rs ++ more ≡ all → Moment B t table count w rs
  pub neat : (i : ℕ) → i < count → Neat (table i)

pub count_after_all-append : (rs ss : List NodeRequest) (count : ℕ) → count_after_all (rs ++ ss) count ≡ count_after_all ss (count_after_all rs count)
count_after_all-append [] ss count = refl
count_after_all-append (r ∷ rs) ss count = count_after_all-append rs ss (count_after r count)

pub fits-behind : (limit : ℕ) (rs ss : List NodeRequest) (table : Table) (count final : ℕ) → Fits limit (rs ++ ss) table count final →
    Fits limit ss (apply_all rs table) (count_after_all rs count) final
fits-behind limit [] ss table count final f = f
fits-behind limit (r ∷ rs) ss table count final f = fits-behind limit rs ss (apply r table) (count_after r count) final f.1

module _ {B : ℕ} {t : Tariff} {table : Table} {count : ℕ} {w : World} {all : List NodeRequest} (c : Course B t table count w all) where
  -- A create among the requests: the limit leaves an id for it.
  grow-is : (rs more : List NodeRequest) (n : ℕ) (x : Node) → rs ++ (create n x ∷ more) ≡ all →
      grow x (served_all t rs w) ≡ served_all t (rs ++ (create n x ∷ [])) w
  unfolding grow
  grow-is rs more n x e =
      let m = c.moments rs (create n x ∷ more) e in
      let f =
      (fits-behind (node_limit B) rs (create n x ∷ more) table count c.final
      (subst (λ (z : List NodeRequest). Fits (node_limit B) z table count c.final) (sym e) c.fits)).0 in
      let made = served_all t rs w in
      let room : made.state.nodes < node_limit made.state.blocks = omega (arith, m.nodes, m.blocks, f.0, f.1) in
      rw (lt-ltb made.state.nodes (node_limit made.state.blocks) room) (sym (served_all-append t rs (create n x ∷ []) w))

  module _ (rs more : List NodeRequest) (n : ℕ) (next : n ≡ count_after_all rs count) (whole : Node) where
    abbrev below : ℕ → List NodeRequest
    below id = rewrite id (lower_half whole n) ∷ create n (upper_half whole) ∷ []

    abbrev crown : Node
    crown = node Branch ((middle_key whole, n) ∷ []) (suc n)

    abbrev rooting : List NodeRequest
    rooting = create n (lower_half whole (suc n)) ∷ create (suc n) (upper_half whole) ∷ rewrite 0 crown ∷ []

    abbrev here : World
    here = served_all t rs w

    -- A NODE BELOW THE ROOT
    pub below-is : (id : ℕ) → (rs ++ below id) ++ more ≡ all →
        split_below t id whole here ≡ absorbing (served_all t (rs ++ below id) w) (charged_all t (below id) here) (Some (Halves (middle_key whole) id n))
    unfolding split_below
    below-is id e =
        let lower = rewrite id (lower_half whole n) in
        let nodes : here.state.nodes ≡ n =
        (c.moments rs (below id ++ more) (sym (append_assoc rs (below id) more) ∙ e)).nodes ∙ sym next in
        let grown =
        grow-is (rs ++ (lower ∷ [])) more n (upper_half whole)
        (append_assoc rs (lower ∷ []) (create n (upper_half whole) ∷ more) ∙ sym (append_assoc rs (below id) more) ∙ e) in
        absorbing-is
        (ap (λ (j : ℕ). grow (upper_half whole) (serve t id (Store.rewrite (lower_half whole j)) here)) nodes ∙
        ap (grow (upper_half whole)) (sym (served_all-append t rs (lower ∷ []) w)) ∙
        grown ∙
        ap (λ (z : List NodeRequest). served_all t z w) (append_assoc rs (lower ∷ []) (create n (upper_half whole) ∷ [])))
        (ap (λ (j : ℕ). charge t id (Store.rewrite (lower_half whole j)) here) nodes ∙ omega arith)
        (ap (λ (j : ℕ). Some (Halves (middle_key whole) id j)) nodes)

    -- THE ROOT
    pub root_is : (rs ++ rooting) ++ more ≡ all → split_root t whole here ≡ absorbing (served_all t (rs ++ rooting) w) (charged_all t rooting here) None
    unfolding split_root
    root_is e =
        let lower = create n (lower_half whole (suc n)) in
        let upper = create (suc n) (upper_half whole) in
        let nodes : here.state.nodes ≡ n = (c.moments rs (rooting ++ more) (sym (append_assoc rs rooting more) ∙ e)).nodes ∙ sym next in
        let right : here.state.nodes + 1 ≡ suc n = add-one here.state.nodes ∙ ap suc nodes in
        let whole-list = sym (append_assoc rs rooting more) ∙ e in
        let one = grow-is rs (upper ∷ rewrite 0 crown ∷ more) n (lower_half whole (suc n)) whole-list in
        let two =
        grow-is (rs ++ (lower ∷ [])) (rewrite 0 crown ∷ more) (suc n) (upper_half whole)
        (append_assoc rs (lower ∷ []) (upper ∷ rewrite 0 crown ∷ more) ∙ whole-list) in
        let grown : grow (upper_half whole) (grow (lower_half whole (here.state.nodes + 1)) here) ≡ served_all t (lower ∷ upper ∷ []) here =
        ap (λ (j : ℕ). grow (upper_half whole) (grow (lower_half whole j) here)) right ∙
        ap (grow (upper_half whole)) one ∙
        two ∙
        ap (λ (z : List NodeRequest). served_all t z w) (append_assoc rs (lower ∷ []) (upper ∷ [])) ∙
        served_all-append t rs (lower ∷ upper ∷ []) w in
        let top : node Branch ((middle_key whole, here.state.nodes) ∷ []) (here.state.nodes + 1) ≡ crown =
        ap₂ (λ (i j : ℕ). node Branch ((middle_key whole, i) ∷ []) j) nodes right in
        absorbing-is
        (ap₂ (λ (x : Node) (z : World). serve t 0 (Store.rewrite x) z) top grown ∙ sym (served_all-append t rs rooting w))
        (ap₂ (λ (x : Node) (z : World). charge t 0 (Store.rewrite x) z) top grown ∙ omega arith) refl
