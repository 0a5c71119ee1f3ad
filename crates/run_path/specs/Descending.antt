-- A walk down a node at a time: what is left of it from a node gives the whole. Assumes nothing.
use Rattle.std.specs.Prelude.{◌≡◌, List, None, Some}
use Rattle.std.proofs.Math.Path.{refl}
use Rattle.std.proofs.Common.{sym, ap, ap₂, ◌∙◌, zero-add, arith}
use Prim.Native.Nat.{ℕ, zero, suc, ◌+◌, ◌-◌, ◌*◌, ◌≤◌, ◌<◌}
use Rattle.std.proofs.Math.Nat.{sub-zero}
use Rattle.layout.specs.Layout.{node_limit, most_blocks}
use Rattle.account.specs.declared.Tariff.{Tariff}
use Rattle.account.specs.ServeLaws.{most_charge}
use Rattle.pairs.specs.Pairs.{Pair}
use Rattle.node.specs.declared.Shape.TheVariants.{Leaf, Branch}
use Rattle.node.specs.declared.NodeValue.{NodeValue}
use Rattle.node.specs.Node.{node}
use Rattle.node.specs.Search.{child_place, pointer_at}
use Rattle.node.specs.Value.{Becomes}
use Rattle.tree.specs.Table.{child_for}
use Rattle.store.specs.Serve.{read}
use Rattle.flash_rows.specs.Worktable.{Worktable}
use Rattle.flash_allocate.specs.World.{World, world, Good}
use Rattle.run_serve.specs.Step.{Charged}
use Rattle.run_serve.specs.Serve.{serve, charge, ServedAs}
use Rattle.run_path.specs.Path.{table_in, steps_in}
use Rattle.run_path.specs.Steps.{slot-place}
use Rattle.run_path.specs.Descend.{Descent, ended, further, descend, descent, DescendedAs}

-- A walk from a node: it ends there, or goes on at the child.
module _ (t : Tariff) (k id : ℕ) (w : World) where
  pub descend-leaf : child_for k (table_in w id) ≡ None → (fuel : ℕ) → descend fuel t k id w ≡ ended t id w
  unfolding descend
  descend-leaf e zero = refl
  descend-leaf e (suc fuel) = rw (e, descend) refl

  pub descend_out : descend 0 t k id w ≡ ended t id w
  unfolding descend
  descend_out = refl

  pub descend_step : (child fuel : ℕ) → child_for k (table_in w id) ≡ Some child →
      descend (suc fuel) t k id w ≡ further (charge t id read w) (descend fuel t k child (serve t id read w))
  unfolding descend
  descend_step child fuel e = rw (e, descend) refl

further-none : (d : Descent) → further 0 d ≡ d
further-none d = ap (λ (n : ℕ). record { now = d.now; charge = n; leaf = d.leaf; node = d.node }) (zero-add d.charge)

further_more : (m n : ℕ) (d : Descent) → further (m + n) d ≡ further m (further n d)
further_more m n d = ap (λ (n : ℕ). record { now = d.now; charge = n; leaf = d.leaf; node = d.node }) (omega arith)

-- After i reads: the node that the walk has come to, and what was paid.
pub record Descending (pool_length table_length : ℕ) (t : Tariff) (k : ℕ) (start : World) (i id : ℕ) (now : World) (paid : ℕ) : Type 0 where
  pub good : Good pool_length table_length now.state
  pub blocks : now.state.blocks ≡ start.state.blocks
  pub nodes : now.state.nodes ≡ start.state.nodes
  pub checkpoint : now.state.checkpoint ≡ start.state.checkpoint
  pub steps : i ≤ steps_in start
  pub rest : further paid (descend (steps_in start - i) t k id now) ≡ descent t k start
  pub most : paid ≤ most_charge * i

pub descending_start : (pool_length table_length : ℕ) (t : Tariff) (k : ℕ) (w : World) → Good pool_length table_length w.state →
    Descending pool_length table_length t k w 0 0 w 0
descending_start p q t k w g =
    record {
      good = g;
      blocks = refl;
      nodes = refl;
      checkpoint = refl;
      steps = omega arith;
      rest = further-none (descend (steps_in w - 0) t k 0 w) ∙ ap (λ (n : ℕ). descend n t k 0 w) (sub-zero (steps_in w));
      most = omega arith;
    }

-- One read more, of the node that the walk has come to.
module _ {p q : ℕ} {t : Tariff} {k : ℕ} {start : World} {i id : ℕ} {now : World} {paid : ℕ} (d : Descending p q t k start i id now paid)
    {p' q' : ℕ} {pages : List (List ℕ)} {table : Worktable} {c : Charged} (s : ServedAs p' q' pages table c t id read now) where
  abbrev after : World
  after = world pages table c.state

  -- it is a branch, and a step is left
  pub descending_next : (ks : List Pair) (last child : ℕ) → table_in now id ≡ node Branch ks last → child ≡ pointer_at ks last (child_place k ks) →
      i + 1 < start.state.nodes → Descending p' q' t k start (i + 1) child after (paid + c.charge)
  descending_next ks last child e f l =
      let leads : child_for k (table_in now id) ≡ Some child =
      ap (child_for k) e ∙ ap (λ (j : ℕ). Some (pointer_at ks last j)) (slot-place k ks) ∙ ap Some (sym f) in
      let fuel : steps_in start - i ≡ suc (steps_in start - (i + 1)) = omega arith in
      let left : ℕ = steps_in start - (i + 1) in
      record {
        good = s.kept.good;
        blocks = s.kept.blocks ∙ d.blocks;
        nodes = s.kept.nodes ∙ d.nodes;
        checkpoint = s.kept.checkpoint ∙ d.checkpoint;
        steps = omega arith;
        rest =
            further_more paid c.charge (descend left t k child after) ∙
            ap₂ (λ (n : ℕ) (w : World). further paid (further n (descend left t k child w))) s.charge s.kept.is ∙
            ap (further paid) (sym (ap (λ (n : ℕ). descend n t k id now) fuel ∙ descend_step t k id now child left leads)) ∙
            d.rest;
        most = omega (arith, s.most, d.most);
      }

  -- the walk ends there
  module _ (v : NodeValue) (b : Becomes v (table_in now id)) (limit : start.state.nodes ≤ node_limit most_blocks) where
    ends : descend (steps_in start - i) t k id now ≡ ended t id now →
        DescendedAs p' q' pages table
        (record { charged = record { state = c.state; charge = paid + c.charge }; id = id; leaf = v }) t k start
    ends e =
        let whole : further paid (ended t id now) ≡ descent t k start = ap (further paid) (sym e) ∙ d.rest in
        record {
          charged =
              record {
                kept =
                    record {
                      is = s.kept.is ∙ ap (λ (d : Descent). d.now) whole;
                      good = s.kept.good;
                      blocks = s.kept.blocks ∙ d.blocks;
                      nodes = s.kept.nodes ∙ d.nodes;
                      checkpoint = s.kept.checkpoint ∙ d.checkpoint;
                    };
                charge = ap (λ (n : ℕ). paid + n) s.charge ∙ ap (λ (d : Descent). d.charge) whole;
                most = omega (arith, s.most, d.most, d.steps);
              };
          id = ap (λ (d : Descent). d.leaf) whole;
          leaf = rw (← ap (λ (d : Descent). d.node) whole) b;
        }

    pub descended_leaf : (ps : List Pair) (next : ℕ) → table_in now id ≡ node Leaf ps next →
        DescendedAs p' q' pages table
        (record { charged = record { state = c.state; charge = paid + c.charge }; id = id; leaf = v }) t k start
    descended_leaf ps next e = ends (descend-leaf t k id now (ap (child_for k) e) (steps_in start - i))

    pub descended_out : start.state.nodes ≤ i + 1 →
        DescendedAs p' q' pages table
        (record { charged = record { state = c.state; charge = paid + c.charge }; id = id; leaf = v }) t k start
    descended_out l =
        let none : steps_in start - i ≡ 0 = omega arith in
        ends (ap (λ (n : ℕ). descend n t k id now) none ∙ descend_out t k id now)
