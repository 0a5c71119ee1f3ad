-- The two ways of a delete put together from their requests. Assumes nothing.
use Rattle.std.specs.Prelude.{◌≡◌, List, ℕ, ◌+◌, Option, None, Some}
use Rattle.std.proofs.Common.{sym, ap, ap₂, ◌∙◌, arith}
use Rattle.account.specs.declared.Tariff.{Tariff}
use Rattle.node.specs.Node.{Node}
use Rattle.node.specs.Value.{node_of}
use Rattle.node.specs.Change.{remove}
use Rattle.store.specs.Serve.{edit}
use Rattle.command.specs.declared.Answer.TheVariants.{Absent, Deleted}
use Rattle.command.specs.Answer.{value_or}
use Rattle.flash_rows.specs.Worktable.{Worktable}
use Rattle.flash_allocate.specs.World.{World, world}
use Rattle.run_serve.specs.Serve.{serve_holding, charge, ServedHolding}
use Rattle.run_serve.specs.Step.{Charged, kept_then, charged-is, both, then}
use Rattle.run_path.specs.Descend.{descent, Arrived, DescendedAs}
use Rattle.run_lookup.specs.Value.{value_in}
use Rattle.run_lookup.specs.Delete.{deletion, deletion_charge, delete, delete_charge, DeletedAs}

-- After the walk down.
module _ {P T : ℕ} {pages : List (List ℕ)} {table : Worktable} (t : Tariff) (k : ℕ) (w : World) {walk : Arrived}
    (down : DescendedAs P T pages table walk t k w) where
  -- what is done in the world that it leaves, by what was at the key
  abbrev done : ℕ → Node → Option ℕ → World
  done leaf x o = deletion t o leaf x k (descent t k w).now

  abbrev paid : ℕ → Option ℕ → ℕ
  paid leaf o = (descent t k w).charge + deletion_charge t o leaf k (descent t k w).now

  -- the key is not there
  pub deleted-none : value_in t k w ≡ None → DeletedAs P T pages table (record { charged = walk.charged; answer = Absent }) t k w
  unfolding delete delete_charge
  deleted-none e =
      record {
        charged =
            charged-is down.charged (omega arith) (ap (done (descent t k w).leaf (descent t k w).node) (sym e))
            (omega (arith, ap (paid (descent t k w).leaf) e));
        answer = sym (ap (value_or Deleted) e);
      }

  -- it is, and the leaf is edited
  pub deleted-one : {P' T' : ℕ} {pages' : List (List ℕ)} {table' : Worktable} {d : Charged} (old : ℕ) → value_in t k w ≡ Some old →
      ServedHolding P' T' pages' table' d t walk.id (node_of walk.leaf) (edit (remove k)) (world pages table walk.charged.state) →
      DeletedAs P' T' pages' table' (record { charged = both walk.charged d; answer = Deleted old }) t k w
  unfolding delete delete_charge
  deleted-one old e s =
      let step = serve_holding t walk.id (node_of walk.leaf) (edit (remove k)) in
      record {
        charged =
            charged-is (then step (charge t walk.id (edit (remove k))) (kept_then step) down.charged s) (omega arith)
            (ap₂ (λ (leaf : ℕ) (x : Node). done leaf x (Some old)) down.id down.leaf.is ∙
            ap (done (descent t k w).leaf (descent t k w).node) (sym e))
            (ap₂ paid down.id (sym e));
        answer = sym (ap (value_or Deleted) e);
      }
