-- A REQUEST WITH ITS CONTENT IN HAND is the request that reads it, where what is in hand is the node of the table. Assumes nothing.
use Rattle.std.specs.Prelude.{◌≡◌, ◌⊎◌, ℕ, ◌≤◌, ◌<◌}
use Rattle.std.proofs.Math.Path.{sym, ap}
use Rattle.std.proofs.Common.{◌∙◌, inl, inr, le-ltb}
use Rattle.laws.specs.Order.{le_or}
use Rattle.account.specs.declared.Tariff.{Tariff}
use Rattle.node.specs.Node.{Node}
use Rattle.store.specs.Serve.{Work}
use Rattle.model.specs.State.{State, book_of}
use Rattle.flash_allocate.specs.World.{World}
use Rattle.flash_read.specs.NodeTable.{table_of, table_of_in}
use Rattle.run_serve.specs.Content.{content_of}
use Rattle.run_serve.specs.Serve.{serve_holding, serve}
use Rattle.run_refines.specs.Commands.Lists.{Runs}
use Rattle.run_refines.specs.Commands.Tables.{table_agrees}

-- The node that the table has in this world; of a node that is not there both serve nothing.
module _ (t : Tariff) (n : ℕ) (x : Node) (work : Work) (w : World) (e : x ≡ table_of w.pages w.table w.state n) where
  content-is : n < w.state.nodes → content_of n w ≡ x
  unfolding content_of
  content-is l = sym (table_of_in w.pages w.table w.state n l) ∙ sym e

  pub serve-here : serve_holding t n x work w ≡ serve t n work w
  unfolding serve serve_holding
  serve-here = go (le_or w.state.nodes n)
    where
      go : (w.state.nodes ≤ n) ⊎ (n < w.state.nodes) → serve_holding t n x work w ≡ serve t n work w
      go (inl l) = rw (le-ltb n w.state.nodes l)
      go (inr l) = ap (λ (z : Node). serve_holding t n z work w) (sym (content-is l))

-- The node that the book of a state has with which the world agrees.
pub serve_holding_lem : {blocks : ℕ} {w : World} {s : State} (k : Runs blocks w s) (n : ℕ) (x : Node) → x ≡ (book_of s).table n → (t : Tariff) (work : Work) →
    serve_holding t n x work w ≡ serve t n work w
serve_holding_lem {w = w} k n x e t work = serve-here t n x work w (e ∙ sym (ap (λ (table : ℕ → Node). table n) (table_agrees k)))
