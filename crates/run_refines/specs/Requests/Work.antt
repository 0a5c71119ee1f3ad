-- A REQUEST'S OWN CHANGE follows the store's, and so does the whole request, served in a mode. Assumes nothing.
use Rattle.std.specs.Prelude.{◌≡◌, ℕ, ◌+◌, ◌<◌}
use Rattle.std.proofs.Math.Path.{refl, ap}
use Rattle.std.proofs.Common.{sym, subst, arith, lt-ltb}
use Rattle.laws.specs.Update.{update}
use Rattle.layout.specs.Layout.{bound32}
use Rattle.account.specs.declared.Mode.{Mode}
use Rattle.account.specs.declared.Mode.TheVariants.{Log, Disk}
use Rattle.account.specs.declared.Tariff.{Tariff}
use Rattle.account.specs.declared.Account.{Account}
use Rattle.account.specs.declared.Served.{Served}
use Rattle.account.specs.Serve.{serve_of}
use Rattle.node.specs.Node.{Node, Neat}
use Rattle.node.specs.Change.{Change, change}
use Rattle.node.specs.Narrow.{Narrow}
use Rattle.node.specs.Replay.{made}
use Rattle.store.specs.Store.{node_in, draft_of, node_of, mode_of}
use Rattle.store.specs.Run.{Run}
use Rattle.store.specs.Serve.{Work, read, edit, rewrite, work_on, note}
use Rattle.store.specs.Serve as Store
use Rattle.store_laws.specs.Contents.{neat_fits, redo-made}
use Rattle.flash_refines.specs.Store.RowModes.{row_mode_is}
use Rattle.store_laws.specs.Keeps.{Fits}
use Rattle.flash_allocate.specs.World.{World}
use Rattle.flash_refines.specs.Store.Mirror.{row_at}
use Rattle.flash_refines.specs.Store.Follows.{Follows, Writable}
use Rattle.flash_refines.specs.Write.Requests.{edit_follows}
use Rattle.flash_refines.specs.Write.NodePages.{node_page_follows}
use Rattle.flash_refines.specs.Read.Content.{content_follows}
use Rattle.run_serve.specs.Content.{draft_at, content_of, edited_of, content_after}
use Rattle.run_serve.specs.Write.{write}
use Rattle.run_serve.specs.Settle.{account_at, settle_by, settle}
use Rattle.run_serve.specs.Serve.{request_of, serve_there, serve_holding, serve, charge}
use Rattle.run_refines.specs.Requests.Writes.{Stays, whole_follows}
use Rattle.run_refines.specs.Requests.Switches.{switch_stays, settle_follows}

-- The own change, in the mode that the node is in by then.
module _ {B : ℕ} {score : ℕ → ℕ} {w : World} {run : Run} (b : Writable B run) (f : Follows score w run) (n : ℕ) (there : n < run.nodes) (x : Node)
    (number : 3 + run.now.last < bound32) where
  edit-own : (m : Mode) (c : Change) → Neat (change c x) → Follows score (write m n (edit c) (change c x) w) (Store.work m n (edit c) x run)
  edit-own Log c neat = edit_follows b f n there c (change c x) (neat_fits (change c x) neat) number
  edit-own Disk c neat = node_page_follows b (omega arith) f n there (change c x)

  rewrite_own : (m : Mode) (y : Node) → Neat y → Follows score (write m n (rewrite y) y w) (Store.work m n (rewrite y) x run)
  rewrite_own Log y neat = whole_follows b n there y neat (omega arith) f Log
  rewrite_own Disk y neat = whole_follows b n there y neat (omega arith) f Disk

  own_follows : (m : Mode) (work : Work) → Fits work x → Follows score (write m n work (work_on work x) w) (Store.work m n work x run)
  own_follows m read fits = f
  own_follows m (edit c) fits = edit-own m c fits.1
  own_follows m (rewrite y) fits = rewrite_own m y fits

-- The state after a request is among those passed, which the relation does not see.
pub note_follows : {score : ℕ → ℕ} {w : World} {run : Run} → Follows score w run → Follows score w (note run)
note_follows f =
    record { table = f.table; nodes = f.nodes; no_checkpoint_page = f.no_checkpoint_page; mirrors = f.mirrors; buffer = f.buffer; scores = f.scores }

module _ {B : ℕ} {score : ℕ → ℕ} {w : World} {run : Run} (b : Writable B run) (f : Follows score w run) (n : ℕ) (there : n < run.nodes) where
  inside : n < w.state.nodes
  inside = omega (arith, f.nodes)

  -- THE ACCOUNT in a node's row is that of the mode that the store says, and of the score.
  account-is : account_at n w ≡ record { mode = mode_of run.now n; score = score n }
  account-is =
      let m = row_mode_is (row_at w.table.rows n).mode run.now n (f.mirrors.rows.mode n inside) in
      let s = f.scores n there in
      λ i. record { mode = sym m i; score = s i }

  abbrev account : Account
  account = record { mode = mode_of run.now n; score = score n }

  -- THE CHARGE
  pub charge_follows : (t : Tariff) (work : Work) → charge t n work w ≡ (serve_of t account (request_of work)).charge
  unfolding charge
  charge_follows t work = rw (lt-ltb n w.state.nodes inside) (ap (λ (a : Account). (serve_of t a (request_of work)).charge) account-is)

  -- ONE REQUEST of a node whose content is neat, with 32-bit numbers.
  module _ (x : Node) (held : draft_of run.now n ≡ made x) (neat : Neat x) (narrow : Narrow x) (work : Work) (fits : Fits work x)
      (number : 5 + run.now.last < bound32) (t : Tariff) where
    draft_is : draft_at n w ≡ made x
    draft_is = content_follows b f n there x held neat

    content-is : content_of n w ≡ x
    unfolding content_of
    content-is = ap node_in draft_is

    after_is : (work : Work) → Fits work x → content_after work x ≡ work_on work x
    unfolding edited_of
    after_is read fits = refl
    after_is (edit c) fits = ap node_in (redo-made c x fits.0 fits.1)
    after_is (rewrite y) fits = refl

    abbrev served : Served
    served = serve_of t account (request_of work)

    abbrev switched : Run
    switched = Store.switch (mode_of run.now n) served.account.mode n x run

    settled : Follows (update score n served.account.score) (settle t (request_of work) n x w) switched
    settled =
        subst
        (λ (a : Account). Follows (update score n served.account.score) (settle_by a.mode (serve_of t a (request_of work)).account n x w) switched)
        (sym account-is)
        (settle_follows b n there x neat (omega arith) f narrow (mode_of run.now n) served.account)

    left : Stays B run switched
    left = switch_stays b n there x neat (omega arith) narrow (mode_of run.now n) served.account.mode

    node_is : node_of run.now n ≡ x
    unfolding node_of
    node_is = ap node_in held

    own : Follows (update score n served.account.score) (serve_holding t n x work w) (Store.work served.account.mode n work x switched)
    unfolding serve_holding serve_there
    own =
        rw (lt-ltb n w.state.nodes inside, after_is work fits)
        (subst
        (λ (a : Account). Follows (update score n served.account.score)
        (write (serve_of t a (request_of work)).account.mode n work (work_on work x) (settle t (request_of work) n x w))
        (Store.work served.account.mode n work x switched))
        (sym account-is)
        (own_follows left.writable settled n (omega (arith, left.nodes)) x (omega (arith, left.last)) served.account.mode work fits))

    holding_follows : Follows (update score n served.account.score) (serve_holding t n x work w) (Store.serve served.account.mode n work run)
    unfolding Store.serve
    holding_follows = rw node_is (note_follows own)

    pub serve_follows : Follows (update score n served.account.score) (serve t n work w) (Store.serve served.account.mode n work run)
    unfolding serve
    serve_follows = rw content-is holding_follows
