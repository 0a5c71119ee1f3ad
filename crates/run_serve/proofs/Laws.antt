-- Results said otherwise, and the steps of a request put together. Assumes nothing.
use mathlib.Core.Path.{◌≡◌, refl, sym, ap, ap₂, ◌∙◌, subst}
use mathlib.Core.Bool.{true, false}
use mathlib.Core.List.{List}
use Prim.Native.Nat.{ℕ, ◌≤◌, ◌<◌}
use native.Mathlib.Omega.{arith}
use borrow.Author.Tests.{lt-ltb, le-ltb}
use lib.ListN.{get_or}
use denote.Enum.Bare.{sameb}
use Rattle.account.specs.contracts.Mode.{the_type}
use Rattle.account.specs.declared.Mode.{Mode}
use Rattle.account.specs.declared.Mode.TheVariants.{Log, Disk}
use Rattle.account.specs.declared.Request.{Request}
use Rattle.account.specs.declared.Tariff.{Tariff}
use Rattle.account.specs.declared.Account.{Account}
use Rattle.account.specs.declared.Served.{Served}
use Rattle.account.specs.Serve.{serve_of}
use Rattle.account.specs.ServeLaws.{Accounted}
use Rattle.node.specs.declared.NodeValue.{NodeValue}
use Rattle.node.specs.Node.{Node}
use Rattle.node.specs.Value.{Becomes}
use Rattle.store.specs.Serve.{Work}
use Rattle.flash_rows.specs.Row.{no_row}
use Rattle.flash_rows.specs.Worktable.{Worktable}
use Rattle.flash_rows.specs.declared.Row.{Row}
use Rattle.flash_allocate.specs.declared.state.State.{State}
use Rattle.flash_allocate.specs.World.{World, world, Good, Kept}
use Rattle.run_serve.specs.Step.{Charged, uncharged, kept-is, kept_same, kept_then, charged-none, charged-is}
use Rattle.run_serve.specs.Content.{content_of, content_after}
use Rattle.run_serve.specs.Write.{write_whole, write}
use Rattle.run_serve.specs.Settle.{account_in, served_at, same_mode, switch, rescored, settle_by, settle, Settled, settled_by, SettledAs}
use Rattle.run_serve.specs.Serve.{request_of, serve_there, serve_holding, serve, charge, ServedAs, ServedHolding}

-- A result that stands for what is said in another way.
pub becomes_is : {v : NodeValue} {x y : Node} → Becomes v x → x ≡ y → Becomes v y
becomes_is b e = record { is = b.is ∙ e; held = b.held }

-- The code compares modes by their derived equality.
pub same_mode-equal : (a b : Mode) → same_mode a b ≡ sameb the_type a b
same_mode-equal Log Log = refl
same_mode-equal Log Disk = refl
same_mode-equal Disk Log = refl
same_mode-equal Disk Disk = refl

-- A switch: none between equal modes, else the content that the node has.
module _ {P T : ℕ} (from to : Mode) (n : ℕ) (x : Node) (w : World) where
  pub switch-none : same_mode from to ≡ true → Good P T w.state → Kept P T w.state w (switch from to n x w)
  unfolding switch
  switch-none e g = kept-is (kept_same w g) (rw e refl)

  pub switch-whole : (y : Node) (w₁ : World) → same_mode from to ≡ false → y ≡ x → Kept P T w.state w₁ (write_whole to n y w) →
      Kept P T w.state w₁ (switch from to n x w)
  unfolding switch
  switch-whole y w₁ e f k = kept-is k (ap (λ (z : Node). write_whole to n z w) f ∙ rw e refl)

-- The row loaded, its account served, the switch, and the score in the row that the switch leaves.
module _ {P T T' : ℕ} (t : Tariff) (q : Request) (n : ℕ) (x : Node) (w w₁ : World) (row : Row) (account : Account) (served : Served)
    (table₂ : Worktable) (r : row ≡ get_or w.table.rows n no_row) (a : account ≡ account_in row) (f : Accounted t account q served)
    (k : Kept P T w.state w₁ (switch row.mode served.account.mode n x w))
    (e : table₂ ≡ rescored n served.account.score w₁.table) (l : T' ≡ T) (result : Settled)
    (g : result ≡ settled_by w₁.state served) where
  is-served : served ≡ served_at t q n w
  is-served = f.is ∙ ap (λ (z : Account). serve_of t z q) (a ∙ ap account_in r)

  is-settled : world w₁.pages table₂ w₁.state ≡ settle t q n x w
  unfolding settle_by
  is-settled =
      ap (λ (table : Worktable). world w₁.pages table w₁.state) e ∙
      ap (λ (z : World). world z.pages (rescored n served.account.score z.table) z.state) k.is ∙
      ap₂ (λ (m : Mode) (z : Served). settle_by m z.account n x w) (ap (λ (z : Row). z.mode) r) is-served

  pub settled : SettledAs P T' w₁.pages table₂ result t q n x w
  settled =
      subst (λ (z : Settled). SettledAs P T' w₁.pages table₂ z t q n x w) (sym g)
      (record {
        charged =
            record {
              kept =
                  record {
                    is = is-settled;
                    good = subst (λ (z : ℕ). Good P z w₁.state) (sym l) k.good;
                    blocks = k.blocks;
                    nodes = k.nodes;
                    checkpoint = k.checkpoint;
                  };
              charge = ap (λ (z : Served). z.charge) is-served;
              most = omega (arith, f.most);
            };
        mode = ap (λ (z : Served). z.account.mode) is-served;
      })

-- A request of a node that is there: the account settled, then the own change with the content that the request leaves.
module _ {P T P' T' : ℕ} (t : Tariff) (n : ℕ) (x : Node) (work : Work) (w : World) (there : n < w.state.nodes)
    (pages₁ : List (List ℕ)) (table₁ : Worktable) (r : Settled)
    (s : SettledAs P T pages₁ table₁ r t (request_of work) n x w) (y : Node) (e : y ≡ content_after work x) where
  pub served_there : (pages₂ : List (List ℕ)) (table₂ : Worktable) (s₂ : State) →
      Kept P' T' r.charged.state (world pages₂ table₂ s₂) (write r.mode n work y (world pages₁ table₁ r.charged.state)) →
      ServedHolding P' T' pages₂ table₂ (record { state = s₂; charge = r.charged.charge }) t n x work w
  unfolding serve_holding serve_there charge
  served_there pages₂ table₂ s₂ k =
      record {
        kept = kept-is (kept_then (write r.mode n work y) s.charged.kept k) own;
        charge = s.charged.charge ∙ rw (lt-ltb n w.state.nodes there) refl;
        most = s.charged.most;
      }
    where
      own : write r.mode n work y (settle t (request_of work) n x w) ≡ serve_holding t n x work w
      own =
          ap₂ (λ (m : Mode) (z : Node). write m n work z (settle t (request_of work) n x w)) s.mode e ∙
          rw (lt-ltb n w.state.nodes there) refl

-- A request of a node that is not there.
pub served_nowhere : {P T : ℕ} (t : Tariff) (n : ℕ) (x : Node) (work : Work) (w : World) → w.state.nodes ≤ n → Good P T w.state →
    ServedHolding P T w.pages w.table (uncharged w.state) t n x work w
unfolding serve_holding charge
served_nowhere t n x work w h g =
    charged-is (charged-none w (kept_same w g)) (omega arith) (rw (le-ltb n w.state.nodes h) refl) (rw (le-ltb n w.state.nodes h) refl)

-- A request whose content in hand is the one that it would read.
pub served-read : {P T : ℕ} {pages : List (List ℕ)} {table : Worktable} {r : Charged} (t : Tariff) (n : ℕ) (x : Node) (work : Work) (w : World) →
    x ≡ content_of n w → ServedHolding P T pages table r t n x work w → ServedAs P T pages table r t n work w
unfolding serve
served-read t n x work w e k = charged-is k (omega arith) (ap (λ (z : Node). serve_holding t n z work w) e) refl
