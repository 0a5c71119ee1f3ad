-- A NODE REQUEST SERVED BY THE CODE agrees with the model: pages, rows and state afterwards, and the charge. One law over every request. Assumes nothing.
use Rattle.std.specs.Prelude.{◌≡◌, ℕ, ◌+◌, ◌≤◌, ◌<◌}
use Rattle.std.proofs.Math.Path.{refl}
use Rattle.std.proofs.Common.{sym, ap, ◌∙◌, subst, arith}
use Rattle.laws.specs.Update.{update}
use Rattle.layout.specs.Layout.{most_blocks, node_limit, bound32}
use Rattle.account.specs.declared.Mode.{Mode}
use Rattle.account.specs.declared.Tariff.{Tariff}
use Rattle.account.specs.declared.Account.{Account}
use Rattle.account.specs.Serve.{serve_of}
use Rattle.node.specs.Narrow.{Narrow}
use Rattle.tree.specs.Table.{Table}
use Rattle.tree.specs.NodeRequest.{NodeRequest, read, edit, rewrite, create, id_of}
use Rattle.tree.specs.Fit.{Fit}
use Rattle.store.specs.Run.{Run}
use Rattle.store.specs.Serve.{Work}
use Rattle.store.specs.Serve as Store
use Rattle.store_laws.specs.Contents.{neat_fits}
use Rattle.store_laws.specs.StoreFits.{StoreFits}
use Rattle.store_laws.specs.Keeps.{Keeps, Fits}
use Rattle.book.specs.Book as Book
use Rattle.model.specs.State.{State, book_of}
use Rattle.model.specs.State as Model
use Rattle.flash_allocate.specs.World.{World}
use Rattle.demands.specs.Says.{book_of-account}
use Rattle.flash_write.specs.Group as Code
use Rattle.flash_refines.specs.Store.Follows.{Follows, Writable}
use Rattle.flash_refines.specs.Write.Requests.{create_follows}
use Rattle.run_serve.specs.Serve.{request_of, serve, charge}
use Rattle.run_refines.specs.Requests.Work.{note_follows, charge_follows, serve_follows}

-- Pages, rows and state agree with a state of the model.
abbrev pub Agrees : World → State → Type 0
Agrees w s = Follows s.score w s.run

-- What the code makes of a request, and what it charges. A create is no request of Account: "creates .. are free".
abbrev pub served : Tariff → NodeRequest → World → World
served t (read n) w = serve t n Store.read w
served t (edit n c) w = serve t n (Store.edit c) w
served t (rewrite n x) w = serve t n (Store.rewrite x) w
served t (create n x) w = Code.create x w

abbrev pub charged : Tariff → NodeRequest → World → ℕ
charged t (read n) w = charge t n Store.read w
charged t (edit n c) w = charge t n (Store.edit c) w
charged t (rewrite n x) w = charge t n (Store.rewrite x) w
charged t (create n x) w = 0

-- What is known where a request is served: the store holds a table of neat nodes that fit in bytes, the request fits that table, its node
-- has 32-bit numbers, and enough sequence numbers are left.
pub record Ready (B count : ℕ) (table : Table) (modes : ℕ → Mode) (r : NodeRequest) (run : Run) : Type 0 where
  pub few : B ≤ most_blocks
  pub keeps : Keeps B count table modes run
  pub fits : StoreFits run.now
  pub fit : Fit (node_limit B) r table count
  pub narrow : Narrow (table (id_of r))
  pub number : 5 + run.now.last < bound32

module _ {B count : ℕ} {table : Table} {modes : ℕ → Mode} {r : NodeRequest} {run : Run} (k : Ready B count table modes r run) where
  writable : Writable B run
  writable = record { few = k.few; good = k.keeps.good; fits = k.fits }

-- A request of Account.
module _ (t : Tariff) (s : State) (w : World) (a : Agrees w s) (n : ℕ) (there : n < s.run.nodes) (work : Work) where
  charge-said : {B : ℕ} → Writable B s.run → charge t n work w ≡ (serve_of t ((book_of s).account n) (request_of work)).charge
  charge-said b = charge_follows b a n there t work ∙ ap (λ (z : Account). (serve_of t z (request_of work)).charge) (sym (book_of-account s n there))

  serve-said : {B count : ℕ} {table : Table} {modes : ℕ → Mode} → Writable B s.run → Keeps B count table modes s.run → Narrow (table n) → Fits
      work (table n) →
      5 + s.run.now.last < bound32 →
      let after = (serve_of t ((book_of s).account n) (request_of work)).account in
      Follows (update s.score n after.score) (serve t n work w) (Store.serve after.mode n work s.run)
  serve-said {count = count} {table = table} b v narrow fits number =
      let there' : n < count = omega (arith, v.nodes) in
      subst
      (λ (z : Account).
      let after = (serve_of t z (request_of work)).account in
      Follows (update s.score n after.score) (serve t n work w) (Store.serve after.mode n work s.run))
      (sym (book_of-account s n there))
      (serve_follows b a n there (table n) (v.holds n there').content (v.neat n there') narrow work fits number t)

module _ {B count : ℕ} {table : Table} {modes : ℕ → Mode} (t : Tariff) (s : State) (w : World) (a : Agrees w s) where
  -- THE STATE AFTER A REQUEST
  pub serve_agrees : (r : NodeRequest) → Ready B count table modes r s.run → Agrees (served t r w) (Model.serve t r s)
  unfolding Model.serve Store.create
  serve_agrees (read n) k =
      serve-said t s w a n (omega (arith, k.keeps.nodes, k.fit)) Store.read (writable k) k.keeps k.narrow tt k.number
  serve_agrees (edit n c) k =
      serve-said t s w a n (omega (arith, k.keeps.nodes, k.fit.0)) (Store.edit c) (writable k) k.keeps k.narrow (k.fit.2, k.fit.1) k.number
  serve_agrees (rewrite n x) k =
      serve-said t s w a n (omega (arith, k.keeps.nodes, k.fit.0)) (Store.rewrite x) (writable k) k.keeps k.narrow k.fit.1 k.number
  serve_agrees (create n x) k = created
    where
      created : Follows (update s.score n 0) (Code.create x w) (Store.create n x s.run)
      created =
          rw (k.fit.0, ← k.keeps.nodes)
          (note_follows
          (create_follows (writable k) a x (neat_fits x k.fit.2) (omega (arith, k.number)) (omega (arith, k.keeps.nodes, k.fit.0, k.fit.1))))

  -- THE CHARGE OF A REQUEST
  pub charge_agrees : (r : NodeRequest) → Ready B count table modes r s.run → charged t r w ≡ Book.charge t r (book_of s)
  unfolding Book.charge
  charge_agrees (read n) k = charge-said t s w a n (omega (arith, k.keeps.nodes, k.fit)) Store.read (writable k)
  charge_agrees (edit n c) k = charge-said t s w a n (omega (arith, k.keeps.nodes, k.fit.0)) (Store.edit c) (writable k)
  charge_agrees (rewrite n x) k = charge-said t s w a n (omega (arith, k.keeps.nodes, k.fit.0)) (Store.rewrite x) (writable k)
  charge_agrees (create n x) k = refl
