-- Panels (document 02, P2): the sixteen charges add up to what all commands cost, and a batch without its panels leaves the same but for who is
-- charged. Assumes nothing.
use Rattle.std.specs.Prelude.{◌≡◌, refl, List, [], ◌∷◌, ◌++◌, ℕ, zero, suc, ◌+◌, ◌<◌, length, Some}
use Rattle.std.proofs.Common.{sym, ap, ap₂, ◌∙◌, subst, arith}
use Rattle.laws.specs.Lay.{lay}
use Rattle.laws.specs.Update.{only, sum, sum_below, sum_below-add, sum-only}
use Rattle.layout.specs.Layout.{panels, node_limit}
use Rattle.account.specs.declared.Tariff.{Tariff}
use Rattle.command.specs.declared.Command.{Command}
use Rattle.command.specs.declared.Command.TheVariants.{Panel}
use Rattle.command.specs.Command.{Valid, room_for}
use Rattle.command.specs.Batch.{commands_of, room_for_all, named, ValidAll}
use Rattle.tree.specs.NodeRequest.{NodeRequest}
use Rattle.store.specs.Reopen.{pool_of}
use Rattle.book.specs.Command.{Reply, reply_bytes, replies_bytes, requests, answer}
use Rattle.book.specs.Session.{Session, at_first, with_panel}
use Rattle.book.specs.SessionAfter.{session_after}
use Rattle.book.specs.InTurn.{each_panel, total, charge_on}
use Rattle.book.specs.Naming.{Naming, sets, keeps}
use Rattle.book.proofs.Naming.{naming, panel-below, requests-panel, answer-panel}
use Rattle.book.specs.EachPanel.{sum_each}
use Rattle.model.specs.State.{State, book_of, serve_all, charges}
use Rattle.model.specs.Batch.{reply_of, done, cost, run, answers, closed}
use Rattle.model.specs.Bytes.{bytes_of}
use Rattle.model.specs.Pool.{blocks_of}
use Rattle.model.specs.Outcome.{Outcome, charge, accept}
use Rattle.model.specs.Call.{batch_of}
use Rattle.demands.specs.TwoBatches.{both_end}

-- THE SUM, of any kind of book.
module _ {B : Type 0} (reply : Session → Command → B → Reply) (after : Session → Command → B → B)
    (amount : Session → Command → B → ℕ) where
  sum-total : (cs : List Command) (n : Session) (b : B) → ValidAll cs → n.panel < panels →
      sum_below panels (λ q. charge_on reply after amount q cs n b) ≡ total reply after amount cs n b
  sum-total [] n b valid l = refl
  sum-total (c ∷ cs) n b valid l =
      let m = session_after c (reply n c b) n in
      sum_below-add panels (only n.panel (amount n c b)) (λ q. charge_on reply after amount q cs m (after n c b)) ∙
      omega (
        arith,
        sum-only panels n.panel (amount n c b) l,
        sum-total cs m (after n c b) valid.1 (panel-below n c panels (λ p e. subst Valid e valid.0) l),
      )

  pub sum-charges : (cs : List Command) (n : Session) (b : B) → ValidAll cs → n.panel < panels →
      sum (each_panel (λ q. charge_on reply after amount q cs n b)) ≡ total reply after amount cs n b
  sum-charges cs n b valid l = sum_each (λ q. charge_on reply after amount q cs n b) ∙ sum-total cs n b valid l

-- A BATCH WITHOUT ITS PANELS
abbrev pub unless_named : ℕ → Command → List Command → List Command
unless_named zero c cs = c ∷ cs
unless_named (suc k) c cs = cs

abbrev pub unnamed : List Command → List Command
unnamed [] = []
unnamed (c ∷ cs) = unless_named (named c) c (unnamed cs)

unnamed_valid : (cs : List Command) → ValidAll cs → ValidAll (unnamed cs)
unnamed_valid [] h = tt
unnamed_valid (c ∷ cs) h = go (naming c) (unnamed_valid cs h.1)
  where
    go : Naming c → ValidAll (unnamed cs) → ValidAll (unnamed (c ∷ cs))
    go (sets panel e) r = rw e r
    go (keeps none same task) r = rw none (h.0, r)

-- It asks for the same room.
pub unnamed-room : (cs : List Command) → room_for_all cs ≡ room_for_all (unnamed cs)
unnamed-room [] = refl
unnamed-room (c ∷ cs) = go (naming c) (unnamed-room cs)
  where
    go : Naming c → room_for_all cs ≡ room_for_all (unnamed cs) → room_for_all (c ∷ cs) ≡ room_for_all (unnamed (c ∷ cs))
    go (sets panel e) r = rw e (omega (arith, r))
    go (keeps none same task) r = rw none (ap (λ (n : ℕ). room_for c + n) r)

module _ (limit : ℕ) where
  -- Two batches that leave the same, each in its session: the state, the bytes of the answers, what all commands cost.
  record Same (cs ds : List Command) (n m : Session) (s : State) : Type 0 where
    pub state : run limit cs n s ≡ run limit ds m s
    pub answers : replies_bytes (answers limit cs n s) ≡ replies_bytes (answers limit ds m s)
    pub total : total (reply_of limit) (done limit) (cost limit) cs n s ≡ total (reply_of limit) (done limit) (cost limit) ds m s

  -- A command in front of both, whichever panel is current in one of them.
  in_both : (c : Command) {cs ds : List Command} (n : Session) (q : ℕ) (s : State) →
      ((p : ℕ) → Same cs ds (session_after c (reply_of limit n c s) n) (with_panel p (session_after c (reply_of limit n c s) n)) (done limit n c s)) →
      Same (c ∷ cs) (c ∷ ds) n (with_panel q n) s
  in_both c {cs} {ds} n q s rest =
      let asked = sym (requests-panel q n limit c (book_of s)) in
      let m : Session = session_after c (reply_of limit (with_panel q n) c s) (with_panel q n) in
      let r = rest m.panel in
      let same : done limit n c s ≡ done limit (with_panel q n) c s = ap (λ (rs : List NodeRequest). serve_all n.tariff rs s) asked in
      record {
        state = r.state ∙ ap (run limit ds m) same;
        answers =
            ap₂ {B = List ℕ} ◌++◌ (ap reply_bytes (sym (answer-panel q n limit c (book_of s))))
            (r.answers ∙ ap (λ (z : State). replies_bytes (answers limit ds m z)) same);
        total =
            ap₂ ◌+◌ (ap (λ (rs : List NodeRequest). charges n.tariff rs s) asked)
            (r.total ∙ ap (total (reply_of limit) (done limit) (cost limit) ds m) same);
      }

  -- A panel in front of one.
  in_one : (panel : ℕ) {cs ds : List Command} (n : Session) {m : Session} (s : State) →
      Same cs ds (with_panel panel n) m s → Same (Panel panel ∷ cs) ds n m s
  unfolding requests answer
  in_one panel n s r = record { state = r.state; answers = r.answers; total = omega (arith, r.total) }

  unnamed_same : (cs : List Command) (n : Session) (q : ℕ) (s : State) → Same cs (unnamed cs) n (with_panel q n) s
  unnamed_same [] n q s = record { state = refl; answers = refl; total = refl }
  unnamed_same (c ∷ cs) n q s = go (naming c) (λ n q z. unnamed_same cs n q z)
    where
      go : Naming c → ((n : Session) (q : ℕ) (z : State) → Same cs (unnamed cs) n (with_panel q n) z) →
          Same (c ∷ cs) (unnamed (c ∷ cs)) n (with_panel q n) s
      go (sets panel e) rest = rw e (in_one panel n s (rest (with_panel panel n) q s))
      go (keeps none same task) rest = rw none (in_both c n q s (λ p. rest (session_after c (reply_of limit n c s) n) p (done limit n c s)))

-- Two ends of a call that differ in nothing but in whom they charge.
pub record SameBut (o o' : Outcome) : Type 0 where
  pub number : o.number ≡ o'.number
  pub pool : o.pool ≡ o'.pool
  pub table : o.table ≡ o'.table
  pub answers : o.answers ≡ o'.answers
  pub length : o.length ≡ o'.length
  pub charge : charge o ≡ charge o'

same_but : {o o' : Outcome} → o ≡ o' → SameBut o o'
same_but e =
    record {
      number = ap (λ (x : Outcome). x.number) e;
      pool = ap (λ (x : Outcome). x.pool) e;
      table = ap (λ (x : Outcome). x.table) e;
      answers = ap (λ (x : Outcome). x.answers) e;
      length = ap (λ (x : Outcome). x.length) e;
      charge = ap charge e;
    }

module _ (pool table buffer : List ℕ) (cs : List Command) (valid : ValidAll cs) where
  accepts_same : (t : Tariff) (s : State) → SameBut (accept (blocks_of pool) t cs s table buffer) (accept (blocks_of pool) t (unnamed cs) s table buffer)
  accepts_same t s =
      let limit = node_limit (blocks_of pool) in
      let r = unnamed_same limit cs (at_first t) 0 s in
      let paid = sum-charges (reply_of limit) (done limit) (cost limit) in
      record {
        number = refl;
        pool = ap (λ (z : State). bytes_of (pool_of (closed t z).run.now)) r.state;
        table = refl;
        answers = ap (lay buffer 0) r.answers;
        length = ap (λ (bytes : List ℕ). length bytes) r.answers;
        charge = omega (arith, paid cs (at_first t) s valid (omega arith), paid (unnamed cs) (at_first t) s (unnamed_valid cs valid) (omega arith), r.total);
      }

  -- PANELS LEAVE NO TRACE: not in the number, not in the pool, not in table or answers, not in the sum of the charges.
  pub unnamed-leaves : (batch batch' : List ℕ) → commands_of batch ≡ Some cs → commands_of batch' ≡ Some (unnamed cs) →
      SameBut (batch_of pool table batch buffer) (batch_of pool table batch' buffer)
  unnamed-leaves = both_end SameBut (λ o. same_but refl) pool table buffer cs (unnamed cs) (unnamed-room cs) accepts_same
