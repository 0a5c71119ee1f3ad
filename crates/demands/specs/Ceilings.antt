-- Ceilings (document 02, P3): a batch, and the same batch with scans in their places, "of that route to FFFFFFFF with a most of 1", leave the same but for
-- what is answered. Assumes nothing.
use Rattle.std.specs.Prelude.{◌≡◌, List, [], ◌∷◌, ℕ, ◌+◌, Some}
use Rattle.std.proofs.Math.Path.{refl, ap}
use Rattle.laws.specs.Update.{only}
use Rattle.layout.specs.Layout.{last_key, node_limit}
use Rattle.account.specs.declared.Tariff.{Tariff}
use Rattle.command.specs.declared.Command.{Command}
use Rattle.command.specs.declared.Command.TheVariants.{Scan, Ceiling}
use Rattle.command.specs.Command.{room_for}
use Rattle.command.specs.Batch.{commands_of, room_for_all}
use Rattle.store.specs.Reopen.{pool_of}
use Rattle.book.specs.Command.{requests}
use Rattle.book.specs.Session.{Session, at_first}
use Rattle.book.specs.SessionAfter.{session_after}
use Rattle.book.specs.EachPanel.{each_same}
use Rattle.model.specs.State.{State}
use Rattle.model.specs.Batch.{reply_of, done, cost, run, charge_of, closed}
use Rattle.model.specs.Bytes.{bytes_of}
use Rattle.model.specs.Pool.{blocks_of}
use Rattle.model.specs.Outcome.{Outcome, accept}
use Rattle.model.specs.Call.{batch_of}
use Rattle.demands.specs.TwoBatches.{both_end}

-- The same commands in the same order, but that such a scan may stand for a ceiling.
pub data ScansFor : List Command → List Command → Type 0 where
  nothing : ScansFor [] []
  same : (c : Command) {cs ds : List Command} → ScansFor cs ds → ScansFor (c ∷ cs) (c ∷ ds)
  scan : (k : ℕ) {cs ds : List Command} → ScansFor cs ds → ScansFor (Ceiling k ∷ cs) (Scan k last_key 1 ∷ ds)

-- Two ends of a call that differ in the answers alone.
pub record SameReads (o o' : Outcome) : Type 0 where
  pub number : o.number ≡ o'.number
  pub pool : o.pool ≡ o'.pool
  pub table : o.table ≡ o'.table
  pub charges : o.charges ≡ o'.charges

-- They ask for the same room: 11 bytes are 3 + 8 × 1.
scans_room : {cs ds : List Command} → ScansFor cs ds → room_for_all cs ≡ room_for_all ds
scans_room nothing = refl
scans_room (same c r) = ap (λ (n : ℕ). room_for c + n) (scans_room r)
scans_room (scan k r) = ap (λ (n : ℕ). 11 + n) (scans_room r)

module _ (limit : ℕ) where
  scans_run : {cs ds : List Command} → ScansFor cs ds → (n : Session) (s : State) → run limit cs n s ≡ run limit ds n s
  unfolding requests
  scans_run nothing n s = refl
  scans_run (same c r) n s = scans_run r (session_after c (reply_of limit n c s) n) (done limit n c s)
  scans_run (scan k r) n s = scans_run r n (done limit n (Ceiling k) s)

  scans_charge : {cs ds : List Command} → ScansFor cs ds → (q : ℕ) (n : Session) (s : State) → charge_of limit q cs n s ≡ charge_of limit q ds n s
  unfolding requests
  scans_charge nothing q n s = refl
  scans_charge (same c r) q n s =
      ap (λ (k : ℕ). only n.panel (cost limit n c s) q + k)
      (scans_charge r q (session_after c (reply_of limit n c s) n) (done limit n c s))
  scans_charge (scan k r) q n s =
      ap (λ (m : ℕ). only n.panel (cost limit n (Ceiling k) s) q + m) (scans_charge r q n (done limit n (Ceiling k) s))

-- A CEILING READS AS SUCH A SCAN: on any pool, with any table and answer buffer, refusals too.
pub scans_same : (pool table buffer : List ℕ) (cs ds : List Command) → ScansFor cs ds → (batch batch' : List ℕ) → commands_of batch ≡ Some cs →
    commands_of batch' ≡ Some ds → SameReads (batch_of pool table batch buffer) (batch_of pool table batch' buffer)
scans_same pool table buffer cs ds r =
    both_end SameReads (λ o. record { number = refl; pool = refl; table = refl; charges = refl }) pool table buffer cs ds (scans_room r) accepts
  where
    accepts : (t : Tariff) (s : State) → SameReads (accept (blocks_of pool) t cs s table buffer) (accept (blocks_of pool) t ds s table buffer)
    accepts t s =
        let limit = node_limit (blocks_of pool) in
        record {
          number = refl;
          pool = ap (λ (z : State). bytes_of (pool_of (closed t z).run.now)) (scans_run limit r (at_first t) s);
          table = refl;
          charges =
              each_same (λ q. charge_of limit q cs (at_first t) s) (λ q. charge_of limit q ds (at_first t) s) (λ q. scans_charge limit r q (at_first t) s);
        }
