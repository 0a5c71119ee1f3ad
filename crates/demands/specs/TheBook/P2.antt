-- DOCUMENT 02, P2. "The batch returns 16 charges in place of one, each that of the panel's own commands, all 0 when refused. The three-times bound is
-- about their sum, the old charge." That each is the reference model's is demand 3's `charges`, and `prepared_bound` is about the sums. Assumes
-- nothing.
use Rattle.std.specs.Prelude.{◌≡◌, List, ℕ, ◌^◌, ◌≤◌, ◌<◌, Some}
use Rattle.laws.specs.BigEndian.{Bytes}
use Rattle.layout.specs.Layout.{node_limit}
use Rattle.account.specs.declared.Tariff.{Tariff}
use Rattle.pairs.specs.Pairs.{Pair}
use Rattle.command.specs.declared.Command.{Command}
use Rattle.command.specs.Batch.{commands_of}
use Rattle.book.specs.Book.{Book, charges}
use Rattle.book.specs.Session.{at_first}
use Rattle.book.specs.InTurn.{no_charges}
use Rattle.book.specs.Batch.{requests_book}
use Rattle.model.specs.Pool.{blocks_of}
use Rattle.model.specs.Outcome.{charge}
use Rattle.model.specs.Call.{Call, outcome, batch_of}
use Rattle.model.specs.Calls.{fed_of, commands_in}
use Rattle.demands.specs.CommandBytes.{commands_of_batch}
use Rattle.demands.specs.Panels.{unnamed, SameBut, unnamed-leaves}
use Rattle.demands.specs.CallBytes.{CallBytes, run-bytes}
use Rattle.demands.specs.OneCall.{called}
use Rattle.demands.specs.CallCharge.{call-charge-fits}
use Rattle.demands.specs.Standing.{stands_open}
use Rattle.demands.specs.TheBook.DemandOne.{demand_one}
use Rattle.demands.specs.TheBook.Stands.{Stands}

-- A refused call returns sixteen zeros, after 1 and 2 too.
pub refused-zero : (pool : List ℕ) (c : Call) → 1 ≤ (outcome pool c).number → (outcome pool c).charges ≡ no_charges
refused-zero pool c = (demand_one pool c).no_charge

-- The sixteen charges of a call add up to what all its node requests are charged.
pub charges-sum : {t : Tariff} {pool : List ℕ} {b : Book} {ps : List Pair} → Stands t pool b ps → (c : Call) → CallBytes c →
    charge (outcome pool c) ≡ charges t (requests_book (node_limit (blocks_of pool)) (commands_in (fed_of pool c)) (at_first t) b) b
charges-sum s c bytes = (called (stands_open s) c (run-bytes c bytes)).paid

-- They fit in 64 bits, their sum too, by far: whatever the pool and the call hold, it is below 2^44.
pub charges_fit : (pool : List ℕ) → Bytes pool → (c : Call) → CallBytes c → charge (outcome pool c) < 2 ^ 44
charges_fit = call-charge-fits

-- Panels are invisible: on any pool, with any table and answer buffer, a batch and the same batch without its panels return the same number and
-- length, leave the same pool, table and answers, and are charged the same in sum.
pub panels_invisible : (pool table buffer batch batch' : List ℕ) (cs : List Command) → Bytes batch → commands_of batch ≡ Some cs →
    commands_of batch' ≡ Some (unnamed cs) → SameBut (batch_of pool table batch buffer) (batch_of pool table batch' buffer)
panels_invisible pool table buffer batch batch' cs bytes e f =
    unnamed-leaves pool table buffer cs (commands_of_batch batch bytes cs e).valid batch batch' e f
